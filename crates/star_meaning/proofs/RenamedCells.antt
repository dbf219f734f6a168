-- Cells do the same whatever the names of cells.
use Rattle.std.proofs.Common.{◌≡◌, ℕ, ◌+◌, ◌-◌, List, [], ◌∷◌, ◌++◌, map, refl, sym, ap, ◌∙◌}
use Rattle.std.specs.Prelude.{Option, Some, None, option_and_then, true}
use Rattle.std.specs.List.{flat_map}
use Rattle.chex_base.specs.declared.input.Input.{Input}
use Rattle.star_syntax.specs.declared.cell.Program.{Program}
use Rattle.star_syntax.specs.declared.statement.Module.{Module}
use Rattle.star_syntax.specs.declared.statement.Statement.{Statement}
use Rattle.star_syntax.specs.CellParts.{CellParts}
use Rattle.star_syntax.specs.Cells.{numbered}
use Rattle.star_syntax.specs.Placement.{Finding, in_cell, findings, statement_findings}
use Rattle.star_meaning.specs.declared.flow.Flow.{Flow}
use Rattle.star_meaning.specs.declared.flow.Flow.TheVariants as flow
use Rattle.star_meaning.specs.declared.ran.Ran.{Ran}
use Rattle.star_meaning.specs.State.{Object, AList, ADict, AFunction, State}
use Rattle.star_meaning.specs.Steps.{Outcome, Went, Failed}
use Rattle.star_meaning.specs.World.{Fault, World, start}
use Rattle.star_meaning.specs.Expressions.{Callee, Setting}
use Rattle.star_meaning.specs.Statements.{call_to}
use Rattle.star_meaning.specs.Cells.{Shown, function_in, is_def, ran, ran_of, run, shown_setting, statements_from}
use Rattle.star_meaning.specs.Validity.{MachineState, after, number_or, numbered_from, ran_at, renamed, cell_of, cell_or_none, function_at, run_at, shown, numbered_setting}
use Rattle.star_meaning.specs.Renaming.{AreGood, Names, state_as, world_as, outcome_as, SameSteps, SameSetting, SameCallee}
use Rattle.star_meaning.specs.Growing.{Grown, IsKept, IsMade, reached}
use Rattle.star_meaning.specs.Reading.{FindingsIn, body_findings, finding_in}
use Rattle.star_meaning.proofs.Alone.{all_good, itself, leads_of, own}
use Rattle.star_meaning.proofs.ReadingLemmas.{all_findings_in, halves}
use Rattle.star_meaning.proofs.RenamedWorld.{same_going, same_next}
use Rattle.star_meaning.proofs.RenamedStatements.{same_call_to, same_go_on, same_statement}

module _ {C D : Type 0} (name : Names C D) (st : Setting C) (su : Setting D) (same_st : SameSetting name st su) where
  -- what statements of a cell show
  abbrev pub cell_findings : List Statement → List Finding
  cell_findings ss = flat_map (λ s. statement_findings s in_cell) ss

  pub same_statements_from : (c : Callee C) (d : Callee D) → SameCallee name c d → (n : ℕ) (ss : List Statement) → FindingsIn name.reads (cell_findings ss) → SameSteps name (statements_from st c n ss) (statements_from su d n ss)
  same_statements_from c d h n [] r = same_going name flow.On
  same_statements_from c d h n (s ∷ ss) r =
      let parts = halves (finding_in name.reads) (statement_findings s in_cell) (cell_findings ss) r in
      same_next name _ _ _ _ (same_statement name st su same_st c d h s in_cell parts.0 _ (Some n)) (same_go_on name _ _ (same_statements_from c d h (n + is_def s) ss parts.1))

  ran_as : (allowance : ℕ) (o : Outcome (World C) Fault Flow) → ran_of allowance (outcome_as (world_as name.to) o) ≡ ((ran_of allowance o).0, state_as name.to (ran_of allowance o).1)
  ran_as allowance (Went f w) = refl
  ran_as allowance (Failed e w) = refl

  -- a cell that reads no other inputs does the same in a state in which cells have other names and functions read no others
  pub run_as : (tree : Module) → FindingsIn name.reads (findings tree) → (allowance : ℕ) (s : State C) → AreGood name s → run su tree allowance (state_as name.to s) ≡ ((run st tree allowance s).0, state_as name.to (run st tree allowance s).1)
  unfolding run findings
  run_as tree r allowance s good =
      ap (ran_of allowance) (((same_statements_from (call_to st 32) (call_to su 32) (same_call_to name st su same_st 32) 0 tree.statements r).at (start s (allowance - 1)) good).holds)
      ∙ ran_as allowance (statements_from st (call_to st 32) 0 tree.statements (start s (allowance - 1)))

define_as : (n : ℕ) (o : Option CellParts) → function_in (cell_or_none o) n ≡ option_and_then (λ cell. function_in cell n) o
define_as n None = refl
define_as n (Some cell) = refl

-- the numbers of a program's cells, for the cells themselves
abbrev pub numbers_of : Program → ℕ → Names ℕ CellParts
numbers_of program node = record { to = cell_of program; here = node; locked = []; reads = λ n. true; good = λ c. true; here_good = refl }

pub same_numbers : (program : Program) (node : ℕ) (inputs : List (List ℕ × Input)) → SameSetting (numbers_of program node) (numbered_setting program node inputs) (shown_setting (cell_of program node) inputs)
unfolding function_at cell_of
same_numbers program node inputs = record {
  define = λ c n. define_as n (numbered program.cells c);
  here = refl;
  cell = refl;
  inputs = λ n r. refl;
  bodies = λ c n def g e. all_findings_in (body_findings def.body);
}

-- what a cell does in a shown state is what it does by numbers, shown
pub ran_by_numbers : (program : Program) (m : MachineState) (node : ℕ) (inputs : List (List ℕ × Input)) (allowance : ℕ)
    → ran (shown program m) (cell_of program node) inputs allowance ≡ ((run_at program m node inputs allowance).0, state_as (cell_of program) (run_at program m node inputs allowance).1)
unfolding ran shown run_at
ran_by_numbers program m node inputs allowance =
    run_as (numbers_of program node) (numbered_setting program node inputs) (shown_setting (cell_of program node) inputs) (same_numbers program node inputs) (cell_of program node).«module» (all_findings_in (findings (cell_of program node).«module»)) allowance m.state (all_good m.state.objects)

-- ---- what stays of the objects

module _ {C : Type 0} (st : Setting C) where
  reached_as : (os : List (Object C)) (allowance : ℕ) (o : Outcome (World C) Fault Flow) → Grown st.cell os (reached o).store.state.objects → Grown st.cell os (ran_of allowance o).1.objects
  reached_as os allowance (Went f w) h = h
  reached_as os allowance (Failed e w) h = h

  pub run_grows : (tree : Module) (allowance : ℕ) (s : State C) → Grown st.cell s.objects (run st tree allowance s).1.objects
  unfolding run
  run_grows tree allowance s =
      reached_as s.objects allowance (statements_from st (call_to st 32) 0 tree.statements (start s (allowance - 1)))
      (leads_of st.cell _ _ (same_statements_from (own st.cell) st st (itself st) (call_to st 32) (call_to st 32) (same_call_to (own st.cell) st st (itself st) 32) 0 tree.statements (all_findings_in (cell_findings (own st.cell) st st (itself st) tree.statements)))
      (start s (allowance - 1))).later.grown

-- in a shown state
pub shown_grows : (s : Shown) (cell : CellParts) (inputs : List (List ℕ × Input)) (allowance : ℕ) → Grown cell s.objects (ran s cell inputs allowance).1.objects
unfolding ran
shown_grows s cell inputs allowance =
    run_grows (shown_setting cell inputs) cell.«module» allowance s

-- in a machine's state
numbers_grow : (program : Program) (m : MachineState) (node : ℕ) (inputs : List (List ℕ × Input)) (allowance : ℕ) → Grown node m.state.objects (run_at program m node inputs allowance).1.objects
unfolding run_at
numbers_grow program m node inputs allowance =
    run_grows (numbered_setting program node inputs) (cell_of program node).«module» allowance m.state

module _ (node : ℕ) (f : ℕ → CellParts) where
  made_again : (o : Object ℕ) → IsMade node o → renamed (λ cell. node) (renamed f o) ≡ o
  made_again (AList items) h = refl
  made_again (ADict pairs) h = refl
  made_again (AFunction cell number defaults) h = ap (λ c. AFunction c number defaults) (sym h)

  kept_again : (b o : Object ℕ) → IsKept b o → renamed (λ cell. number_or node (Some b)) (renamed f o) ≡ o
  kept_again b (AList items) h = refl
  kept_again b (ADict pairs) h = refl
  kept_again (AFunction c n ds) (AFunction cell number defaults) h = ap (λ k. AFunction k number defaults) (sym h)
  kept_again (AList xs) (AFunction cell number defaults) h = absurd h
  kept_again (ADict xs) (AFunction cell number defaults) h = absurd h

  -- numbers of cells that were shown come back
  numbers_again : (bs os : List (Object ℕ)) → Grown node bs os → numbered_from node bs (map (renamed f) os) ≡ os
  numbers_again [] [] h = refl
  numbers_again [] (o ∷ os) h = ap (λ x. x ∷ numbered_from node [] (map (renamed f) os)) (made_again o h.0) ∙ ap (λ xs. o ∷ xs) (numbers_again [] os h.1)
  numbers_again (b ∷ bs) (o ∷ os) h = ap (λ x. x ∷ numbered_from node bs (map (renamed f) os)) (kept_again b o h.0) ∙ ap (λ xs. o ∷ xs) (numbers_again bs os h.1)
  numbers_again (b ∷ bs) [] h = absurd h

-- the machine state after a cell is what the cell does by numbers, and its node
pub after_by_numbers : (program : Program) (m : MachineState) (node : ℕ) (inputs : List (List ℕ × Input)) (allowance : ℕ)
    → after program m node inputs allowance ≡ record { state = (run_at program m node inputs allowance).1; ran = m.ran ++ node ∷ [] }
unfolding after
after_by_numbers program m node inputs allowance =
    ap (λ (end : Ran × Shown). record { state = record { globals = end.1.globals; objects = numbered_from node m.state.objects end.1.objects }; ran = m.ran ++ node ∷ [] }) (ran_by_numbers program m node inputs allowance)
    ∙ ap (λ os. record { state = record { globals = (run_at program m node inputs allowance).1.globals; objects = os }; ran = m.ran ++ node ∷ [] })
    (numbers_again node (cell_of program) m.state.objects (run_at program m node inputs allowance).1.objects (numbers_grow program m node inputs allowance))

pub ran_at_by_numbers : (program : Program) (m : MachineState) (node : ℕ) (inputs : List (List ℕ × Input)) (allowance : ℕ) → ran_at program m node inputs allowance ≡ (run_at program m node inputs allowance).0
unfolding ran_at
ran_at_by_numbers program m node inputs allowance = ap (λ (end : Ran × Shown). end.0) (ran_by_numbers program m node inputs allowance)

-- what the machine state after a cell shows is the meaning's state
pub after_shows : (program : Program) (m : MachineState) (node : ℕ) (inputs : List (List ℕ × Input)) (allowance : ℕ)
    → shown program (after program m node inputs allowance) ≡ (ran (shown program m) (cell_of program node) inputs allowance).1
unfolding shown
after_shows program m node inputs allowance =
    ap (λ (n : MachineState). shown program n) (after_by_numbers program m node inputs allowance)
    ∙ sym (ap (λ (end : Ran × Shown). end.1) (ran_by_numbers program m node inputs allowance))
