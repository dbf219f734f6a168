-- A cell that is run by numbers, and its end.
use Rattle.std.proofs.Common.{◌≡◌, ℕ, ◌+◌, ◌-◌, ◌*◌, ◌<◌, ◌≤◌, ◌==◌, Bool, true, false, List, [], ◌∷◌, ◌++◌, length, length-append, refl, sym, ap, subst, ◌∙◌, arith, IsTrue, Option, Some, None, slice_get}
use Rattle.std.specs.Prelude.{Result, Ok, Err, IfOk, OnOk, ◌&&◌, ◌||◌, is_some, option_and_then}
use Rattle.std.specs.List.{list_all, list_any}
use Rattle.std.proofs.lemmas.Bool.Decides.{nat_tests}
use Rattle.chex_base.specs.declared.input.Input.{Input}
use Rattle.heap_store.proofs.Tested.{all_mono, all_push, and_both, and_left, and_right}
use Rattle.star_syntax.specs.declared.cell.Program.{Program}
use Rattle.star_syntax.specs.declared.statement.Statement.{Statement}
use Rattle.star_syntax.specs.CellParts.{CellParts}
use Rattle.star_syntax.specs.Cells.{functions_of, numbered}
use Rattle.star_value.specs.declared.value.Value.{Value}
use Rattle.star_meaning.specs.declared.flow.Flow.{Flow}
use Rattle.star_meaning.specs.declared.ran.End.{End}
use Rattle.star_meaning.specs.declared.ran.End.TheVariants as end
use Rattle.star_meaning.specs.declared.ran.Ran.{Ran}
use Rattle.star_meaning.specs.Cells.{function_in, ran_of, run, statements_from}
use Rattle.star_meaning.specs.State.{Object, AList, ADict, AFunction, State}
use Rattle.star_meaning.specs.Statements.{call_to}
use Rattle.star_meaning.specs.Steps.{Outcome, Went, Failed}
use Rattle.star_meaning.specs.Validity.{IsMachine, IsValid, MachineState, after, cell_of, cell_or_none, function_at, has_defaults, is_defined, numbered_setting, ran_at, run_at}
use Rattle.star_meaning.specs.World.{Fault, World, outermost, start}
use Rattle.star_meaning.proofs.RenamedCells.{after_by_numbers, ran_at_by_numbers}
use Rattle.star_run.specs.declared.halt.Halt.{Halt}
use Rattle.star_run.specs.declared.halt.Halt.TheVariants as halt
use Rattle.star_run.specs.Halts.{Halts}
use Rattle.star_run.specs.Own.{Entered, NumbersFrom, OwnGoes, Tells, end_of}
use Rattle.star_run.specs.Running.{Running, world}

-- ---- the machine when the cell is entered

or_left : (a b : Bool) → IsTrue a → IsTrue (a || b)
or_left true b h = refl
or_left false b h = absurd (cc)

or_right : (a b : Bool) → IsTrue b → IsTrue (a || b)
or_right true b h = refl
or_right false b h = h

or_map : (a b c : Bool) → (IsTrue b → IsTrue c) → IsTrue (a || b) → IsTrue (a || c)
or_map true b c f h = refl
or_map false b c f h = f h

-- a node that was entered stays entered
any_before : (test : ℕ → Bool) (ns more : List ℕ) → IsTrue (list_any test ns) → IsTrue (list_any test (ns ++ more))
any_before test [] more h = absurd (cc)
any_before test (n ∷ ns) more h = or_map (test n) (list_any test ns) (list_any test (ns ++ more)) (any_before test ns more) h

any_last : (test : ℕ → Bool) (ns : List ℕ) (n : ℕ) → IsTrue (test n) → IsTrue (list_any test (ns ++ n ∷ []))
any_last test [] n h = or_left (test n) false h
any_last test (m ∷ ns) n h = or_right (test m) (list_any test (ns ++ n ∷ [])) (any_last test ns n h)

same_node : (n : ℕ) → IsTrue (n == n)
same_node n = grind (arith, nat_tests)

-- the machine with one more node
abbrev pub with_node : MachineState → ℕ → MachineState
with_node m node = record m { ran = m.ran ++ node ∷ [] }

pub node_entered : (m : MachineState) (node : ℕ) → Entered node (with_node m node).ran
node_entered m node = any_last (λ n. n == node) m.ran node (same_node node)

module _ (program : Program) (m : MachineState) (node : ℕ) where
  defined_later : (o : Object ℕ) → IsTrue (is_defined program m.ran o) → IsTrue (is_defined program (m.ran ++ node ∷ []) o)
  defined_later (AList items) h = refl
  defined_later (ADict pairs) h = refl
  defined_later (AFunction cell number defaults) h =
      and_both (list_any (λ n. n == cell) (m.ran ++ node ∷ [])) (has_defaults defaults (function_at program cell number))
      (any_before (λ n. n == cell) m.ran (node ∷ []) (and_left (list_any (λ n. n == cell) m.ran) (has_defaults defaults (function_at program cell number)) h))
      (and_right (list_any (λ n. n == cell) m.ran) (has_defaults defaults (function_at program cell number)) h)

  pub valid_entered : IsValid program m → IsTrue (is_some (numbered program.cells node)) → IsMachine (with_node m node) → IsValid program (with_node m node)
  valid_entered valid known kept = record {
    kept = kept;
    values = valid.values;
    nodes = all_push (λ n. is_some (numbered program.cells n)) m.ran node valid.nodes known;
    functions = all_mono (is_defined program m.ran) (is_defined program (m.ran ++ node ∷ [])) defined_later m.state.objects valid.functions;
  }

-- room for an object at each step
pub room_entered : (m : MachineState) (node allowance : ℕ) → length m.state.objects ≤ 1000000 * length m.ran → 1 ≤ allowance → allowance ≤ 1000000
    → length m.state.objects + (allowance - 1) < 1000000 * length (with_node m node).ran
room_entered m node allowance room least most = simp length-append (omega (arith, room, least, most))

-- ---- the functions of the cell

pub numbers_of : (program : Program) (node : ℕ) (cell : CellParts) → numbered program.cells node ≡ Some cell → NumbersFrom program node 0 cell.«module».statements
unfolding function_at
numbers_of program node cell is = record {
  each = λ n.
      let none : 0 + n ≡ n = omega arith in
      ap (λ k. option_and_then (λ c. function_in c k) (numbered program.cells node)) none ∙ ap (option_and_then (λ c. function_in c n)) is;
}

-- ---- the end

module _ (program : Program) (m : MachineState) (node : ℕ) (inputs : List (List ℕ × Input)) (allowance : ℕ) (cell : CellParts) (is : numbered program.cells node ≡ Some cell) where
  abbrev course : Outcome (World ℕ) Fault Flow
  course = statements_from (numbered_setting program node inputs) (call_to (numbered_setting program node inputs) 32) 0 cell.«module».statements (start m.state (allowance - 1))

  run_is : run_at program m node inputs allowance ≡ ran_of allowance course
  unfolding run_at run cell_of
  run_is = ap (λ (c : CellParts). ran_of allowance (statements_from (numbered_setting program node inputs) (call_to (numbered_setting program node inputs) 32) 0 c.«module».statements (start m.state (allowance - 1)))) (ap cell_or_none is)

  end_is : (outcome : Result Flow Halt) (e : End) (w : World ℕ) → Halts course outcome w → end_of outcome ≡ Some e → ran_of allowance course ≡ (record { end = e; out = w.out; steps = allowance - w.store.left }, w.store.state)
  end_is (Ok flow) e w gave ends = let same : end.Done ≡ e = cc in ap (ran_of allowance) gave ∙ ap (λ (x : End). (record { end = x; out = w.out; steps = allowance - w.store.left }, w.store.state)) same
  end_is (Err (halt.Failed f line)) e w gave ends = let same : end.Failed f line ≡ e = cc in ap (ran_of allowance) gave ∙ ap (λ (x : End). (record { end = x; out = w.out; steps = allowance - w.store.left }, w.store.state)) same
  end_is (Err halt.NoMemory) e w gave ends = absurd (cc)

  module _ (outcome : Result Flow Halt) (w : World ℕ) (gave : Halts course outcome w) (r : Ran) (ends : end_of outcome ≡ Some r.end) (out : r.out ≡ w.out) (steps : r.steps ≡ allowance - w.store.left) where
    whole : run_at program m node inputs allowance ≡ (r, w.store.state)
    whole =
        run_is ∙ end_is outcome r.end w gave ends
        ∙ ap (λ (text : List ℕ). (record { end = r.end; out = text; steps = allowance - w.store.left }, w.store.state)) (sym out)
        ∙ ap (λ (n : ℕ). (record { end = r.end; out = r.out; steps = n }, w.store.state)) (sym steps)

    pub ran_is : r ≡ ran_at program m node inputs allowance
    ran_is = sym (ran_at_by_numbers program m node inputs allowance ∙ ap (λ (p : Ran × State ℕ). p.0) whole)

    pub after_is : (reached : MachineState) → reached.state ≡ w.store.state → reached.ran ≡ m.ran ++ node ∷ [] → reached ≡ after program m node inputs allowance
    after_is reached state nodes =
        ap (λ (x : State ℕ). record { state = x; ran = reached.ran }) state ∙ ap (λ (ns : List ℕ). record { state = w.store.state; ran = ns }) nodes
        ∙ sym (after_by_numbers program m node inputs allowance ∙ ap (λ (p : Ran × State ℕ). record { state = p.1; ran = m.ran ++ node ∷ [] }) whole)

-- the run of an entered cell
module _ (program : Program) (m : MachineState) (node : ℕ) (inputs : List (List ℕ × Input)) (allowance : ℕ) (cell : CellParts) (is : numbered program.cells node ≡ Some cell)
    (entered : MachineState) (enters : entered ≡ with_node m node) (begun reached : Running) (starts : begun ≡ record { machine = entered; frame = outermost; out = []; left = allowance - 1 })
    (goes : OwnGoes program begun reached) (last : MachineState) (ends : last ≡ reached.machine) where
  pub cell_valid : IsValid program m → IsTrue (is_some (numbered program.cells node)) → IsMachine entered → IsValid program last
  cell_valid valid known kept =
      let first : IsValid program entered = subst (IsValid program) (sym enters) (valid_entered program m node valid known (subst IsMachine enters kept)) in
      subst (IsValid program) (sym ends) (goes.valid (subst (λ (x : Running). IsValid program x.machine) (sym starts) first))

  nodes_are : last.ran ≡ m.ran ++ node ∷ []
  nodes_are = ap (λ (x : MachineState). x.ran) ends ∙ goes.ran ∙ ap (λ (x : Running). x.machine.ran) starts ∙ ap (λ (x : MachineState). x.ran) enters

  module _ (statements : List Statement) (same : statements ≡ cell.«module».statements) (outcome : Result Flow Halt)
      (gave : Halts (statements_from (numbered_setting program node inputs) (call_to (numbered_setting program node inputs) 32) 0 statements (world begun)) outcome (world reached))
      (text : List ℕ) (count : ℕ) (writes : text ≡ reached.out) (takes : count ≡ allowance - reached.left) where
    from_start : Halts (course program m node inputs allowance cell is) outcome (world reached)
    from_start =
        let here : Halts (statements_from (numbered_setting program node inputs) (call_to (numbered_setting program node inputs) 32) 0 cell.«module».statements (world begun)) outcome (world reached) =
        subst (λ (all : List Statement). Halts (statements_from (numbered_setting program node inputs) (call_to (numbered_setting program node inputs) 32) 0 all (world begun)) outcome (world reached)) same gave in
        let there : Halts (statements_from (numbered_setting program node inputs) (call_to (numbered_setting program node inputs) 32) 0 cell.«module».statements (world (record { machine = entered; frame = outermost; out = []; left = allowance - 1 }))) outcome (world reached) =
        subst (λ (x : Running). Halts (statements_from (numbered_setting program node inputs) (call_to (numbered_setting program node inputs) 32) 0 cell.«module».statements (world x)) outcome (world reached)) starts here in
        subst (λ (x : MachineState). Halts (statements_from (numbered_setting program node inputs) (call_to (numbered_setting program node inputs) 32) 0 cell.«module».statements (start x.state (allowance - 1))) outcome (world reached)) enters there

    pub cell_ran : {E : Type 0} (r : Result Ran E) → IfOk r (λ ran. Tells outcome text count ran) → IfOk r (λ ran. ran ≡ ran_at program m node inputs allowance)
    cell_ran (Ok ran) tells = ran_is program m node inputs allowance cell is outcome (world reached) from_start ran tells.end (tells.out ∙ writes) (tells.steps ∙ takes)
    cell_ran (Err e) tells = tt

    pub cell_after : {E : Type 0} (r : Result Ran E) → IfOk r (λ ran. Tells outcome text count ran) → OnOk r (last ≡ after program m node inputs allowance)
    cell_after (Ok ran) tells =
        after_is program m node inputs allowance cell is outcome (world reached) from_start ran tells.end (tells.out ∙ writes) (tells.steps ∙ takes) last (ap (λ (x : MachineState). x.state) ends) nodes_are
    cell_after (Err e) tells = tt
