-- A cell does the same, and leaves the same state, under inputs that agree on what it and the functions of the state read.
use Rattle.std.proofs.Common.{◌≡◌, ℕ, zero, suc, ◌<◌, ◌≤◌, List, [], ◌∷◌, ◌++◌, length, get_or, take, Some, sym, ap, ◌∙◌, subst, arith}
use Rattle.std.specs.List.{Contains}
use Rattle.std.proofs.lemmas.List.Elements.{All-append, All-nil}
use Rattle.chex_base.specs.Inputs.{value_of}
use Rattle.star_syntax.specs.CellParts.{CellParts}
use Rattle.star_syntax.specs.Cells.{numbered}
use Rattle.star_syntax.specs.declared.cell.Program.{Program}
use Rattle.star_meaning.specs.declared.ran.Ran.{Ran}
use Rattle.star_meaning.specs.State.{Object, AList, ADict, AFunction}
use Rattle.star_meaning.specs.Agreement.{Agree}
use Rattle.star_meaning.specs.Cells.{Shown, ran}
use Rattle.star_meaning.specs.Growing.{Grown}
use Rattle.star_meaning.specs.Laws.{HaveTheirNames as FunctionsHaveNames, names_in_functions}
use Rattle.star_meaning.specs.Validity.{MachineState, after, cell_of, cell_or_none, no_cell, nothing_ran, numbered_from, ran_at, shown}
use Rattle.star_meaning.proofs.AgreementLaw.{only_named_inputs_matter}
use Rattle.star_meaning.proofs.RenamedCells.{after_shows, shown_grows}
use Rattle.exec_tree.specs.declared.checked.Checked.{Checked}
use Rattle.exec_tree.specs.Keys.{InputMap}
use Rattle.exec_tree.specs.Prefixes.{prefixes}
use Rattle.audit_run.specs.Sources.{HaveTheirSources}
use Rattle.audit_run.specs.Visits.{nodes_of, program_of, state_after}
use Rattle.audit_run.proofs.AgreeLemmas.{AreGood, IsGood, SameFirst}
use Rattle.audit_run.proofs.RunLemmas.{state_more}
use Rattle.audit_run.proofs.TreeLemmas.{cell_there, length-nodes_of}
use Rattle.audit_run.proofs.WayLemmas.{no_prefix}

-- ---- inputs that agree on what is read

module _ (one other : InputMap) where
  have_names : (os : List (Object CellParts)) → AreGood one other os → FunctionsHaveNames os
  have_names [] h = tt
  have_names (AList items ∷ os) h = have_names os h
  have_names (ADict pairs ∷ os) h = have_names os h
  have_names (AFunction cell number defaults ∷ os) h = (h.0.names, have_names os h.1)

  agree_names : (os : List (Object CellParts)) → AreGood one other os → Agree (names_in_functions (λ c. c.inputs) os) one other
  agree_names [] h = All-nil (λ (name : List ℕ). value_of one name ≡ value_of other name)
  agree_names (AList items ∷ os) h = agree_names os h
  agree_names (ADict pairs ∷ os) h = agree_names os h
  agree_names (AFunction cell number defaults ∷ os) h =
      All-append (λ (name : List ℕ). value_of one name ≡ value_of other name) cell.inputs (names_in_functions (λ c. c.inputs) os) h.0.agree (agree_names os h.1)

  good_tail : (o : Object CellParts) (os : List (Object CellParts)) → AreGood one other (o ∷ os) → AreGood one other os
  good_tail (AList items) os h = h
  good_tail (ADict pairs) os h = h
  good_tail (AFunction cell number defaults) os h = h.1

  -- functions keep their cells, and new ones have the cell that ran
  grown_good : (here : CellParts) (bs os : List (Object CellParts)) → Grown here bs os → IsGood one other here → AreGood one other bs → AreGood one other os
  grown_good here [] [] g h good = tt
  grown_good here [] (AList items ∷ os) g h good = grown_good here [] os g.1 h good
  grown_good here [] (ADict pairs ∷ os) g h good = grown_good here [] os g.1 h good
  grown_good here [] (AFunction cell number defaults ∷ os) g h good = (subst (IsGood one other) (sym g.0) h, grown_good here [] os g.1 h good)
  grown_good here (b ∷ bs) [] g h good = absurd g
  grown_good here (b ∷ bs) (AList items ∷ os) g h good = grown_good here bs os g.1 h (good_tail b bs good)
  grown_good here (b ∷ bs) (ADict pairs ∷ os) g h good = grown_good here bs os g.1 h (good_tail b bs good)
  grown_good here (AList xs ∷ bs) (AFunction cell number defaults ∷ os) g h good = absurd g.0
  grown_good here (ADict xs ∷ bs) (AFunction cell number defaults ∷ os) g h good = absurd g.0
  grown_good here (AFunction c n ds ∷ bs) (AFunction cell number defaults ∷ os) g h good = (subst (IsGood one other) (sym g.0) good.0, grown_good here bs os g.1 h good.1)

  same_ran : (s : Shown) (cell : CellParts) (allowance : ℕ) → AreGood one other s.objects → IsGood one other cell → ran s cell one allowance ≡ ran s cell other allowance
  same_ran s cell allowance good h =
      only_named_inputs_matter s cell one other allowance h.names (have_names s.objects good)
      (All-append (λ (name : List ℕ). value_of one name ≡ value_of other name) cell.inputs (names_in_functions (λ c. c.inputs) s.objects) h.agree (agree_names s.objects good))

  good_at : (j i : ℕ) (cs ds : List CellParts) (d : CellParts) → i ≤ j → SameFirst one other j cs ds → IsGood one other (get_or cs i d)
  good_at j i [] ds d le h = absurd h
  good_at j i (c ∷ cs) [] d le h = absurd h
  good_at zero zero (c ∷ cs) (e ∷ ds) d le h = h.1
  good_at zero (suc i) (c ∷ cs) (e ∷ ds) d le h = absurd (omega (arith, le))
  good_at (suc j) zero (c ∷ cs) (e ∷ ds) d le h = h.1
  good_at (suc j) (suc i) (c ∷ cs) (e ∷ ds) d le h = good_at j i cs ds d (omega (arith, le)) h.2

-- ---- machine states

after_from : (program : Program) (m : MachineState) (node : ℕ) (one other : InputMap) (allowance : ℕ)
    → ran (shown program m) (cell_of program node) one allowance ≡ ran (shown program m) (cell_of program node) other allowance → after program m node one allowance ≡ after program m node other allowance
unfolding after
after_from program m node one other allowance same =
    let made : Ran × Shown → MachineState =
    λ end. record { state = record { globals = end.1.globals; objects = numbered_from node m.state.objects end.1.objects }; ran = m.ran ++ node ∷ [] } in
    ap made same

ran_from : (program : Program) (m : MachineState) (node : ℕ) (one other : InputMap) (allowance : ℕ)
    → ran (shown program m) (cell_of program node) one allowance ≡ ran (shown program m) (cell_of program node) other allowance → ran_at program m node one allowance ≡ ran_at program m node other allowance
unfolding ran_at
ran_from program m node one other allowance same = ap (λ (end : Ran × Shown). end.0) same

cell_read : (program : Program) (node : ℕ) (cell : CellParts) → numbered program.cells node ≡ Some cell → cell_of program node ≡ cell
unfolding cell_of
cell_read program node cell is = ap cell_or_none is

nothing_shown : (program : Program) (one other : InputMap) → AreGood one other (shown program nothing_ran).objects
unfolding shown
nothing_shown program one other = tt

-- ---- a version's states

module _ (versions : List Checked) (allowance : ℕ) (sources : HaveTheirSources versions) (v : Checked) (there : Contains versions v) where
  abbrev pub program : Program
  program = program_of versions

  abbrev pub nodes : List ℕ
  nodes = nodes_of (prefixes versions) v

  -- the state after so many of its cells
  abbrev pub state : ℕ → MachineState
  state j = state_after program v.inputs allowance (take j nodes)

  pub state_next : (j : ℕ) → j < length v.cells → state (suc j) ≡ after program (state j) (get_or nodes j 0) v.inputs allowance
  state_next j less = let long = length-nodes_of versions v there in state_more program v.inputs allowance nodes j 0 (omega (arith, less, long))

  cell_is : (j : ℕ) → j < length v.cells → cell_of program (get_or nodes j 0) ≡ get_or v.cells j no_cell
  cell_is j less = cell_read program (get_or nodes j 0) (get_or v.cells j no_cell) (cell_there versions v there j no_prefix no_cell sources less)

  module _ (w : Checked) (j : ℕ) (less : j < length v.cells) (same : SameFirst v.inputs w.inputs j v.cells w.cells) where
    good_cell : (i : ℕ) → i ≤ j → IsGood v.inputs w.inputs (cell_of program (get_or nodes i 0))
    good_cell i le = subst (IsGood v.inputs w.inputs) (sym (cell_is i (omega (arith, le, less)))) (good_at v.inputs w.inputs j i v.cells w.cells no_cell le same)

    -- up to this cell the functions of a state read what both inputs have
    good_states : (i : ℕ) → i ≤ j → AreGood v.inputs w.inputs (shown program (state i)).objects
    good_states zero le = nothing_shown program v.inputs w.inputs
    good_states (suc i) le =
        let m : MachineState = state i in
        let n : ℕ = get_or nodes i 0 in
        let s : Shown = shown program m in
        let cell : CellParts = cell_of program n in
        let own : AreGood v.inputs w.inputs (ran s cell v.inputs allowance).1.objects =
        grown_good v.inputs w.inputs cell s.objects (ran s cell v.inputs allowance).1.objects (shown_grows s cell v.inputs allowance) (good_cell i (omega (arith, le))) (good_states i (omega (arith, le))) in
        subst (λ (t : Shown). AreGood v.inputs w.inputs t.objects)
        (sym (ap (shown program) (state_next i (omega (arith, le, less))) ∙ after_shows program m n v.inputs allowance)) own

    same_here : ran (shown program (state j)) (cell_of program (get_or nodes j 0)) v.inputs allowance ≡ ran (shown program (state j)) (cell_of program (get_or nodes j 0)) w.inputs allowance
    same_here =
        same_ran v.inputs w.inputs (shown program (state j)) (cell_of program (get_or nodes j 0)) allowance (good_states j (omega arith)) (good_cell j (omega arith))

    -- so the cell does the same under the other inputs, and leaves the same state
    pub same_after : after program (state j) (get_or nodes j 0) v.inputs allowance ≡ after program (state j) (get_or nodes j 0) w.inputs allowance
    same_after = after_from program (state j) (get_or nodes j 0) v.inputs w.inputs allowance same_here

    pub same_result : ran_at program (state j) (get_or nodes j 0) v.inputs allowance ≡ ran_at program (state j) (get_or nodes j 0) w.inputs allowance
    same_result = ran_from program (state j) (get_or nodes j 0) v.inputs w.inputs allowance same_here
