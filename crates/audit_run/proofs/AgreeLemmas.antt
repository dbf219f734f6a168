-- Versions with equal beginnings do the same there.
use Rattle.std.proofs.Common.{◌≡◌, ℕ, zero, suc, ◌+◌, ◌<◌, List, [], ◌∷◌, ◌++◌, length, get_or, take, drop, map, Option, Some, None, slice_get, refl, sym, ap, ◌∙◌, subst, arith}
use Rattle.std.specs.List.{All, Contains}
use Rattle.std.proofs.lemmas.List.Elements.{All-append, All-cons, All-nil, Contains-append_right, Contains-get_or}
use Rattle.chex_base.specs.declared.input.Input.{Input}
use Rattle.chex_base.specs.Inputs.{value_of}
use Rattle.star_syntax.specs.CellParts.{CellParts}
use Rattle.star_meaning.specs.declared.ran.End.{End}
use Rattle.star_meaning.specs.declared.ran.End.TheVariants as end
use Rattle.star_meaning.specs.declared.ran.Ran.{Ran}
use Rattle.star_meaning.specs.State.{Object, AList, ADict, AFunction, empty}
use Rattle.star_meaning.specs.Agreement.{Agree}
use Rattle.star_meaning.specs.Cells.{Shown, if_done, ran, runs, runs_from}
use Rattle.star_meaning.specs.Growing.{Grown}
use Rattle.star_meaning.specs.Laws.{HasItsNames, HaveTheirNames as FunctionsHaveNames, names_in_functions}
use Rattle.star_meaning.proofs.AgreementLaw.{only_named_inputs_matter}
use Rattle.star_meaning.proofs.RenamedCells.{shown_grows}
use Rattle.exec_tree.specs.declared.checked.Checked.{Checked}
use Rattle.exec_tree.specs.Keys.{InputMap, Key, key_of, named}
use Rattle.audit_run.specs.Sources.{HaveTheirNames, HaveTheirSources}

module _ (one other : InputMap) where
  -- the inputs agree on what the cell reads
  pub record IsGood (cell : CellParts) : Type 0 where
    pub names : HasItsNames cell
    pub agree : Agree cell.inputs one other

  -- and on what the cells of functions read
  abbrev pub AreGood : List (Object CellParts) → Type 0
  AreGood [] = Unit {0}
  AreGood (AList items ∷ os) = AreGood os
  AreGood (ADict pairs ∷ os) = AreGood os
  AreGood (AFunction cell number defaults ∷ os) = IsGood cell × AreGood os

  have_names : (os : List (Object CellParts)) → AreGood os → FunctionsHaveNames os
  have_names [] h = tt
  have_names (AList items ∷ os) h = have_names os h
  have_names (ADict pairs ∷ os) h = have_names os h
  have_names (AFunction cell number defaults ∷ os) h = (h.0.names, have_names os h.1)

  agree_names : (os : List (Object CellParts)) → AreGood os → Agree (names_in_functions (λ c. c.inputs) os) one other
  agree_names [] h = All-nil (λ (name : List ℕ). value_of one name ≡ value_of other name)
  agree_names (AList items ∷ os) h = agree_names os h
  agree_names (ADict pairs ∷ os) h = agree_names os h
  agree_names (AFunction cell number defaults ∷ os) h =
      All-append (λ (name : List ℕ). value_of one name ≡ value_of other name) cell.inputs (names_in_functions (λ c. c.inputs) os) h.0.agree (agree_names os h.1)

  good_tail : (o : Object CellParts) (os : List (Object CellParts)) → AreGood (o ∷ os) → AreGood os
  good_tail (AList items) os h = h
  good_tail (ADict pairs) os h = h
  good_tail (AFunction cell number defaults) os h = h.1

  -- functions keep their cells, and new ones have the cell that ran
  grown_good : (here : CellParts) (bs os : List (Object CellParts)) → Grown here bs os → IsGood here → AreGood bs → AreGood os
  grown_good here [] [] g h good = tt
  grown_good here [] (AList items ∷ os) g h good = grown_good here [] os g.1 h good
  grown_good here [] (ADict pairs ∷ os) g h good = grown_good here [] os g.1 h good
  grown_good here [] (AFunction cell number defaults ∷ os) g h good = (subst IsGood (sym g.0) h, grown_good here [] os g.1 h good)
  grown_good here (b ∷ bs) [] g h good = absurd g
  grown_good here (b ∷ bs) (AList items ∷ os) g h good = grown_good here bs os g.1 h (good_tail b bs good)
  grown_good here (b ∷ bs) (ADict pairs ∷ os) g h good = grown_good here bs os g.1 h (good_tail b bs good)
  grown_good here (AList xs ∷ bs) (AFunction cell number defaults ∷ os) g h good = absurd g.0
  grown_good here (ADict xs ∷ bs) (AFunction cell number defaults ∷ os) g h good = absurd g.0
  grown_good here (AFunction c n ds ∷ bs) (AFunction cell number defaults ∷ os) g h good = (subst IsGood (sym g.0) good.0, grown_good here bs os g.1 h good.1)

  -- a cell does the same under both
  same_ran : (s : Shown) (cell : CellParts) (allowance : ℕ) → AreGood s.objects → IsGood cell → ran s cell one allowance ≡ ran s cell other allowance
  same_ran s cell allowance good h =
      only_named_inputs_matter s cell one other allowance h.names (have_names s.objects good)
      (All-append (λ (name : List ℕ). value_of one name ≡ value_of other name) cell.inputs (names_in_functions (λ c. c.inputs) s.objects) h.agree (agree_names s.objects good))

  -- the cells up to this place are the same
  abbrev pub SameFirst : ℕ → List CellParts → List CellParts → Type 0
  SameFirst j [] ds = ⊥
  SameFirst j (c ∷ cs) [] = ⊥
  SameFirst zero (c ∷ cs) (d ∷ ds) = (c ≡ d) × IsGood c
  SameFirst (suc j) (c ∷ cs) (d ∷ ds) = (c ≡ d) × IsGood c × SameFirst j cs ds

  after_alike : (e : End) (t : Shown) (f g : Shown → List Ran) (j : ℕ) → slice_get (f t) j ≡ slice_get (g t) j → slice_get (if_done e f t) j ≡ slice_get (if_done e g t) j
  after_alike end.Done t f g j h = h
  after_alike (end.Failed failure line) t f g j h = refl

  runs_alike : (allowance : ℕ) (j : ℕ) (s : Shown) (cs ds : List CellParts) → AreGood s.objects → SameFirst j cs ds
      → slice_get (runs_from s cs one allowance) j ≡ slice_get (runs_from s ds other allowance) j
  runs_alike allowance j s [] ds good same = absurd same
  runs_alike allowance j s (c ∷ cs) [] good same = absurd same
  runs_alike allowance zero s (c ∷ cs) (d ∷ ds) good same =
      ap (λ (r : Ran × Shown). Some r.0) (same_ran s c allowance good same.1 ∙ ap (λ (x : CellParts). ran s x other allowance) same.0)
  runs_alike allowance (suc j) s (c ∷ cs) (d ∷ ds) good same =
      let here : ran s c one allowance ≡ ran s d other allowance = same_ran s c allowance good same.1 ∙ ap (λ (x : CellParts). ran s x other allowance) same.0 in
      let r : Ran × Shown = ran s d other allowance in
      let own : IsGood d = subst IsGood same.0 same.1 in
      let later : AreGood r.1.objects = grown_good d s.objects r.1.objects (shown_grows s d other allowance) own good in
      ap (λ (x : Ran × Shown). slice_get (if_done x.0.end (λ t. runs_from t cs one allowance) x.1) j) here
      ∙ after_alike r.0.end r.1 (λ t. runs_from t cs one allowance) (λ t. runs_from t ds other allowance) j (runs_alike allowance j r.1 cs ds later same.2)

  -- from nothing
  pub same_runs : (allowance j : ℕ) (cs ds : List CellParts) → SameFirst j cs ds → slice_get (runs cs one allowance) j ≡ slice_get (runs ds other allowance) j
  unfolding runs
  same_runs allowance j cs ds same = runs_alike allowance j empty cs ds tt same

  -- equal values of names
  agree_from : (names : List (List ℕ)) → map (named one) names ≡ map (named other) names → Agree names one other
  agree_from [] h = All-nil (λ (name : List ℕ). value_of one name ≡ value_of other name)
  agree_from (name ∷ names) h =
      let first : named one name ≡ named other name = ap (λ (l : List (List ℕ × Option Input)). get_or l 0 (named one name)) h in
      All-cons (λ (n : List ℕ). value_of one n ≡ value_of other n) name names (ap (λ (p : List ℕ × Option Input). p.1) first) (agree_from names (ap (drop 1) h))

  same_cell : (c d : CellParts) → c ≡ d → key_of one c ≡ key_of other d → HasItsNames c → IsGood c
  same_cell c d is same names =
      let values : map (named one) c.inputs ≡ map (named other) d.inputs = ap (λ (k : Key). k.1) same in
      record { names = names; agree = agree_from c.inputs (values ∙ ap (λ (x : CellParts). map (named other) x.inputs) (sym is)) }

-- equal keys up to a place are equal cells
pub same_first : (versions : List Checked) (v w : Checked) → HaveTheirSources versions → HaveTheirNames versions → Contains versions v → Contains versions w
    → (j : ℕ) (cs ds : List CellParts) → ((c : CellParts) → Contains cs c → Contains v.cells c) → ((d : CellParts) → Contains ds d → Contains w.cells d)
    → j < length cs → j < length ds → take (suc j) (map (key_of v.inputs) cs) ≡ take (suc j) (map (key_of w.inputs) ds) → SameFirst v.inputs w.inputs j cs ds
same_first versions v w sources names there_v there_w j [] ds in_v in_w less low same = absurd (omega (arith, less))
same_first versions v w sources names there_v there_w j (c ∷ cs) [] in_v in_w less low same = absurd (omega (arith, low))
same_first versions v w sources names there_v there_w zero (c ∷ cs) (d ∷ ds) in_v in_w less low same =
    let own_c : Contains v.cells c = in_v c (Contains-get_or (c ∷ cs) 0 c (omega arith)) in
    let own_d : Contains w.cells d = in_w d (Contains-get_or (d ∷ ds) 0 d (omega arith)) in
    let key : key_of v.inputs c ≡ key_of w.inputs d = ap (λ (l : List Key). get_or l 0 (key_of v.inputs c)) same in
    let is : c ≡ d = sources v w c d there_v there_w own_c own_d (ap (λ (k : Key). k.0) key) in
    (is, same_cell v.inputs w.inputs c d is key (names v c there_v own_c))
same_first versions v w sources names there_v there_w (suc j) (c ∷ cs) (d ∷ ds) in_v in_w less low same =
    let own_c : Contains v.cells c = in_v c (Contains-get_or (c ∷ cs) 0 c (omega arith)) in
    let own_d : Contains w.cells d = in_w d (Contains-get_or (d ∷ ds) 0 d (omega arith)) in
    let key : key_of v.inputs c ≡ key_of w.inputs d = ap (λ (l : List Key). get_or l 0 (key_of v.inputs c)) same in
    let is : c ≡ d = sources v w c d there_v there_w own_c own_d (ap (λ (k : Key). k.0) key) in (
      is,
      same_cell v.inputs w.inputs c d is key (names v c there_v own_c),
      same_first versions v w sources names there_v there_w j cs ds (λ x h. in_v x (Contains-append_right (c ∷ []) cs x h)) (λ x h. in_w x (Contains-append_right (d ∷ []) ds x h))
          (omega (arith, less)) (omega (arith, low)) (ap (drop 1) same),
    )
