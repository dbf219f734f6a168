-- What a version's cells do, one after another, where it runs by itself.
use Rattle.std.proofs.Common.{◌≡◌, ℕ, zero, suc, ◌+◌, ◌*◌, ◌^◌, ◌<◌, ◌≤◌, List, [], ◌∷◌, length, get_or, drop, map, Option, Some, None, slice_get, refl, sym, ap, ◌∙◌, subst, arith}
use Rattle.std.specs.List.{All, Contains, sum}
use Rattle.std.proofs.lemmas.List.Elements.{All-head, All-tail}
use Rattle.std.proofs.lemmas.List.Sums.{sum_by-append}
use Rattle.std.proofs.lemmas.Option.{none-some}
use Rattle.star_syntax.specs.CellParts.{CellParts}
use Rattle.star_value.specs.declared.failure.Failure.{Failure}
use Rattle.star_meaning.specs.declared.ran.End.{End}
use Rattle.star_meaning.specs.declared.ran.End.TheVariants as end
use Rattle.star_meaning.specs.declared.ran.Ran.{Ran}
use Rattle.star_meaning.specs.Cells.{Shown, if_done, ran, runs, runs_from, steps}
use Rattle.star_meaning.specs.State.{empty}
use Rattle.star_meaning.specs.Validity.{no_cell, ran_at}
use Rattle.star_meaning.proofs.LeadingLaws.{cells_take_steps}
use Rattle.exec_tree.specs.declared.checked.Checked.{Checked}
use Rattle.exec_tree.specs.Keys.{InputMap}
use Rattle.exec_tree.specs.Prefixes.{prefixes}
use Rattle.audit_run.specs.Sources.{HaveTheirSources}
use Rattle.audit_run.specs.Visits.{nodes_of, program_of, steps_of_all}
use Rattle.audit_run.proofs.MeasuringLemmas.{drop_next}
use Rattle.audit_run.proofs.RunLemmas.{Goes, Stands, from_nothing, goes, no_place}
use Rattle.audit_run.proofs.TreeLemmas.{cell_there}
use Rattle.audit_run.proofs.WayLemmas.{no_prefix}
use Rattle.shared_run.proofs.StateLemmas.{state, state_next}

-- ---- how many results, and how many steps

few_if : (e : End) (t : Shown) (f : Shown → List Ran) (n : ℕ) → length (f t) ≤ n → length (if_done e f t) ≤ n
few_if end.Done t f n h = h
few_if (end.Failed failure line) t f n h = omega arith

few_from : (s : Shown) (cells : List CellParts) (inputs : InputMap) (allowance : ℕ) → length (runs_from s cells inputs allowance) ≤ length cells
few_from s [] inputs allowance = omega arith
few_from s (cell ∷ cells) inputs allowance =
    let r : Ran × Shown = ran s cell inputs allowance in
    let rest : length (if_done r.0.end (λ t. runs_from t cells inputs allowance) r.1) ≤ length cells =
    few_if r.0.end r.1 (λ t. runs_from t cells inputs allowance) (length cells) (few_from r.1 cells inputs allowance) in
    omega (arith, rest)

-- a version has no more results than cells
pub few_results : (cells : List CellParts) (inputs : InputMap) (allowance : ℕ) → length (runs cells inputs allowance) ≤ length cells
unfolding runs
few_results cells inputs allowance = few_from empty cells inputs allowance

abbrev pub total : List Ran → ℕ
total rs = sum (map (λ (r : Ran). r.steps) rs)

pub total_first : (r : Ran) (rs : List Ran) → total (r ∷ rs) ≡ r.steps + total rs
total_first r rs =
    let apart : total (r ∷ rs) ≡ sum (r.steps ∷ []) + total rs = sum_by-append (λ (x : ℕ). x) (r.steps ∷ []) (map (λ (x : Ran). x.steps) rs) in
    let one : sum (r.steps ∷ []) ≡ r.steps = omega arith in
    omega (arith, apart, one)

small_if : (e : End) (t : Shown) (f : Shown → List Ran) (n : ℕ) → total (f t) ≤ n → total (if_done e f t) ≤ n
small_if end.Done t f n h = h
small_if (end.Failed failure line) t f n h = omega arith

small_from : (s : Shown) (cells : List CellParts) (inputs : InputMap) (allowance : ℕ) → 1 ≤ allowance → allowance ≤ 1000000 → total (runs_from s cells inputs allowance) ≤ length cells * 1000000
small_from s [] inputs allowance least most = omega arith
small_from s (cell ∷ cells) inputs allowance least most =
    let r : Ran × Shown = ran s cell inputs allowance in
    let more : List Ran = if_done r.0.end (λ t. runs_from t cells inputs allowance) r.1 in
    let rest : total more ≤ length cells * 1000000 = small_if r.0.end r.1 (λ t. runs_from t cells inputs allowance) (length cells * 1000000) (small_from r.1 cells inputs allowance least most) in
    let own : r.0.steps ≤ allowance = (cells_take_steps s cell inputs allowance least).1 in
    let both : total (r.0 ∷ more) ≡ r.0.steps + total more = total_first r.0 more in
    omega (arith, rest, own, both, most)

steps_few : (v : Checked) (allowance : ℕ) → 1 ≤ allowance → allowance ≤ 1000000 → length v.cells ≤ 64 → steps v.cells v.inputs allowance ≤ 64000000
unfolding steps runs
steps_few v allowance least most short =
    let one : total (runs_from empty v.cells v.inputs allowance) ≤ length v.cells * 1000000 = small_from empty v.cells v.inputs allowance least most in
    omega (arith, one, short)

pub steps_first : (v : Checked) (vs : List Checked) (allowance : ℕ) → steps_of_all (v ∷ vs) allowance ≡ steps v.cells v.inputs allowance + steps_of_all vs allowance
steps_first v vs allowance =
    let f : Checked → ℕ = λ version. steps version.cells version.inputs allowance in
    let apart : sum (map f (v ∷ vs)) ≡ sum (f v ∷ []) + sum (map f vs) = sum_by-append (λ (x : ℕ). x) (f v ∷ []) (map f vs) in
    let one : sum (f v ∷ []) ≡ f v = omega arith in
    omega (arith, apart, one)

pub steps_all : (vs : List Checked) (allowance : ℕ) → 1 ≤ allowance → allowance ≤ 1000000 → All (λ (v : Checked). length v.cells ≤ 64) vs → steps_of_all vs allowance ≤ length vs * 64000000
steps_all [] allowance least most short = omega arith
steps_all (v ∷ vs) allowance least most short =
    let own : steps v.cells v.inputs allowance ≤ 64000000 = steps_few v allowance least most (All-head (λ (w : Checked). length w.cells ≤ 64) v vs short) in
    let rest : steps_of_all vs allowance ≤ length vs * 64000000 = steps_all vs allowance least most (All-tail (λ (w : Checked). length w.cells ≤ 64) v vs short) in
    omega (arith, own, rest, steps_first v vs allowance)

-- the kernel has room for the replay after the audit
pub room_left : (versions : List Checked) (allowance before now : ℕ) → 1 ≤ allowance → allowance ≤ 1000000 → length versions ≤ 64 → All (λ (v : Checked). length v.cells ≤ 64) versions
    → before ≤ 2 ^ 63 → now ≡ before + steps_of_all versions allowance → now ≤ 2 ^ 63 + 2 ^ 40
room_left versions allowance before now least most few short room counted =
    let all : steps_of_all versions allowance ≤ length versions * 64000000 = steps_all versions allowance least most short in
    omega (arith, all, few, room, counted)

-- ---- one cell after another

module _ (versions : List Checked) (allowance : ℕ) (sources : HaveTheirSources versions) (v : Checked) (there : Contains versions v) where
  abbrev pub results : List Ran
  results = runs v.cells v.inputs allowance

  abbrev pub here : ℕ → Ran
  here j = ran_at (program_of versions) (state versions allowance sources v there j) (get_or (nodes_of (prefixes versions) v) j 0) v.inputs allowance

  abbrev StandsAt : ℕ → Type 0
  StandsAt j = Stands (program_of versions) v.inputs allowance results v.cells j (state versions allowance sources v there j)

  goes_at : (j : ℕ) → j < length v.cells → StandsAt j
      → Goes (program_of versions) v.inputs allowance results v.cells j (state versions allowance sources v there j) (get_or (nodes_of (prefixes versions) v) j 0)
  goes_at j less stands =
      goes (program_of versions) v.inputs allowance results v.cells (drop (suc j) v.cells) j (state versions allowance sources v there j) (get_or (nodes_of (prefixes versions) v) j 0)
      (get_or v.cells j no_cell) stands (drop_next v.cells j no_cell less) (cell_there versions v there j no_prefix no_cell sources less)

  -- what comes of the cell at a place: nothing more, or what it does in the state after those before it
  abbrev Comes : ℕ → Option Ran → Type 0
  Comes j None = drop j results ≡ []
  Comes j (Some r) = (r ≡ here j) × (r.end ≡ end.Done → StandsAt (suc j)) × ((f : Failure) (line : ℕ) → r.end ≡ end.Failed f line → drop (suc j) results ≡ [])

  pub record IsAt (j : ℕ) (o : Option Ran) : Type 0 where
    pub is : slice_get results j ≡ o
    pub comes : Comes j o

  come : (j : ℕ) → j < length v.cells → StandsAt j → IsAt j (Some (here j))
  come j less stands =
      let g = goes_at j less stands in
      record {
        is = g.here;
        comes = (refl, λ over. subst (Stands (program_of versions) v.inputs allowance results v.cells (suc j)) (sym (state_next versions allowance sources v there j less)) (g.done over), g.failed);
      }

  gone : (j : ℕ) → drop j results ≡ [] → IsAt j None
  gone j none = record { is = (no_place results j none).0; comes = none }

  next : (j : ℕ) → suc j < length v.cells → (o : Option Ran) → IsAt j o → (p : Option Ran) × IsAt (suc j) p
  next j less None at = (None, gone (suc j) (no_place results j at.comes).1)
  next j less (Some r) at = by r.end refl
    where
      by : (e : End) → r.end ≡ e → (p : Option Ran) × IsAt (suc j) p
      by end.Done is = (Some (here (suc j)), come (suc j) less (at.comes.1 is))
      by (end.Failed f line) is = (None, gone (suc j) (at.comes.2 f line is))

  pub at : (j : ℕ) → j < length v.cells → (o : Option Ran) × IsAt j o
  at zero less = (Some (here 0), come 0 less (sym (from_nothing (program_of versions) v.inputs allowance v.cells)))
  at (suc j) less = let before = at j (omega (arith, less)) in next j less before.0 before.1

  -- a result is what the node's cell does there
  pub result_is : (j : ℕ) (r : Ran) → j < length v.cells → slice_get results j ≡ Some r → r ≡ here j
  result_is j r less is = let found = at j less in by found.0 found.1
    where
      by : (o : Option Ran) → IsAt j o → r ≡ here j
      by None h = absurd (none-some r (sym h.is ∙ is))
      by (Some q) h = let same : q ≡ r = cc in sym same ∙ h.comes.0

  -- where one has failed there is no other
  pub none_after : (j : ℕ) (r : Ran) (f : Failure) (line : ℕ) → j < length v.cells → slice_get results j ≡ Some r → r.end ≡ end.Failed f line → drop (suc j) results ≡ []
  none_after j r f line less is over = let found = at j less in by found.0 found.1
    where
      by : (o : Option Ran) → IsAt j o → drop (suc j) results ≡ []
      by None h = absurd (none-some r (sym h.is ∙ is))
      by (Some q) h = let same : q ≡ r = cc in h.comes.2 f line (ap (λ (x : Ran). x.end) same ∙ over)

  -- where one was done the next one comes
  pub one_after : (j : ℕ) (r : Ran) → suc j < length v.cells → slice_get results j ≡ Some r → r.end ≡ end.Done → slice_get results (suc j) ≡ Some (here (suc j))
  one_after j r less is over = let found = at j (omega (arith, less)) in by found.0 found.1
    where
      by : (o : Option Ran) → IsAt j o → slice_get results (suc j) ≡ Some (here (suc j))
      by None h = absurd (none-some r (sym h.is ∙ is))
      by (Some q) h = let same : q ≡ r = cc in (come (suc j) less (h.comes.1 (ap (λ (x : Ran). x.end) same ∙ over))).is

  -- nothing comes after nothing
  pub nothing_after : (j : ℕ) → j < length v.cells → slice_get results j ≡ None → drop (suc j) results ≡ []
  nothing_after j less is = let found = at j less in by found.0 found.1
    where
      by : (o : Option Ran) → IsAt j o → drop (suc j) results ≡ []
      by None h = (no_place results j h.comes).1
      by (Some q) h = absurd (none-some q (sym is ∙ h.is))

  pub first_is : 0 < length v.cells → slice_get results 0 ≡ Some (here 0)
  unfolding at
  first_is some = (at 0 some).1.is
