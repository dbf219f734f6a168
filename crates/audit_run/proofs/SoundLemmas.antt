-- The rows of versions are sound, where each cell has its names.
use Rattle.std.proofs.Common.{◌≡◌, ℕ, zero, suc, ◌+◌, ◌<◌, ◌≤◌, Bool, true, false, not, ◌⊎◌, inl, inr, List, [], ◌∷◌, ◌++◌, length, get_or, take, map, Option, Some, None, slice_get, refl, sym, ap, ◌∙◌, subst, arith, append_assoc}
use Rattle.std.specs.List.{All, Contains, filter, flat_map}
use Rattle.std.proofs.lemmas.Bool.{false≢true}
use Rattle.std.proofs.lemmas.List.{get_or-map, length-append, length-map, length-take-le}
use Rattle.std.proofs.lemmas.List.Elements.{All-append, All-cons, All-contains, All-filter, All-head, All-nil, All-tail, Contains-get_or}
use Rattle.std.proofs.lemmas.Option.{none-some, slice_get-get_or, slice_get_within}
use Rattle.star_syntax.specs.CellParts.{CellParts}
use Rattle.star_meaning.specs.declared.ran.End.{End}
use Rattle.star_meaning.specs.declared.ran.End.TheVariants as end
use Rattle.star_meaning.specs.declared.ran.Ran.{Ran}
use Rattle.star_meaning.specs.Cells.{Shown, if_done, ran, runs, runs_from}
use Rattle.star_meaning.specs.State.{empty}
use Rattle.star_meaning.specs.Validity.{MachineState, nothing_ran}
use Rattle.star_meaning.proofs.LeadingLaws.{cells_take_steps}
use Rattle.plan_type.specs.declared.costs.Costs.{Costs}
use Rattle.plan_type.specs.declared.row.Row.{Row}
use Rattle.plan_type.specs.declared.row.Reach.{Reach}
use Rattle.plan_type.specs.declared.row.Reach.TheVariants as reach
use Rattle.plan_type.specs.Costs.{Climbs, IsSound, IsSoundRow, NumbersFit, is_dead_end, is_unreached, parent_in, parent_of, row_of}
use Rattle.exec_tree.specs.declared.checked.Checked.{Checked}
use Rattle.exec_tree.specs.Keys.{InputMap, Key, key_of}
use Rattle.exec_tree.specs.Prefixes.{Prefix, firsts, keys, last_key, number_of, prefixes, prefixes_below, prefixes_of}
use Rattle.node_rows.specs.Rows.{HasEnd, HasResult}
use Rattle.audit_run.specs.Rows.{AreRows, IsRow, no_row}
use Rattle.audit_run.specs.Sources.{HaveTheirNames, HaveTheirSources}
use Rattle.audit_run.specs.Visits.{Visit, same_node, visit_at, visits, visits_of}
use Rattle.audit_run.proofs.AddLemmas.{rows_long, visits_prefixes, zip_at}
use Rattle.audit_run.proofs.AgreeLemmas.{same_first, same_runs}
use Rattle.audit_run.proofs.MeasuringLemmas.{visit_there, visits_long}
use Rattle.audit_run.proofs.PlacedLemmas.{StandsAt, prefixes_ordered}
use Rattle.audit_run.proofs.TreeLemmas.{has, keys_there, length-prefixes_of, number_is, number_none, place, place_less, prefix_there}
use Rattle.audit_run.proofs.VisitLemmas.{beginnings}
use Rattle.audit_run.proofs.WayLemmas.{no_prefix, read_at}

-- ---- lists

any_prefix : (xs : List Prefix) (k : ℕ) (d e : Prefix) → k < length xs → get_or xs k d ≡ get_or xs k e
any_prefix [] k d e less = absurd (omega (arith, less))
any_prefix (x ∷ xs) zero d e less = refl
any_prefix (x ∷ xs) (suc k) d e less = any_prefix xs k d e (omega (arith, less))

one_more : (n : ℕ) → 1 + n ≡ suc n
one_more n = omega arith

all_firsts : {X : Type 0} (P : X → Type 0) (same : X → X → Bool) (xs : List X) → All P xs → All P (firsts same xs)
unfolding firsts
all_firsts P same [] h = All-nil P
all_firsts P same (x ∷ xs) h =
    All-cons P x (filter (λ y. not (same x y)) (firsts same xs)) (All-head P x xs h)
    (All-filter (λ y. not (same x y)) P (firsts same xs) (all_firsts P same xs (All-tail P x xs h)))

abbrev no_visit : Visit
no_visit = record { number = 0; prefix = no_prefix; ran = None; state = nothing_ran }

-- ---- what a version does, cell after cell

abbrev no_ran : Option Ran → Bool
no_ran None = true
no_ran (Some r) = false

abbrev has_failed_end : End → Bool
has_failed_end end.Done = false
has_failed_end (end.Failed failure line) = true

-- a version does not go on behind this
abbrev stopped : Option Ran → Bool
stopped None = true
stopped (Some r) = has_failed_end r.end

first_in : (e : End) (t : Shown) (f : Shown → List Ran) → no_ran (slice_get (f t) 0) ≡ false → no_ran (slice_get (if_done e f t) 0) ≡ has_failed_end e
first_in end.Done t f h = h
first_in (end.Failed failure line) t f h = refl

next_in : (e : End) (t : Shown) (f : Shown → List Ran) (j : ℕ) → no_ran (slice_get (f t) (suc j)) ≡ stopped (slice_get (f t) j)
    → no_ran (slice_get (if_done e f t) (suc j)) ≡ stopped (slice_get (if_done e f t) j)
next_in end.Done t f j h = h
next_in (end.Failed failure line) t f j h = refl

bounded_in : (e : End) (t : Shown) (f : Shown → List Ran) (allowance j : ℕ) (r : Ran) → (slice_get (f t) j ≡ Some r → (1 ≤ r.steps) × (r.steps ≤ allowance))
    → slice_get (if_done e f t) j ≡ Some r → (1 ≤ r.steps) × (r.steps ≤ allowance)
bounded_in end.Done t f allowance j r h is = h is
bounded_in (end.Failed failure line) t f allowance j r h is = absurd (false≢true (sym (ap no_ran is)))

module _ (inputs : InputMap) (allowance : ℕ) where
  first_ran : (s : Shown) (cells : List CellParts) → 0 < length cells → no_ran (slice_get (runs_from s cells inputs allowance) 0) ≡ false
  first_ran s [] some = absurd (omega (arith, some))
  first_ran s (cell ∷ cells) some = refl

  next_ran : (j : ℕ) (s : Shown) (cells : List CellParts) → suc j < length cells
      → no_ran (slice_get (runs_from s cells inputs allowance) (suc j)) ≡ stopped (slice_get (runs_from s cells inputs allowance) j)
  next_ran j s [] less = absurd (omega (arith, less))
  next_ran zero s (cell ∷ cells) less =
      let r : Ran × Shown = ran s cell inputs allowance in
      first_in r.0.end r.1 (λ t. runs_from t cells inputs allowance) (first_ran r.1 cells (omega (arith, less)))
  next_ran (suc j) s (cell ∷ cells) less =
      let r : Ran × Shown = ran s cell inputs allowance in
      next_in r.0.end r.1 (λ t. runs_from t cells inputs allowance) j (next_ran j r.1 cells (omega (arith, less)))

  bounded : (j : ℕ) (s : Shown) (cells : List CellParts) (r : Ran) → 1 ≤ allowance → slice_get (runs_from s cells inputs allowance) j ≡ Some r → (1 ≤ r.steps) × (r.steps ≤ allowance)
  bounded j s [] r least is = absurd (false≢true (sym (ap no_ran is)))
  bounded zero s (cell ∷ cells) r least is =
      let same : (ran s cell inputs allowance).0 ≡ r = cc in
      subst (λ (x : Ran). (1 ≤ x.steps) × (x.steps ≤ allowance)) same (cells_take_steps s cell inputs allowance least)
  bounded (suc j) s (cell ∷ cells) r least is =
      let first : Ran × Shown = ran s cell inputs allowance in
      bounded_in first.0.end first.1 (λ t. runs_from t cells inputs allowance) allowance j r (λ there. bounded j first.1 cells r least there) is

  version_first : (cells : List CellParts) → 0 < length cells → no_ran (slice_get (runs cells inputs allowance) 0) ≡ false
  unfolding runs
  version_first cells some = first_ran empty cells some

  version_next : (j : ℕ) (cells : List CellParts) → suc j < length cells → no_ran (slice_get (runs cells inputs allowance) (suc j)) ≡ stopped (slice_get (runs cells inputs allowance) j)
  unfolding runs
  version_next j cells less = next_ran j empty cells less

  version_bounded : (j : ℕ) (cells : List CellParts) (r : Ran) → 1 ≤ allowance → slice_get (runs cells inputs allowance) j ≡ Some r → (1 ≤ r.steps) × (r.steps ≤ allowance)
  unfolding runs
  version_bounded j cells r least is = bounded j empty cells r least is

-- ---- what rows say

unreached_end : (e : End) (m : MachineState) (row : Row) → HasEnd e m row → is_unreached row.end ≡ false
unreached_end end.Done m row h = ap is_unreached h.0
unreached_end (end.Failed failure line) m row h = ap is_unreached h.0

unreached_is : (n : ℕ) (o : Option Ran) (m : MachineState) (row : Row) → HasResult n o m row → is_unreached row.end ≡ no_ran o
unreached_is n None m row h = ap is_unreached h.0
unreached_is n (Some r) m row h = unreached_end r.end m row h.0

-- a row that ended so
abbrev ended : Reach → Row
ended e = record { parent = 0; end = e; steps = 0; bytes = 0; text = [] }

dead_end : (e : End) (m : MachineState) (row : Row) → HasEnd e m row → is_dead_end (Some row) ≡ has_failed_end e
dead_end end.Done m row h = ap (λ (x : Reach). is_dead_end (Some (ended x))) h.0
dead_end (end.Failed failure line) m row h = ap (λ (x : Reach). is_dead_end (Some (ended x))) h.0

dead_is : (n : ℕ) (o : Option Ran) (m : MachineState) (row : Row) → HasResult n o m row → is_dead_end (Some row) ≡ stopped o
dead_is n None m row h = ap (λ (x : Reach). is_dead_end (Some (ended x))) h.0
dead_is n (Some r) m row h = dead_end r.end m row h.0

fit_end : (e : End) (m : MachineState) (row : Row) → HasEnd e m row → 1 ≤ row.steps → row.steps ≤ 1000000 → NumbersFit row.end row
fit_end end.Done m row h least most = let there : NumbersFit reach.Done row = (least, most) in subst (λ (x : Reach). NumbersFit x row) (sym h.0) there
fit_end (end.Failed failure line) m row h least most = let there : NumbersFit reach.Failed row = (least, most, h.1) in subst (λ (x : Reach). NumbersFit x row) (sym h.0) there

fit_is : (allowance n : ℕ) (o : Option Ran) (m : MachineState) (row : Row) → allowance ≤ 1000000 → ((r : Ran) → o ≡ Some r → (1 ≤ r.steps) × (r.steps ≤ allowance))
    → HasResult n o m row → NumbersFit row.end row
fit_is allowance n None m row most few h = let there : NumbersFit reach.Unreached row = (h.1, h.2, h.3) in subst (λ (x : Reach). NumbersFit x row) (sym h.0) there
fit_is allowance n (Some r) m row most few h =
    let steps : row.steps ≡ r.steps = h.1 in
    let own = few r refl in
    let least : 1 ≤ r.steps = own.0 in
    let high : r.steps ≤ allowance = own.1 in
    fit_end r.end m row h.0 (omega (arith, steps, least)) (omega (arith, steps, high, most))

-- ---- the keys of a version's beginnings

keys_at : (inputs : InputMap) (above : List Key) (cells : List CellParts) (k : ℕ) (d : Prefix) → k < length cells
    → keys (get_or (prefixes_below inputs above cells) k d) ≡ above ++ take (suc k) (map (key_of inputs) cells)
unfolding prefixes_below
keys_at inputs above [] k d less = absurd (omega (arith, less))
keys_at inputs above (cell ∷ cells) zero d less = refl
keys_at inputs above (cell ∷ cells) (suc k) d less =
    keys_at inputs (above ++ key_of inputs cell ∷ []) cells k d (omega (arith, less)) ∙ append_assoc above (key_of inputs cell ∷ []) (take (suc k) (map (key_of inputs) cells))

-- below each stands the one before it, and below none the first
above_keys : (inputs : InputMap) (above : List Key) (cells : List CellParts) (k : ℕ) (d : Prefix) → suc k < length cells
    → (get_or (prefixes_below inputs above cells) (suc k) d).above ≡ keys (get_or (prefixes_below inputs above cells) k d)
unfolding prefixes_below
above_keys inputs above [] k d less = absurd (omega (arith, less))
above_keys inputs above (cell ∷ []) k d less = absurd (omega (arith, less))
above_keys inputs above (cell ∷ (next ∷ cells)) zero d less = refl
above_keys inputs above (cell ∷ (next ∷ cells)) (suc k) d less = above_keys inputs (above ++ key_of inputs cell ∷ []) (next ∷ cells) k d (omega (arith, less))

above_first : (inputs : InputMap) (above : List Key) (cells : List CellParts) (d : Prefix) → 0 < length cells → (get_or (prefixes_below inputs above cells) 0 d).above ≡ above
unfolding prefixes_below
above_first inputs above [] d some = absurd (omega (arith, some))
above_first inputs above (cell ∷ cells) d some = refl

keys_long : (v : Checked) (k : ℕ) → k < length v.cells → length (keys (get_or (prefixes_of v) k no_prefix)) ≡ suc k
keys_long v k less =
    let all : List Key = map (key_of v.inputs) v.cells in
    let long : length all ≡ length v.cells = length-map v.cells (key_of v.inputs) in
    ap length (keys_at v.inputs [] v.cells k no_prefix less) ∙ length-take-le (suc k) all (omega (arith, long, less))

-- ---- the rows of versions

module _ (versions : List Checked) (allowance : ℕ) (rows : List Row) (sources : HaveTheirSources versions) (names : HaveTheirNames versions)
    (short : All (λ (v : Checked). length v.cells ≤ 64) versions) (least : 1 ≤ allowance) (most : allowance ≤ 1000000) (rows_are : AreRows versions allowance rows) where
  -- a visit is that of a cell
  record IsVisit (x : Visit) : Type 0 where
    version : Checked
    spot : ℕ
    there : Contains versions version
    within : spot < length version.cells
    is : x ≡ visit_at versions allowance version (spot, get_or (prefixes_of version) spot no_prefix)

  of_version : (v : Checked) → Contains versions v → All IsVisit (visits_of versions allowance v)
  of_version v there k d less =
      let own : k < length v.cells = omega (arith, less, visits_long versions allowance v) in
      record { version = v; spot = k; there = there; within = own; is = visit_there versions allowance v k d no_prefix own }

  of_all : (vs : List Checked) → All (λ (v : Checked). Contains versions v) vs → All IsVisit (flat_map (visits_of versions allowance) vs)
  of_all [] h = All-nil IsVisit
  of_all (v ∷ vs) h =
      All-append IsVisit (visits_of versions allowance v) (flat_map (visits_of versions allowance) vs) (of_version v (All-head (λ (w : Checked). Contains versions w) v vs h))
      (of_all vs (All-tail (λ (w : Checked). Contains versions w) v vs h))

  abbrev visit : ℕ → Visit
  visit i = get_or (visits versions allowance) i no_visit

  abbrev row : ℕ → Row
  row i = get_or rows i (no_row 0)

  abbrev prefix : ℕ → Prefix
  prefix i = get_or (prefixes versions) i no_prefix

  rows_many : length rows ≡ length (prefixes versions)
  rows_many = rows_long versions allowance rows rows_are

  visits_many : length (visits versions allowance) ≡ length (prefixes versions)
  visits_many = sym (length-map (visits versions allowance) (λ (x : Visit). x.prefix)) ∙ ap length (visits_prefixes versions allowance)

  visit_of : (i : ℕ) → i < length rows → IsVisit (visit i)
  visit_of i less =
      all_firsts IsVisit same_node (flat_map (visits_of versions allowance) versions) (of_all versions (λ k d low. Contains-get_or versions k d low)) i
      no_visit (omega (arith, less, rows_many, visits_many))

  prefix_is : (i : ℕ) → i < length rows → (visit i).prefix ≡ prefix i
  prefix_is i less =
      sym (get_or-map (λ (x : Visit). x.prefix) (visits versions allowance) i no_visit no_prefix (omega (arith, less, rows_many, visits_many)))
      ∙ ap (λ (l : List Prefix). get_or l i no_prefix) (visits_prefixes versions allowance)

  row_is : (i : ℕ) → i < length rows → IsRow (prefixes versions) (visit i) (row i)
  row_is i less = zip_at (IsRow (prefixes versions)) (visits versions allowance) rows i no_visit (no_row 0) rows_are less

  -- versions with equal beginnings do the same there
  alike : (v w : Checked) (j k : ℕ) → Contains versions v → Contains versions w → j < length v.cells → k < length w.cells
      → keys (get_or (prefixes_of v) j no_prefix) ≡ keys (get_or (prefixes_of w) k no_prefix) → slice_get (runs v.cells v.inputs allowance) j ≡ slice_get (runs w.cells w.inputs allowance) k
  alike v w j k there_v there_w less low same =
      let long : suc j ≡ suc k = sym (keys_long v j less) ∙ (ap length same ∙ keys_long w k low) in
      let is : j ≡ k = omega (arith, long) in
      let front : take (suc j) (map (key_of v.inputs) v.cells) ≡ take (suc j) (map (key_of w.inputs) w.cells) =
      sym (keys_at v.inputs [] v.cells j no_prefix less) ∙ (same ∙ (keys_at w.inputs [] w.cells k no_prefix low ∙ ap (λ (n : ℕ). take n (map (key_of w.inputs) w.cells)) (sym long))) in
      same_runs v.inputs w.inputs allowance j v.cells w.cells
      (same_first versions v w sources names there_v there_w j v.cells w.cells (λ c h. h) (λ d h. h) less (omega (arith, is, low)) front)
      ∙ ap (slice_get (runs w.cells w.inputs allowance)) is

  -- a row under no other, and a row under another one
  record IsRoot (i : ℕ) : Type 0 where
    parent : (row i).parent ≡ 0
    above : (prefix i).above ≡ []
    comes : is_unreached (row i).end ≡ false

  record IsBelow (i : ℕ) : Type 0 where
    place_above : ℕ
    within : place_above < length rows
    parent : (row i).parent ≡ suc place_above
    above : (prefix i).above ≡ keys (prefix place_above)
    comes : is_unreached (row i).end ≡ is_dead_end (Some (row place_above))

  below : (i : ℕ) → i < length rows → (v : Checked) (k : ℕ) → Contains versions v → k < length v.cells
      → visit i ≡ visit_at versions allowance v (k, get_or (prefixes_of v) k no_prefix) → IsRoot i ⊎ IsBelow i
  below i less v zero there within is =
      let x : Visit = visit_at versions allowance v (0, get_or (prefixes_of v) 0 no_prefix) in
      let own : IsRow (prefixes versions) x (row i) = subst (λ (y : Visit). IsRow (prefixes versions) y (row i)) is (row_is i less) in
      let none : x.prefix.above ≡ [] = above_first v.inputs [] v.cells no_prefix within in
      inl (record {
        parent = own.parent ∙ (ap (number_of (prefixes versions)) none ∙ number_none (prefixes versions));
        above = ap (λ (p : Prefix). p.above) (sym (prefix_is i less) ∙ ap (λ (y : Visit). y.prefix) is) ∙ none;
        comes = unreached_is x.number x.ran x.state (row i) own.result ∙ version_first v.inputs allowance v.cells within;
      })
  below i less v (suc j) there within is =
      let x : Visit = visit_at versions allowance v (suc j, get_or (prefixes_of v) (suc j) no_prefix) in
      let own : IsRow (prefixes versions) x (row i) = subst (λ (y : Visit). IsRow (prefixes versions) y (row i)) is (row_is i less) in
      let low : j < length v.cells = omega (arith, within) in
      let p : Prefix = get_or (prefixes_of v) j no_prefix in
      let above : x.prefix.above ≡ keys p = above_keys v.inputs [] v.cells j no_prefix within in
      let known : has (prefixes versions) p ≡ true = prefix_there versions v there j no_prefix low in
      let up : ℕ = place (prefixes versions) p in
      let up_less : up < length (prefixes versions) = place_less p (prefixes versions) known in
      let in_rows : up < length rows = omega (arith, up_less, rows_many) in
      let same : keys (prefix up) ≡ keys p = ap keys (any_prefix (prefixes versions) up no_prefix p up_less) ∙ keys_there (prefixes versions) p known in
      let other : IsVisit (visit up) = visit_of up in_rows in
      let w : Checked = other.version in
      let begin : keys p ≡ keys (get_or (prefixes_of w) other.spot no_prefix) =
      sym same ∙ ap keys (sym (prefix_is up in_rows) ∙ ap (λ (y : Visit). y.prefix) other.is) in
      let did : slice_get (runs v.cells v.inputs allowance) j ≡ (visit up).ran =
      alike v w j other.spot there other.there low other.within begin ∙ ap (λ (y : Visit). y.ran) (sym other.is) in
      let above_row : IsRow (prefixes versions) (visit up) (row up) = row_is up in_rows in
      inr (record {
        place_above = up;
        within = in_rows;
        parent = own.parent ∙ (ap (number_of (prefixes versions)) above ∙ (number_is (prefixes versions) p ∙ one_more up));
        above = ap (λ (q : Prefix). q.above) (sym (prefix_is i less) ∙ ap (λ (y : Visit). y.prefix) is) ∙ (above ∙ sym same);
        comes =
            unreached_is x.number x.ran x.state (row i) own.result
            ∙ (version_next v.inputs allowance j v.cells within
            ∙ (ap stopped did
            ∙ sym (dead_is (visit up).number (visit up).ran (visit up).state (row up) above_row.result)));
      })

  stands : (i : ℕ) → i < length rows → IsRoot i ⊎ IsBelow i
  stands i less = let own : IsVisit (visit i) = visit_of i less in below i less own.version own.spot own.there own.within own.is

  abbrev made : Costs
  made = record { rows = rows }

  root_comes : (i : ℕ) → IsRoot i → is_unreached (row i).end ≡ is_dead_end (row_of made (row i).parent)
  root_comes i h = h.comes ∙ ap (λ (n : ℕ). is_dead_end (row_of made n)) (sym h.parent)

  below_comes : (i : ℕ) → IsBelow i → is_unreached (row i).end ≡ is_dead_end (row_of made (row i).parent)
  below_comes i h =
      h.comes
      ∙ (ap is_dead_end (sym (slice_get-get_or rows h.place_above (no_row 0) h.within))
      ∙ ap (λ (n : ℕ). is_dead_end (row_of made n)) (sym h.parent))

  comes : (i : ℕ) → IsRoot i ⊎ IsBelow i → is_unreached (row i).end ≡ is_dead_end (row_of made (row i).parent)
  comes i (inl h) = root_comes i h
  comes i (inr h) = below_comes i h

  -- each row
  sound_at : (i : ℕ) → i < length rows → IsSoundRow made (suc i) (row i)
  sound_at i less =
      let own : IsRow (prefixes versions) (visit i) (row i) = row_is i less in
      let here : StandsAt (prefixes versions) i (prefix i) = prefixes_ordered versions i no_prefix (omega (arith, less, rows_many)) in
      let above : (row i).parent ≡ number_of (prefixes versions) (prefix i).above = own.parent ∙ ap (λ (p : Prefix). number_of (prefixes versions) p.above) (prefix_is i less) in
      let x : IsVisit (visit i) = visit_of i less in
      record {
        parent = omega (arith, above, here.above);
        unreached = comes i (stands i less);
        numbers_fit = fit_is allowance (visit i).number (visit i).ran (visit i).state (row i) most
            (λ r is. version_bounded x.version.inputs allowance x.spot x.version.cells r least (ap (λ (y : Visit). y.ran) (sym x.is) ∙ is)) own.result;
      }

  sound_row : (n : ℕ) (r : Row) → row_of made n ≡ Some r → IsSoundRow made n r
  sound_row zero r is = absurd (none-some r is)
  sound_row (suc i) r is = subst (IsSoundRow made (suc i)) (read_at rows i r (no_row 0) is) (sound_at i (slice_get_within rows i r is))

  -- ---- paths

  abbrev depth : ℕ → ℕ
  depth zero = 0
  depth (suc i) = length (keys (prefix i))

  keys_more : (p : Prefix) → length (keys p) ≡ suc (length p.above)
  keys_more p = let one : length (last_key p ∷ []) ≡ 1 = refl in omega (arith, length-append p.above (last_key p ∷ []), one)

  depth_above : (i : ℕ) → IsRoot i ⊎ IsBelow i → depth (suc i) ≡ suc (depth (row i).parent)
  depth_above i (inl h) =
      let none : length (prefix i).above ≡ 0 = ap length h.above in
      let up : depth (row i).parent ≡ 0 = ap depth h.parent in
      omega (arith, keys_more (prefix i), none, up)
  depth_above i (inr h) =
      let long : length (prefix i).above ≡ length (keys (prefix h.place_above)) = ap length h.above in
      let up : depth (row i).parent ≡ length (keys (prefix h.place_above)) = ap depth h.parent in
      omega (arith, keys_more (prefix i), long, up)

  parent_is : (o : Option Row) (u : ℕ) → parent_in o ≡ Some u → (r : Row) × (o ≡ Some r) × (r.parent ≡ u)
  parent_is None u is = absurd (none-some u is)
  parent_is (Some r) u is = let same : r.parent ≡ u = cc in (r, refl, same)

  depth_up : (i u : ℕ) → parent_of made (suc i) ≡ Some u → (i < length rows) × (depth (suc i) ≡ suc (depth u))
  depth_up i u is =
      let found = parent_is (slice_get rows i) u is in
      let less : i < length rows = slice_get_within rows i found.0 found.1 in
      let same : row i ≡ found.0 = read_at rows i found.0 (no_row 0) found.1 in
      (less, depth_above i (stands i less) ∙ ap (λ (n : ℕ). suc (depth n)) (ap (λ (r : Row). r.parent) same ∙ found.2))

  climbed : (us : List ℕ) (n : ℕ) → Climbs made n us → length us ≡ depth n
  climbed [] n h = ap depth (sym h)
  climbed (u ∷ us) zero h = absurd (none-some u h.0)
  climbed (u ∷ us) (suc i) h = ap suc (climbed us u h.1) ∙ sym (depth_up i u h.0).1

  deep : (i : ℕ) → i < length rows → depth (suc i) ≤ 64
  deep i less =
      let x : IsVisit (visit i) = visit_of i less in
      let long : depth (suc i) ≡ suc x.spot = ap (λ (p : Prefix). length (keys p)) (sym (prefix_is i less) ∙ ap (λ (y : Visit). y.prefix) x.is) ∙ keys_long x.version x.spot x.within in
      let few : length x.version.cells ≤ 64 = All-contains (λ (v : Checked). length v.cells ≤ 64) versions x.version short x.there in
      omega (arith, long, few, x.within)

  paths : (n : ℕ) (us : List ℕ) → Climbs made n us → length us ≤ 64
  paths n [] h = omega arith
  paths zero (u ∷ us) h = absurd (none-some u h.0)
  paths (suc i) (u ∷ us) h =
      let long : length (u ∷ us) ≡ depth (suc i) = climbed (u ∷ us) (suc i) h in
      let most_deep : depth (suc i) ≤ 64 = deep i (depth_up i u h.0).0 in
      omega (arith, long, most_deep)

  pub sound : length rows ≤ 512 → IsSound made
  sound few = record { few = few; rows = sound_row; paths = paths }
