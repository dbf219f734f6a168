-- The rows of `sorted`, `min` and `max` over what the code has found out.
use Rattle.std.proofs.Common.{◌≡◌, ℕ, zero, suc, ◌+◌, ◌<◌, ◌≤◌, Bool, true, false, List, [], ◌∷◌, ◌++◌, reverse, length, drop, get_or, refl, sym, ap, ◌∙◌, subst, arith, IsTrue, Option, Some, None, slice_get}
use Rattle.std.specs.Prelude.{Result, Ok, Err, codes, if◌then◌else◌, ◌&&◌}
use Rattle.std.specs.List.{list_all}
use Rattle.std.specs.Str.{chars}
use mathlib.Core.List.{reverse_aux}
use Rattle.heap_store.proofs.Tested.{and_left, and_right, and_both}
use Rattle.star_value.specs.declared.failure.Failure.{Failure}
use Rattle.star_value.specs.declared.failure.Failure.TheVariants as failure
use Rattle.star_value.specs.declared.stop.Stop.{Stop}
use Rattle.star_value.specs.declared.stop.Stop.TheVariants as stop
use Rattle.star_value.specs.declared.value.Value.{Value}
use Rattle.star_value.specs.Charge.{charged}
use Rattle.star_value.specs.Weight.{weight, sum_of_weights}
use Rattle.star_meaning.specs.Builtins as spec
use Rattle.star_meaning.specs.Builtins.{are_alike, best, is_before, placed, sorted_items, walk_alike, walk_first}
use Rattle.star_meaning.specs.State.{State}
use Rattle.star_meaning.specs.Steps.{Outcome, Went, Failed, Action, Store, Gives, pure, given_or, and_then, ◌>>=◌, ◌>>◌}
use Rattle.star_meaning.specs.Validity.{MachineState, fits, is_proper}
use Rattle.star_meaning.specs.Values.{charge_items, items_in, items_of, new_list}
use Rattle.star_builtins.specs.Reached.{AllFit}
use Rattle.star_builtins.specs.Sorting.{better, leader, turned, ordered, best_from}
use Rattle.star_builtins.specs.Walks.{GivesItem}
use Rattle.star_builtins.proofs.RowLemmas.{charge_went, charge_failed, of_items, no_items, same_gives}
use Rattle.star_builtins.proofs.SortLemmas.{best_next, best_stopped, best_wrong}
use Rattle.star_builtins.proofs.WalkLemmas.{some_at}

-- ---- sorted

chars_reverse : chars (codes "reverse") ≡ codes "reverse"
unfolding chars
chars_reverse = refl

then_list : (o : Outcome (Store ℕ) Failure (Unit {0})) (items : List Value) → and_then o (λ _. new_list items) ≡ and_then (and_then o (λ _. pure items)) new_list
then_list (Went u w) items = refl
then_list (Failed e w) items = refl

module _ (name : List ℕ) (named : spec.ByName) (v : Value) (s : Store ℕ) (is : name ≡ chars (codes "reverse")) where
  abbrev in_list : List Value → Bool → Action ℕ Value
  in_list items back = walk_first items >> new_list (turned back (sorted_items items))

  abbrev asked_for : Option Value → Action ℕ Value
  asked_for given = items_of v >>= (λ items. spec.backwards given >>= in_list items)

  sort_asked : (o : Option (Option Value)) → spec.only_named name named ≡ o → spec.sorted named v s ≡ (given_or failure.WrongArguments o >>= asked_for) s
  sort_asked o found = ap (λ o. (given_or failure.WrongArguments o >>= asked_for) s) (ap (λ n. spec.only_named n named) (sym (is ∙ chars_reverse)) ∙ found)

  pub sort_refused : (e : Failure) → spec.only_named name named ≡ None → e ≡ failure.WrongArguments → spec.sorted named v s ≡ Failed e s
  sort_refused e found which = sort_asked None found ∙ ap (λ f. Failed f s) (sym which)

  module _ (given : Option Value) (found : spec.only_named name named ≡ Some given) where
    pub sort_no_items : (e : Failure) → items_in s.state v ≡ None → e ≡ failure.WrongType → spec.sorted named v s ≡ Failed e s
    sort_no_items e none which = sort_asked (Some given) found ∙ no_items v (λ items. spec.backwards given >>= in_list items) s none ∙ ap (λ f. Failed f s) (sym which)

    module _ (items : List Value) (has : items_in s.state v ≡ Some items) where
      sort_items : spec.sorted named v s ≡ and_then (spec.backwards given s) (in_list items)
      sort_items = sort_asked (Some given) found ∙ of_items v items (λ xs. spec.backwards given >>= in_list xs) s has

      pub sort_no_bool : (e : Failure) → spec.backwards given s ≡ Failed e s → spec.sorted named v s ≡ Failed e s
      sort_no_bool e no_bool = sort_items ∙ ap (λ o. and_then o (in_list items)) no_bool

      module _ (back : Bool) (as_bool : spec.backwards given s ≡ Went back s) where
        sort_walked : spec.sorted named v s ≡ and_then (ordered back items s) new_list
        sort_walked = sort_items ∙ ap (λ o. and_then o (in_list items)) as_bool ∙ then_list (walk_first items s) (turned back (sorted_items items))

        pub sort_made : (sorted : List Value) (t u : Store ℕ) (r : Result Value Stop) → ordered back items s ≡ Went sorted t → Gives (new_list sorted t) r u → Gives (spec.sorted named v s) r u
        sort_made sorted t u r made h = subst (λ o. Gives o r u) (sym (sort_walked ∙ ap (λ o. and_then o new_list) made)) h

        pub sort_ends : (t : Store ℕ) (e : Stop) → Gives (ordered back items s) (Err e) t → Gives (spec.sorted named v s) (Err e) t
        sort_ends t (stop.Failure e) h = sort_walked ∙ ap (λ o. and_then o new_list) h
        sort_ends t stop.NoMemory h = tt

went_as : (o : Outcome (Store ℕ) Failure (Unit {0})) (x items : List Value) (t : Store ℕ) → and_then o (λ _. pure x) ≡ Went items t → items ≡ x
went_as (Went u w) x items t h = cc
went_as (Failed e w) x items t h = absurd (cc)

pub ordered_items : (back : Bool) (items sorted : List Value) (s t : Store ℕ) → ordered back items s ≡ Went sorted t → sorted ≡ turned back (sorted_items items)
ordered_items back items sorted s t h = went_as (walk_first items s) (turned back (sorted_items items)) sorted t h

-- ---- sorted items fit

module _ (test : Value → Bool) where
  all_placed : (x : Value) (ys : List Value) → IsTrue (test x) → IsTrue (list_all test ys) → IsTrue (list_all test (placed x ys))
  all_placed x [] h all = and_both (test x) true h refl
  all_placed x (y ∷ ys) h all =
      elim (is_before y x) as (λ b. IsTrue (list_all test (if b then y ∷ placed x ys else x ∷ y ∷ ys))) [
        | true ↦ and_both (test y) (list_all test (placed x ys)) (and_left (test y) (list_all test ys) all) (all_placed x ys h (and_right (test y) (list_all test ys) all))
        | false ↦ and_both (test x) (list_all test (y ∷ ys)) h all
      ]

  all_sorted : (xs : List Value) → IsTrue (list_all test xs) → IsTrue (list_all test (sorted_items xs))
  unfolding sorted_items
  all_sorted [] all = refl
  all_sorted (x ∷ xs) all = all_placed x (sorted_items xs) (and_left (test x) (list_all test xs) all) (all_sorted xs (and_right (test x) (list_all test xs) all))

  all_onto : (xs ys : List Value) → IsTrue (list_all test xs) → IsTrue (list_all test ys) → IsTrue (list_all test (reverse_aux xs ys))
  all_onto [] ys all more = more
  all_onto (x ∷ xs) ys all more = all_onto xs (x ∷ ys) (and_right (test x) (list_all test xs) all) (and_both (test x) (list_all test ys) (and_left (test x) (list_all test xs) all) more)

  all_turned : (back : Bool) (xs : List Value) → IsTrue (list_all test xs) → IsTrue (list_all test (turned back (sorted_items xs)))
  all_turned true xs all = all_onto (sorted_items xs) [] (all_sorted xs all) refl
  all_turned false xs all = all_sorted xs all

pub sorted_fit : (m : MachineState) (back : Bool) (items sorted : List Value) → sorted ≡ turned back (sorted_items items) → AllFit m items → AllFit m sorted
sorted_fit m back items sorted is fit = rw is (record {
  references = all_turned (fits m.state.objects) back items fit.references;
  proper = all_turned is_proper back items fit.proper;
})

-- ---- min and max

pub extreme_none : (b : Value → Value → Bool) (values : List Value) (s : Store ℕ) → values ≡ [] → spec.extreme b values s ≡ Failed failure.WrongArguments s
unfolding spec.extreme
extreme_none b [] s h = refl
extreme_none b (x ∷ xs) s h = absurd (cc)

one_last : (b : Value → Value → Bool) (front : List Value) (v : Value) (s : Store ℕ) → length (front ++ v ∷ []) ≤ 1 → spec.extreme b (front ++ v ∷ []) s ≡ (items_of v >>= spec.best_item b) s
unfolding spec.extreme
one_last b [] v s h = refl
one_last b (x ∷ []) v s h = absurd (omega (arith, h))
one_last b (x ∷ y ∷ front) v s h = absurd (omega (arith, h))

pub extreme_one : (b : Value → Value → Bool) (values front : List Value) (v : Value) (s : Store ℕ) → values ≡ front ++ v ∷ [] → length values ≤ 1 → spec.extreme b values s ≡ (items_of v >>= spec.best_item b) s
extreme_one b values front v s is h = rw is (one_last b front v s (subst (λ n. n ≤ 1) (ap length is) h))

module _ (b : Value → Value → Bool) (s : State ℕ) (left : ℕ) where
  abbrev after_test : Value → List Value → Bool → Outcome (Store ℕ) Failure Value
  after_test x xs alike = (spec.check failure.WrongType alike >> (charge_items (x ∷ xs) >> pure (best b x xs))) (record { state = s; left = left })

  module _ (values : List Value) (x : Value) (several : 1 < length values) (first : x ≡ get_or values 0 x) where
    pub several_wrong : list_all (are_alike x) values ≡ false → spec.extreme b values (record { state = s; left = left }) ≡ Failed failure.WrongType (record { state = s; left = left })
    unfolding spec.extreme
    several_wrong unlike = wrong_at values several first unlike
      where
        wrong_at : (vs : List Value) → 1 < length vs → x ≡ get_or vs 0 x → list_all (are_alike x) vs ≡ false → spec.extreme b vs (record { state = s; left = left }) ≡ Failed failure.WrongType (record { state = s; left = left })
        wrong_at [] h is unlike = absurd (omega (arith, h))
        wrong_at (y ∷ []) h is unlike = absurd (omega (arith, h))
        wrong_at (y ∷ z ∷ more) h is unlike = ap (after_test y (z ∷ more)) (ap (λ w. list_all (are_alike w) (y ∷ z ∷ more)) (sym is) ∙ unlike)

    pub several_over : (rest : ℕ) (e : Failure) → list_all (are_alike x) values ≡ true → charged left (sum_of_weights values) ≡ (Err e, rest) → spec.extreme b values (record { state = s; left = left }) ≡ Failed e (record { state = s; left = rest })
    unfolding spec.extreme
    several_over rest e alike over = over_at values several first alike over
      where
        over_at : (vs : List Value) → 1 < length vs → x ≡ get_or vs 0 x → list_all (are_alike x) vs ≡ true → charged left (sum_of_weights vs) ≡ (Err e, rest) → spec.extreme b vs (record { state = s; left = left }) ≡ Failed e (record { state = s; left = rest })
        over_at [] h is alike paid = absurd (omega (arith, h))
        over_at (y ∷ []) h is alike paid = absurd (omega (arith, h))
        over_at (y ∷ z ∷ more) h is alike paid =
            ap (after_test y (z ∷ more)) (ap (λ w. list_all (are_alike w) (y ∷ z ∷ more)) (sym is) ∙ alike)
            ∙ charge_failed s left (sum_of_weights (y ∷ z ∷ more)) rest e (pure (best b y (z ∷ more))) paid

    pub several_best : (rest place : ℕ) (v : Value) → list_all (are_alike x) values ≡ true → charged left (sum_of_weights values) ≡ (Ok tt, rest) → slice_get values place ≡ leader b values → slice_get values place ≡ Some v
        → spec.extreme b values (record { state = s; left = left }) ≡ Went v (record { state = s; left = rest })
    unfolding spec.extreme
    several_best rest place v alike paid leads at = best_at values several first alike paid (sym leads ∙ at)
      where
        best_at : (vs : List Value) → 1 < length vs → x ≡ get_or vs 0 x → list_all (are_alike x) vs ≡ true → charged left (sum_of_weights vs) ≡ (Ok tt, rest) → leader b vs ≡ Some v → spec.extreme b vs (record { state = s; left = left }) ≡ Went v (record { state = s; left = rest })
        best_at [] h is alike done lead = absurd (omega (arith, h))
        best_at (y ∷ []) h is alike done lead = absurd (omega (arith, h))
        best_at (y ∷ z ∷ more) h is alike done lead =
            let here : best b y (z ∷ more) ≡ v = cc in
            ap (after_test y (z ∷ more)) (ap (λ w. list_all (are_alike w) (y ∷ z ∷ more)) (sym is) ∙ alike)
            ∙ charge_went s left (sum_of_weights (y ∷ z ∷ more)) rest (pure (best b y (z ∷ more))) done ∙ ap (λ w. Went w (record { state = s; left = rest })) here

pub ruleset extremes = (extreme_none, extreme_one, several_wrong, several_over, several_best)

-- ---- the best of what a value gives

either : (b : Bool) (x : Value) → (if b then x else x) ≡ x
either true x = refl
either false x = refl

best_first : (greatest : Bool) (items : List Value) (x : Value) (t : Store ℕ) → slice_get items 0 ≡ Some x → spec.best_item (better greatest) items t ≡ best_from greatest x x (drop 0 items) t
unfolding best_from
best_first greatest [] x t is = absurd (cc)
best_first greatest (y ∷ ys) x t is =
    let same : y ≡ x = cc in
    ap (λ w. (walk_alike y (y ∷ ys) >> pure (best (better greatest) w ys)) t) (sym (either (better greatest y y) y))
    ∙ ap (λ w. (walk_alike w (y ∷ ys) >> pure (best (better greatest) w (y ∷ ys))) t) same

module _ (greatest : Bool) (v : Value) (items : List Value) (s : State ℕ) (left : ℕ) where
  abbrev start : Store ℕ
  start = record { state = s; left = left }

  pub best_no_items : (e : Failure) → items_in s v ≡ None → e ≡ failure.WrongType → (items_of v >>= spec.best_item (better greatest)) start ≡ Failed e start
  best_no_items e none which = no_items v (spec.best_item (better greatest)) start none ∙ ap (λ f. Failed f start) (sym which)

  module _ (has : items_in s v ≡ Some items) where
    best_of : (items_of v >>= spec.best_item (better greatest)) start ≡ spec.best_item (better greatest) items start
    best_of = of_items v items (spec.best_item (better greatest)) start has

    pub best_no_element : length items ≡ 0 → (items_of v >>= spec.best_item (better greatest)) start ≡ Failed failure.NoElement start
    best_no_element none = best_of ∙ none_at items none
      where
        none_at : (xs : List Value) → length xs ≡ 0 → spec.best_item (better greatest) xs start ≡ Failed failure.NoElement start
        none_at [] h = refl
        none_at (x ∷ xs) h = absurd (omega (arith, h))

    best_started : (x : Value) → slice_get items 0 ≡ Some x → (items_of v >>= spec.best_item (better greatest)) start ≡ best_from greatest x x (drop 0 items) start
    best_started x is = best_of ∙ best_first greatest items x start is

    pub best_begun : (x : Value) (rest : ℕ) → slice_get items 0 ≡ Some x → charged left (weight x) ≡ (Ok tt, rest) → are_alike x x ≡ true
        → (items_of v >>= spec.best_item (better greatest)) start ≡ best_from greatest x x (drop 1 items) (record { state = s; left = rest })
    best_begun x rest is paid alike = best_started x is ∙ best_next greatest x items 0 s left x x x rest is paid alike (either (better greatest x x) x)

    pub best_unlike : (x : Value) (rest : ℕ) → slice_get items 0 ≡ Some x → charged left (weight x) ≡ (Ok tt, rest) → are_alike x x ≡ false
        → (items_of v >>= spec.best_item (better greatest)) start ≡ Failed failure.WrongType (record { state = s; left = rest })
    best_unlike x rest is paid unlike = best_started x is ∙ best_wrong greatest x items 0 s left x x rest is paid unlike

    pub best_first_stopped : (rest : ℕ) (e : Stop) → 0 < length items → GivesItem items 0 left (Err e) rest → Gives ((items_of v >>= spec.best_item (better greatest)) start) (Err e) (record { state = s; left = rest })
    best_first_stopped rest e within h =
        let found = some_at items 0 within in
        same_gives _ _ (Err e) (record { state = s; left = rest }) (best_started found.0 found.1) (best_stopped greatest found.0 items 0 s left rest found.0 e within h)
