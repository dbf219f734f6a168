-- The items of a value, walked one by one, reversed and tested.
use Rattle.std.proofs.Common.{◌≡◌, ℕ, suc, zero, ◌+◌, ◌<◌, ◌≤◌, Bool, true, false, List, [], ◌∷◌, ◌++◌, map, length, drop, reverse, refl, sym, ap, ◌∙◌, subst, arith, max, IsTrue, Option, Some, None, slice_get, ℤ}
use Rattle.std.specs.Bool.{beq}
use Rattle.std.specs.List.{list_all, list_any}
use Rattle.std.specs.Prelude.{Result, Ok, Err, ◌&&◌, ◌||◌, not, nat_eq, nat_le, nat_lt, option_map, if◌then◌else◌}
use Rattle.std.specs.List.Sorted.{IsPermutation}
use Rattle.std.proofs.lemmas.Bool.Decides.{nat_tests}
use Rattle.std.proofs.lemmas.List.{drop_all, length-map}
use Rattle.std.proofs.lemmas.List.Sorted.{IsPermutation-reverse, sum_by-IsPermutation, list_any-IsPermutation}
use Rattle.std.proofs.lemmas.List.Sums.{sum-map}
use Rattle.heap_store.proofs.Tested.{and_both, and_right}
use Rattle.star_value.specs.declared.failure.Failure.{Failure}
use Rattle.star_value.specs.declared.failure.Failure.TheVariants as failure
use Rattle.star_value.specs.declared.stop.Stop.{Stop}
use Rattle.star_value.specs.declared.stop.Stop.TheVariants as stop
use Rattle.star_value.specs.declared.value.Value.{Value, fold-Value}
use Rattle.star_value.specs.declared.value.Value.TheVariants as value
use Rattle.star_value.specs.declared.key.Key.{Key}
use Rattle.star_value.specs.declared.key.Key.TheVariants as key
use Rattle.star_value.specs.declared.range.Range.{Range}
use Rattle.star_value.specs.Charge.{charged}
use Rattle.star_value.specs.Keys.{value_of}
use Rattle.star_value.specs.Ranges.{range_count}
use Rattle.star_value.specs.Weight.{weight, depth, sum_of_weights}
use Rattle.star_meaning.specs.Builtins as spec
use Rattle.star_meaning.specs.State.{State, list, dict}
use Rattle.star_meaning.specs.Steps.{Outcome, Went, Failed, Action, Store, Gives, pure, fail, and_then, charge, read, ◌>>=◌, ◌>>◌}
use Rattle.star_meaning.specs.Validity.{MachineState, fits, is_proper, proper_step}
use Rattle.star_meaning.specs.Values.{charge_items, charge_weight, check_depth, integers_of, is_true, is_zero, items_in, key_values, new_list, range_item}
use Rattle.star_meaning.specs.Operators.{charged_list}
use Rattle.star_meaning.proofs.Equations.{value_none, value_bool, value_int, value_text, value_tuple}
use Rattle.star_builtins.specs.Reached.{AllFit, Fits}
use Rattle.star_builtins.specs.Walks.{GivesItem, given, weight_at}
use Rattle.star_builtins.specs.Rows.{tupled, walked_given}
use Rattle.star_builtins.proofs.DepthLemmas.{depth_around}
use Rattle.star_builtins.proofs.FitLemmas.{inside}
use Rattle.star_builtins.proofs.RowLemmas.{charge_went, charge_failed, of_items, no_items, same_gives}
use Rattle.star_builtins.proofs.TruthLemmas.{true_none, true_bool, true_int, true_text, true_tuple}
use Rattle.star_builtins.proofs.WalkLemmas.{at_some, drop_at, some_at, given_tuple, given_range, given_list, given_dict, range_get}

-- ---- a walk over the items of a tuple

-- the walk from a place on, and then all items
abbrev pub walked_from : List Value → ℕ → Action ℕ (List Value)
walked_from all place = spec.walk_tuple (drop place all) >> pure all

module _ (all : List Value) (place : ℕ) (s : State ℕ) (left rest : ℕ) (total : Outcome (Store ℕ) Failure (List Value)) where
  -- what is left of the walk behind the charge of an item
  abbrev looked : Value → Action ℕ (List Value)
  looked v = check_depth (value.Tuple (v ∷ [])) >> spec.walk_tuple (drop (place + 1) all) >> pure all

  walk_here : (v : Value) → slice_get all place ≡ Some v → walked_from all place (record { state = s; left = left }) ≡ and_then ((charge (weight v) >> (check_depth (value.Tuple (v ∷ [])) >> spec.walk_tuple (drop (place + 1) all))) (record { state = s; left = left })) (λ _. pure all)
  walk_here v is = ap (λ vs. (spec.walk_tuple vs >> pure all) (record { state = s; left = left })) (drop_at all place v is)

  walk_paid : (v : Value) → slice_get all place ≡ Some v → charged left (weight v) ≡ (Ok tt, rest) → walked_from all place (record { state = s; left = left }) ≡ looked v (record { state = s; left = rest })
  walk_paid v is done =
      walk_here v is
      ∙ ap (λ o. and_then o (λ _. pure all)) (charge_went s left (weight v) rest (check_depth (value.Tuple (v ∷ [])) >> spec.walk_tuple (drop (place + 1) all)) done)

  pub walk_more : (v : Value) → slice_get all place ≡ Some v → charged left (weight v) ≡ (Ok tt, rest) → nat_lt 64 (depth (value.Tuple (v ∷ []))) ≡ false → walked_from all place (record { state = s; left = left }) ≡ total
      → walked_from all (place + 1) (record { state = s; left = rest }) ≡ total
  walk_more v is done low before =
      sym (ap (λ b. ((if b then fail failure.TooDeep else pure tt) >> spec.walk_tuple (drop (place + 1) all) >> pure all) (record { state = s; left = rest })) low)
      ∙ sym (walk_paid v is done) ∙ before

  pub walk_deep : (v : Value) → slice_get all place ≡ Some v → charged left (weight v) ≡ (Ok tt, rest) → nat_lt 64 (depth (value.Tuple (v ∷ []))) ≡ true → walked_from all place (record { state = s; left = left }) ≡ total
      → total ≡ Failed failure.TooDeep (record { state = s; left = rest })
  walk_deep v is done deep before =
      sym before ∙ walk_paid v is done
      ∙ ap (λ b. ((if b then fail failure.TooDeep else pure tt) >> spec.walk_tuple (drop (place + 1) all) >> pure all) (record { state = s; left = rest })) deep

  walk_over : (e : Failure) (v : Value) → slice_get all place ≡ Some v → charged left (weight_at all place) ≡ (Err e, rest) → walked_from all place (record { state = s; left = left }) ≡ total → total ≡ Failed e (record { state = s; left = rest })
  walk_over e v is over before =
      sym before ∙ walk_here v is
      ∙ ap (λ o. and_then o (λ _. pure all)) (charge_failed s left (weight v) rest e (check_depth (value.Tuple (v ∷ [])) >> spec.walk_tuple (drop (place + 1) all)) (ap (charged left) (sym (at_some all place v is)) ∙ over))

  pub walk_stops : (e : Stop) → place < length all → GivesItem all place left (Err e) rest → walked_from all place (record { state = s; left = left }) ≡ total → Gives total (Err e) (record { state = s; left = rest })
  walk_stops (stop.Failure e) within over before = let here = some_at all place within in walk_over e here.0 here.1 over before
  walk_stops stop.NoMemory within over before = tt

pub walk_done : (all : List Value) (place : ℕ) (t : Store ℕ) (total : Outcome (Store ℕ) Failure (List Value)) → length all ≤ place → walked_from all place t ≡ total → total ≡ Went all t
walk_done all place t total past before = sym before ∙ ap (λ vs. (spec.walk_tuple vs >> pure all) t) (drop_all place all past)

lower : (d : ℕ) → nat_lt 64 (max d 0 + 1) ≡ false → IsTrue (nat_lt d 64)
lower d h = grind (arith, nat_tests)

-- an item around which a tuple nests no deeper than it may
pub item_inside : (m : MachineState) (v : Value) → Fits m v → nat_lt 64 (depth (value.Tuple (v ∷ []))) ≡ false → IsTrue (inside m.state.objects v)
unfolding is_proper
item_inside m v fit low =
    and_both (fits m.state.objects v) (nat_lt (depth v) 64 && fold-Value Bool proper_step v) fit.references
    (and_both (nat_lt (depth v) 64) (fold-Value Bool proper_step v) (lower (depth v) (ap (nat_lt 64) (sym (depth_around v)) ∙ low)) (and_right (nat_le (depth v) 64) (fold-Value Bool proper_step v) fit.proper))

-- ---- a tuple of the items

module _ (all : List Value) where
  then_tuple : (o : Outcome (Store ℕ) Failure (Unit {0})) (items : List Value) (t : Store ℕ) → and_then o (λ _. pure all) ≡ Went items t → and_then o (λ _. pure (value.Tuple all)) ≡ Went (value.Tuple items) t
  then_tuple (Went done w) items t h =
      let same : all ≡ items = cc in
      let there : w ≡ t = cc in
      ap (λ xs. Went (value.Tuple xs) w) same ∙ ap (λ u. Went (value.Tuple items) u) there
  then_tuple (Failed e w) items t h = absurd (cc)

  then_failed : (o : Outcome (Store ℕ) Failure (Unit {0})) (e : Failure) (t : Store ℕ) → and_then o (λ _. pure all) ≡ Failed e t → and_then o (λ _. pure (value.Tuple all)) ≡ Failed e t
  then_failed (Went done w) e t h = absurd (cc)
  then_failed (Failed f w) e t h =
      let same : f ≡ e = cc in
      let there : w ≡ t = cc in
      ap (λ g. Failed g w) same ∙ ap (λ u. Failed e u) there

module _ (v : Value) (all : List Value) (s t : Store ℕ) (is : items_in s.state v ≡ Some all) where
  tuple_as : tupled v s ≡ and_then (spec.walk_tuple all s) (λ _. pure (value.Tuple all))
  tuple_as = of_items v all (λ items. spec.walk_tuple items >> pure (value.Tuple items)) s is

  pub tuple_went : (items : List Value) → walked_given all s ≡ Went items t → tupled v s ≡ Went (value.Tuple items) t
  tuple_went items h = tuple_as ∙ then_tuple all (spec.walk_tuple all s) items t h

  pub tuple_ends : (e : Stop) → Gives (walked_given all s) (Err e) t → Gives (tupled v s) (Err e) t
  tuple_ends (stop.Failure e) h = tuple_as ∙ then_failed all (spec.walk_tuple all s) e t h
  tuple_ends stop.NoMemory h = tt

pub tuple_nothing : (v : Value) (s : Store ℕ) → items_in s.state v ≡ None → tupled v s ≡ Failed failure.WrongType s
tuple_nothing v s is = no_items v (λ items. spec.walk_tuple items >> pure (value.Tuple items)) s is

pub none_fit : (m : MachineState) (items : List Value) → items ≡ [] → AllFit m items
none_fit m items is = subst (AllFit m) (sym is) (record { references = refl; proper = refl })

-- ---- the same items in another order

pub weights_moved : (items moved : List Value) → IsPermutation items moved → sum_of_weights moved ≡ sum_of_weights items
weights_moved items moved h = sum-map weight moved ∙ sum_by-IsPermutation weight items moved h ∙ sym (sum-map weight items)

pass_or_not : (p : Value → Bool) (xs : List Value) → list_all p xs ≡ not (list_any (λ x. not (p x)) xs)
pass_or_not p [] = refl
pass_or_not p (x ∷ xs) = ap (λ b. p x && b) (pass_or_not p xs) ∙ both (p x) (list_any (λ y. not (p y)) xs)
  where
    both : (a b : Bool) → (a && not b) ≡ not (not a || b)
    both true b = refl
    both false b = refl

pass_moved : (p : Value → Bool) (xs ys : List Value) → IsPermutation xs ys → IsTrue (list_all p xs) → IsTrue (list_all p ys)
pass_moved p xs ys h pass = pass_or_not p ys ∙ ap not (sym (list_any-IsPermutation (λ x. not (p x)) xs ys h)) ∙ sym (pass_or_not p xs) ∙ pass

pub fit_moved : (m : MachineState) (items moved : List Value) → IsPermutation items moved → AllFit m items → AllFit m moved
fit_moved m items moved h fit = record {
  references = pass_moved (fits m.state.objects) items moved h fit.references;
  proper = pass_moved is_proper items moved h fit.proper;
}

module _ (v : Value) (all : List Value) (s : State ℕ) (left rest : ℕ) (is : items_in s v ≡ Some all) where
  reversed_as : spec.reversed v (record { state = s; left = left }) ≡ charged_list (reverse all) (record { state = s; left = left })
  reversed_as = of_items v all (λ items. charged_list (reverse items)) (record { state = s; left = left }) is

  weights_turned : charged left (sum_of_weights (reverse all)) ≡ charged left (sum_of_weights all)
  weights_turned = ap (charged left) (weights_moved all (reverse all) (IsPermutation-reverse all))

  pub reversed_over : (e : Failure) → charged left (sum_of_weights all) ≡ (Err e, rest) → spec.reversed v (record { state = s; left = left }) ≡ Failed e (record { state = s; left = rest })
  reversed_over e over = reversed_as ∙ charge_failed s left (sum_of_weights (reverse all)) rest e (new_list (reverse all)) (weights_turned ∙ over)

  pub reversed_gives : (moved : List Value) (u : Store ℕ) (r : Result Value Stop) → charged left (sum_of_weights all) ≡ (Ok tt, rest) → moved ≡ reverse all → Gives (new_list moved (record { state = s; left = rest })) r u
      → Gives (spec.reversed v (record { state = s; left = left })) r u
  reversed_gives moved u r done same h =
      same_gives _ _ r u (reversed_as ∙ charge_went s left (sum_of_weights (reverse all)) rest (new_list (reverse all)) (weights_turned ∙ done) ∙ ap (λ vs. new_list vs (record { state = s; left = rest })) (sym same)) h

-- ---- a test of all items

module _ (s : State ℕ) (truth : Bool) where
  -- whether a value has the wanted truth
  abbrev pub has_truth : Value → Bool
  has_truth v = beq (is_true s v) truth

  module _ (all : List Value) (place : ℕ) (b total : Bool) (is : option_map (is_true s) (slice_get all place) ≡ Some b) (before : list_any has_truth (drop place all) ≡ total) where
    first_at : (o : Option Value) → slice_get all place ≡ o → list_any has_truth (drop place all) ≡ (beq b truth || list_any has_truth (drop (place + 1) all))
    first_at None none = absurd (let no : None ≡ Some b = ap (option_map (is_true s)) (sym none) ∙ is in cc)
    first_at (Some v) some =
        let whole : Some (is_true s v) ≡ Some b = ap (option_map (is_true s)) (sym some) ∙ is in
        let same : is_true s v ≡ b = cc in
        ap (list_any has_truth) (drop_at all place v some) ∙ ap (λ c. beq c truth || list_any has_truth (drop (place + 1) all)) same

    pub found_here : beq b truth ≡ true → total ≡ true
    found_here here = sym before ∙ first_at (slice_get all place) refl ∙ ap (λ c. c || list_any has_truth (drop (place + 1) all)) here

    pub found_later : beq b truth ≡ false → list_any has_truth (drop (place + 1) all) ≡ total
    found_later apart = sym (first_at (slice_get all place) refl ∙ ap (λ c. c || list_any has_truth (drop (place + 1) all)) apart) ∙ before

pub found_nowhere : (s : State ℕ) (truth : Bool) (all : List Value) (place : ℕ) (total : Bool) → length all ≤ place → list_any (has_truth s truth) (drop place all) ≡ total → total ≡ false
found_nowhere s truth all place total past before = sym before ∙ ap (list_any (has_truth s truth)) (drop_all place all past)

is_that : (b : Bool) → beq b true ≡ b
is_that true = refl
is_that false = refl

pub any_true : (s : State ℕ) (items : List Value) → list_any (has_truth s true) items ≡ list_any (is_true s) items
any_true s [] = refl
any_true s (x ∷ xs) = ap (λ b. b || list_any (has_truth s true) xs) (is_that (is_true s x)) ∙ ap (λ b. is_true s x || b) (any_true s xs)

both_or_not : (a b : Bool) → not (beq a false || b) ≡ (a && not b)
both_or_not true b = refl
both_or_not false b = refl

pub none_false : (s : State ℕ) (items : List Value) → not (list_any (has_truth s false) items) ≡ list_all (is_true s) items
none_false s [] = refl
none_false s (x ∷ xs) = both_or_not (is_true s x) (list_any (has_truth s false) xs) ∙ ap (λ b. is_true s x && b) (none_false s xs)

module _ (test : (Value → Bool) → List Value → Bool) (v : Value) (all : List Value) (s : State ℕ) (left rest : ℕ) (is : items_in s v ≡ Some all) where
  -- the charge of all items, and then the test
  abbrev charged_test : List Value → Action ℕ Value
  charged_test items = charge_items items >> read (λ t. value.Bool (test (is_true t) items))

  pub tested_went : charged left (sum_of_weights all) ≡ (Ok tt, rest) → spec.tested test v (record { state = s; left = left }) ≡ Went (value.Bool (test (is_true s) all)) (record { state = s; left = rest })
  tested_went done = of_items v all charged_test (record { state = s; left = left }) is ∙ charge_went s left (sum_of_weights all) rest (read (λ t. value.Bool (test (is_true t) all))) done

  pub tested_over : (e : Failure) → charged left (sum_of_weights all) ≡ (Err e, rest) → spec.tested test v (record { state = s; left = left }) ≡ Failed e (record { state = s; left = rest })
  tested_over e over = of_items v all charged_test (record { state = s; left = left }) is ∙ charge_failed s left (sum_of_weights all) rest e (read (λ t. value.Bool (test (is_true t) all))) over

pub tested_nothing : (test : (Value → Bool) → List Value → Bool) (v : Value) (s : Store ℕ) → items_in s.state v ≡ None → spec.tested test v s ≡ Failed failure.WrongType s
tested_nothing test v s is = no_items v (λ items. charge_items items >> read (λ t. value.Bool (test (is_true t) items))) s is

-- ---- the truth of an item

module _ (s : State ℕ) where
  pub key_none : is_true s (value_of key.None) ≡ false
  key_none = ap (is_true s) value_none ∙ true_none s

  pub key_bool : (b : Bool) → is_true s (value_of (key.Bool b)) ≡ b
  key_bool b = ap (is_true s) (value_bool b) ∙ true_bool s b

  pub key_int : (z : ℤ) → is_true s (value_of (key.Int z)) ≡ not (is_zero z)
  key_int z = ap (is_true s) (value_int z) ∙ true_int s z

  pub key_text : (points : List ℕ) → is_true s (value_of (key.Text points)) ≡ not (nat_eq (length points) 0)
  key_text points = ap (is_true s) (value_text points) ∙ true_text s points

  pub key_tuple : (parts : List Key) → is_true s (value_of (key.Tuple parts)) ≡ not (nat_eq (length parts) 0)
  key_tuple parts = ap (is_true s) (value_tuple parts) ∙ true_tuple s (map value_of parts) ∙ ap (λ n. not (nat_eq n 0)) (length-map parts value_of)

pub ruleset key_truths = (key_none, key_bool, key_int, key_text, key_tuple)

module _ (s : State ℕ) (place : ℕ) (b : Bool) where
  truth_in : (v x : Value) (items : List Value) → given s v ≡ items → slice_get items place ≡ Some x → b ≡ is_true s x → option_map (is_true s) (slice_get (given s v) place) ≡ Some b
  truth_in v x items same is truth = ap (λ vs. option_map (is_true s) (slice_get vs place)) same ∙ ap (option_map (is_true s)) is ∙ ap Some (sym truth)

  pub truth_tuple : (items : List Value) (x : Value) → slice_get items place ≡ Some x → b ≡ is_true s x → option_map (is_true s) (slice_get (given s (value.Tuple items)) place) ≡ Some b
  truth_tuple items x is truth = truth_in (value.Tuple items) x items (given_tuple s items) is truth

  pub truth_list : (id : ℕ) (items : List Value) (x : Value) → items ≡ list s id → slice_get items place ≡ Some x → b ≡ is_true s x → option_map (is_true s) (slice_get (given s (value.List id)) place) ≡ Some b
  truth_list id items x same is truth = truth_in (value.List id) x items (given_list s id ∙ sym same) is truth

  pub truth_dict : (id : ℕ) (x : Value) → slice_get (key_values (dict s id)) place ≡ Some x → is_true s x ≡ b → option_map (is_true s) (slice_get (given s (value.Dict id)) place) ≡ Some b
  truth_dict id x is truth = truth_in (value.Dict id) x (key_values (dict s id)) (given_dict s id) is (sym truth)

  pub truth_range : (r : Range) → place < range_count r → b ≡ not (is_zero (range_item r place)) → option_map (is_true s) (slice_get (given s (value.Range r)) place) ≡ Some b
  truth_range r within truth =
      truth_in (value.Range r) (value.Int (range_item r place)) (map value.Int (integers_of r)) (given_range s r) (range_get r place within) (truth ∙ sym (true_int s (range_item r place)))
