-- The order of two values, and membership.
use Rattle.std.proofs.Common.{◌≡◌, ℕ, ℤ, zero, suc, ◌+◌, ◌≤◌, Bool, true, false, Ok, Err, List, ◌∷◌, length, drop, Some, None, refl, ap, ◌∙◌, arith}
use Rattle.std.specs.Prelude.{unsigned_abs, is_some, not, pos, negsuc, neg_ℤ, nat_lt, ◌==◌, ◌&&◌, ◌%◌, ◌/◌, ◌-ℤ◌, ◌*ℤ◌, ◌<ℤ◌, ◌≤ℤ◌}
use Rattle.std.proofs.lemmas.Int.{ints}
use Rattle.star_value.specs.Ranges.{range_count, count_between}
use Rattle.std.proofs.lemmas.Bool.Decides.{nat_tests}
use Rattle.std.proofs.lemmas.List.{drop_all}
use Rattle.star_syntax.specs.declared.operator.CompareOp.TheVariants as op
use Rattle.star_value.specs.Charge.{charged}
use Rattle.star_value.specs.Texts.{find}
use Rattle.star_value.specs.declared.builtin.Builtin.{Builtin}
use Rattle.star_value.specs.declared.failure.Failure.{Failure}
use Rattle.star_value.specs.declared.failure.Failure.TheVariants as failure
use Rattle.star_value.specs.declared.range.Range.{Range}
use Rattle.star_value.specs.declared.value.Value.{Value, out-Value}
use Rattle.star_value.specs.declared.value.Value.TheOpen.{Value-F}
use Rattle.star_value.specs.declared.value.Value.TheVariants as value
use Rattle.star_meaning.specs.State.{State, list}
use Rattle.star_meaning.specs.Steps.{Went, Failed, Action, Store, pure, fail, charge, and_then}
use Rattle.star_meaning.specs.Comparing.{Verdict, compare, ordered_as, are_ordered, compared, equal, by_order, search_in, within, within_at, within_list, within_dict, within_text}
use Rattle.star_meaning.specs.Values.{text_at, text_in, int_at, int_in, range_gives, is_place_of, is_zero, rest_of, floor_of}
use Rattle.star_meaning.proofs.Equations.{out_none, out_bool, out_int, out_text, out_tuple, out_range, out_list, out_dict, out_function, out_builtin}
use Rattle.star_builtins.specs.Weighing.{tuple_at, list_at, searched, steps_to, on_step}

pub ordered_int : (z : ℤ) (y : Value-F Value) → are_ordered (Value-F.Int z) y ≡ is_some (int_at y)
ordered_int z (Value-F.Int w) = refl
ordered_int z _ = refl

pub ordered_text : (t : List ℕ) (y : Value-F Value) → are_ordered (Value-F.Text t) y ≡ is_some (text_at y)
ordered_text t (Value-F.Text u) = refl
ordered_text t _ = refl

pub ordered_tuple : (xs : List Value) (y : Value-F Value) → are_ordered (Value-F.Tuple xs) y ≡ is_some (tuple_at y)
ordered_tuple xs (Value-F.Tuple ys) = refl
ordered_tuple xs _ = refl

pub ordered_list : (id : ℕ) (y : Value-F Value) → are_ordered (Value-F.List id) y ≡ is_some (list_at y)
ordered_list id (Value-F.List other) = refl
ordered_list id _ = refl

pub ruleset kinds = (ordered_int, ordered_text, ordered_tuple, ordered_list)

module _ {C : Type 0} where
  pub order_wrong : (answer : Verdict → Action C Bool) (a b : Value) (s : Store C) → are_ordered (out-Value a) (out-Value b) ≡ false → by_order answer a b s ≡ Failed failure.WrongType s
  unfolding by_order
  order_wrong answer a b s h = rw h refl

  pub order_failed : (answer : Verdict → Action C Bool) (a b : Value) (s next : Store C) (e : Failure) → are_ordered (out-Value a) (out-Value b) ≡ true → compared false 64 a b s ≡ Failed e next → by_order answer a b s ≡ Failed e next
  unfolding by_order
  order_failed answer a b s next e h failed = rw (h, failed) refl

  pub order_went : (answer : Verdict → Action C Bool) (a b : Value) (s next : Store C) (v : Verdict) → are_ordered (out-Value a) (out-Value b) ≡ true → compared false 64 a b s ≡ Went v next → by_order answer a b s ≡ answer v next
  unfolding by_order
  order_went answer a b s next v h went = rw (h, went) refl

  -- ---- the first equal item

  pub search_is : (wanted : Value) (xs : List Value) (s : Store C) → search_in wanted xs s ≡ searched wanted 0 (drop 0 xs) s
  unfolding search_in searched
  search_is wanted xs s = refl

  pub searched_failed : (wanted : Value) (xs : List Value) (i : ℕ) (x : Value) (s next : Store C) (e : Failure) → drop i xs ≡ x ∷ drop (i + 1) xs → equal wanted x s ≡ Failed e next → searched wanted i (drop i xs) s ≡ Failed e next
  unfolding searched
  searched_failed wanted xs i x s next e more failed = rw (more, failed) refl

  pub searched_found : (wanted : Value) (xs : List Value) (i : ℕ) (x : Value) (s next : Store C) → drop i xs ≡ x ∷ drop (i + 1) xs → equal wanted x s ≡ Went true next → searched wanted i (drop i xs) s ≡ Went (Some i) next
  unfolding searched
  searched_found wanted xs i x s next more went = rw (more, went) refl

  pub searched_step : (wanted : Value) (xs : List Value) (i : ℕ) (x : Value) (s next : Store C) → drop i xs ≡ x ∷ drop (i + 1) xs → equal wanted x s ≡ Went false next
      → searched wanted (i + 1) (drop (i + 1) xs) next ≡ searched wanted i (drop i xs) s
  unfolding searched
  searched_step wanted xs i x s next more went = rw (more, went) refl

  pub searched_end : (wanted : Value) (xs : List Value) (i : ℕ) (s : Store C) → length xs ≤ i → searched wanted i (drop i xs) s ≡ Went None s
  unfolding searched
  searched_end wanted xs i s past = rw (drop_all i xs past) refl

  -- ---- membership, by what holds the items

  pub within_list_is : (wanted : Value) (id : ℕ) (s : Store C) → within wanted (value.List id) s ≡ within_list wanted (list s.state id) s
  unfolding within
  within_list_is wanted id s = rw (out_list id) refl

  pub within_tuple_is : (wanted : Value) (xs : List Value) (s : Store C) → within wanted (value.Tuple xs) s ≡ within_list wanted xs s
  unfolding within
  within_tuple_is wanted xs s = rw (out_tuple xs) refl

  pub within_dict_is : (wanted : Value) (id : ℕ) (s : Store C) → within wanted (value.Dict id) s ≡ within_dict wanted id s
  unfolding within
  within_dict_is wanted id s = rw (out_dict id) refl

  in_range_at : (wanted : Value) (x : Value-F Value) (r : Range) (z : ℤ) → Some z ≡ int_at x → within_at {C = C} wanted x (Value-F.Range r) ≡ pure (range_gives r z)
  in_range_at wanted (Value-F.Int w) r z is = let same : z ≡ w = cc in rw same refl
  in_range_at wanted _ r z is = absurd (cc)

  no_range_at : (wanted : Value) (x : Value-F Value) (r : Range) → None ≡ int_at x → within_at {C = C} wanted x (Value-F.Range r) ≡ fail failure.WrongType
  no_range_at wanted (Value-F.Int w) r is = absurd (cc)
  no_range_at wanted _ r is = refl

  pub within_range_is : (wanted : Value) (r : Range) (z : ℤ) (s : Store C) → Some z ≡ int_in wanted → within wanted (value.Range r) s ≡ Went (range_gives r z) s
  unfolding within
  within_range_is wanted r z s is = rw (out_range r) (ap (λ p. p s) (in_range_at wanted (out-Value wanted) r z is))

  pub within_range_wrong : (wanted : Value) (r : Range) (s : Store C) → None ≡ int_in wanted → within wanted (value.Range r) s ≡ Failed failure.WrongType s
  unfolding within
  within_range_wrong wanted r s is = rw (out_range r) (ap (λ p. p s) (no_range_at wanted (out-Value wanted) r is))

  in_text_at : (wanted : Value) (x : Value-F Value) (text part : List ℕ) → Some part ≡ text_at x → within_at {C = C} wanted x (Value-F.Text text) ≡ within_text part text
  in_text_at wanted (Value-F.Text u) text part is = let same : part ≡ u = cc in rw same refl
  in_text_at wanted _ text part is = absurd (cc)

  no_text_at : (wanted : Value) (x : Value-F Value) (text : List ℕ) → None ≡ text_at x → within_at {C = C} wanted x (Value-F.Text text) ≡ fail failure.WrongType
  no_text_at wanted (Value-F.Text u) text is = absurd (cc)
  no_text_at wanted _ text is = refl

  pub within_text_is : (wanted : Value) (text part : List ℕ) (s : Store C) → Some part ≡ text_in wanted → within wanted (value.Text text) s ≡ within_text part text s
  unfolding within
  within_text_is wanted text part s is = rw (out_text text) (ap (λ p. p s) (in_text_at wanted (out-Value wanted) text part is))

  pub text_failed : (wanted : Value) (text part : List ℕ) (s : State C) (left mid : ℕ) (e : Failure) → charged left (length part + length text) ≡ (Err e, mid) → Some part ≡ text_in wanted
      → within wanted (value.Text text) (record { state = s; left = left }) ≡ Failed e (record { state = s; left = mid })
  unfolding charge
  text_failed wanted text part s left mid e h is = rw (within_text_is wanted text part (record { state = s; left = left }) is, h) refl

  pub text_went : (wanted : Value) (text part : List ℕ) (s : State C) (left mid : ℕ) (b : Bool) → charged left (length part + length text) ≡ (Ok tt, mid) → Some part ≡ text_in wanted → b ≡ is_some (find text part)
      → within wanted (value.Text text) (record { state = s; left = left }) ≡ Went b (record { state = s; left = mid })
  unfolding charge
  text_went wanted text part s left mid b h is found = rw (within_text_is wanted text part (record { state = s; left = left }) is, h, found) refl

  pub within_text_wrong : (wanted : Value) (text : List ℕ) (s : Store C) → None ≡ text_in wanted → within wanted (value.Text text) s ≡ Failed failure.WrongType s
  unfolding within
  within_text_wrong wanted text s is = rw (out_text text) (ap (λ p. p s) (no_text_at wanted (out-Value wanted) text is))

  -- ---- values that hold nothing

  none_at : (x : Value-F Value) (wanted : Value) → within_at {C = C} wanted x Value-F.None ≡ fail failure.WrongType
  none_at Value-F.None wanted = refl
  none_at _ wanted = refl

  pub within_none : (wanted : Value) (s : Store C) → within wanted value.None s ≡ Failed failure.WrongType s
  unfolding within
  within_none wanted s = rw out_none (ap (λ p. p s) (none_at (out-Value wanted) wanted))

  bool_at : (x : Value-F Value) (t : Bool) (wanted : Value) → within_at {C = C} wanted x (Value-F.Bool t) ≡ fail failure.WrongType
  bool_at Value-F.None t wanted = refl
  bool_at _ t wanted = refl

  pub within_bool : (wanted : Value) (t : Bool) (s : Store C) → within wanted (value.Bool t) s ≡ Failed failure.WrongType s
  unfolding within
  within_bool wanted t s = rw (out_bool t) (ap (λ p. p s) (bool_at (out-Value wanted) t wanted))

  number_at : (x : Value-F Value) (z : ℤ) (wanted : Value) → within_at {C = C} wanted x (Value-F.Int z) ≡ fail failure.WrongType
  number_at Value-F.None z wanted = refl
  number_at _ z wanted = refl

  pub within_int : (wanted : Value) (z : ℤ) (s : Store C) → within wanted (value.Int z) s ≡ Failed failure.WrongType s
  unfolding within
  within_int wanted z s = rw (out_int z) (ap (λ p. p s) (number_at (out-Value wanted) z wanted))

  function_at : (x : Value-F Value) (id : ℕ) (wanted : Value) → within_at {C = C} wanted x (Value-F.Function id) ≡ fail failure.WrongType
  function_at Value-F.None id wanted = refl
  function_at _ id wanted = refl

  pub within_function : (wanted : Value) (id : ℕ) (s : Store C) → within wanted (value.Function id) s ≡ Failed failure.WrongType s
  unfolding within
  within_function wanted id s = rw (out_function id) (ap (λ p. p s) (function_at (out-Value wanted) id wanted))

  builtin_at : (x : Value-F Value) (which : Builtin) (wanted : Value) → within_at {C = C} wanted x (Value-F.Builtin which) ≡ fail failure.WrongType
  builtin_at Value-F.None which wanted = refl
  builtin_at _ which wanted = refl

  pub within_builtin : (wanted : Value) (which : Builtin) (s : Store C) → within wanted (value.Builtin which) s ≡ Failed failure.WrongType s
  unfolding within
  within_builtin wanted which s = rw (out_builtin which) (ap (λ p. p s) (builtin_at (out-Value wanted) which wanted))

pub ruleset orders = (order_wrong, order_failed, order_went)

pub ruleset searches = (search_is, searched_failed, searched_found, searched_step, searched_end)

pub ruleset memberships = (within_list_is, within_tuple_is, within_dict_is, within_range_is, within_range_wrong, within_text_is, within_text_wrong, within_none, within_bool, within_int, within_function, within_builtin)

-- ---- the integers of a range

place_in : ℕ → ℤ → Bool
place_in count (pos n) = nat_lt n count
place_in count (negsuc n) = false

place_is : (r : Range) (x : ℤ) → is_place_of r x ≡ place_in (range_count r) x
unfolding place_in
place_is r (pos n) = refl
place_is r (negsuc n) = refl

core : ℤ → ℤ → ℕ → Bool
core step d count = is_zero (rest_of d step) && place_in count (floor_of d step)

core_is : (r : Range) (z : ℤ) → range_gives r z ≡ core r.step (z -ℤ r.start) (range_count r)
unfolding range_gives core
core_is r z = ap (λ b. is_zero (rest_of (z -ℤ r.start) r.step) && b) (place_is r (floor_of (z -ℤ r.start) r.step))

zero_is : (n : ℕ) → is_zero (pos n) ≡ (n == 0)
zero_is zero = refl
zero_is (suc n) = grind (arith, nat_tests)

below_zero_is : (n : ℕ) → is_zero (neg_ℤ (pos n)) ≡ (n == 0)
below_zero_is zero = refl
below_zero_is (suc n) = grind (arith, nat_tests)

and_no : (b : Bool) → (b && false) ≡ false
and_no true = refl
and_no false = refl

some : (k : ℕ) → (suc k == 0) ≡ false
some k = grind (arith, nat_tests)

up_at : (k a count : ℕ) → core (pos (suc k)) (pos a) count ≡ steps_to (suc k) a count
unfolding core place_in
up_at k a count =
    let rest : (pos a -ℤ (pos (suc k) *ℤ pos (a / suc k))) ≡ pos (a % suc k) = omega (arith, ints) in
    rw (rest, some k) (ap (λ b. b && nat_lt (a / suc k) count) (zero_is (a % suc k)))

up_behind : (k a count : ℕ) → core (pos (suc k)) (negsuc a) count ≡ false
unfolding core place_in
up_behind k a count = and_no _

down_at : (k a count : ℕ) → core (negsuc k) (negsuc a) count ≡ steps_to (suc k) (suc a) count
unfolding core place_in
down_at k a count =
    let rest : (negsuc a -ℤ (negsuc k *ℤ pos (suc a / suc k))) ≡ neg_ℤ (pos (suc a % suc k)) = omega (arith, ints) in
    rw (rest, some k) (ap (λ b. b && nat_lt (suc a / suc k) count) (below_zero_is (suc a % suc k)))

down_start : (k count : ℕ) → core (negsuc k) (pos zero) count ≡ steps_to (suc k) 0 count
unfolding core place_in
down_start k count =
    let rest : (pos 0 -ℤ (negsuc k *ℤ pos 0)) ≡ pos 0 = omega (arith, ints) in
    let left : 0 % suc k ≡ 0 = omega arith in
    let times : 0 / suc k ≡ 0 = omega arith in
    rw (rest, some k, left, times) refl

down_behind : (k a count : ℕ) → core (negsuc k) (pos (suc a)) count ≡ false
unfolding core place_in
down_behind k a count = and_no _

flat : (d : ℤ) → core (pos zero) d 0 ≡ false
unfolding core place_in
flat (pos n) = let no : nat_lt (n / 0) 0 ≡ false = grind (arith, nat_tests) in rw no (and_no _)
flat (negsuc n) = and_no _

up_is : (step d : ℤ) (count : ℕ) → pos 0 <ℤ step → pos 0 ≤ℤ d → core step d count ≡ steps_to (unsigned_abs step) (unsigned_abs d) count
up_is (pos zero) d count up ahead = absurd (omega (arith, ints))
up_is (pos (suc k)) (pos a) count up ahead = up_at k a count
up_is (pos (suc k)) (negsuc a) count up ahead = absurd (omega (arith, ints))
up_is (negsuc k) d count up ahead = absurd (omega (arith, ints))

up_no : (step d : ℤ) (count : ℕ) → pos 0 <ℤ step → d <ℤ pos 0 → core step d count ≡ false
up_no (pos zero) d count up behind = absurd (omega (arith, ints))
up_no (pos (suc k)) (pos a) count up behind = absurd (omega (arith, ints))
up_no (pos (suc k)) (negsuc a) count up behind = up_behind k a count
up_no (negsuc k) d count up behind = absurd (omega (arith, ints))

down_is : (step d : ℤ) (count : ℕ) → step ≤ℤ pos 0 → d ≤ℤ pos 0 → (step ≡ pos 0 → count ≡ 0) → core step d count ≡ steps_to (unsigned_abs step) (unsigned_abs d) count
down_is (pos zero) d count down behind none = rw (none refl) (flat d)
down_is (pos (suc k)) d count down behind none = absurd (omega (arith, ints))
down_is (negsuc k) (pos zero) count down behind none = down_start k count
down_is (negsuc k) (pos (suc a)) count down behind none = absurd (omega (arith, ints))
down_is (negsuc k) (negsuc a) count down behind none = down_at k a count

down_no : (step d : ℤ) (count : ℕ) → step ≤ℤ pos 0 → pos 0 <ℤ d → (step ≡ pos 0 → count ≡ 0) → core step d count ≡ false
down_no (pos zero) d count down ahead none = rw (none refl) (flat d)
down_no (pos (suc k)) d count down ahead none = absurd (omega (arith, ints))
down_no (negsuc k) (pos zero) count down ahead none = absurd (omega (arith, ints))
down_no (negsuc k) (pos (suc a)) count down ahead none = down_behind k a count
down_no (negsuc k) (negsuc a) count down ahead none = absurd (omega (arith, ints))

none_flat : (start stop step : ℤ) → step ≡ pos 0 → count_between start stop step ≡ 0
none_flat start stop step is = rw is refl

pub gives_up : (r : Range) (z : ℤ) → pos 0 <ℤ r.step → r.start ≤ℤ z → range_gives r z ≡ on_step r z
unfolding on_step
gives_up r z up ahead = core_is r z ∙ up_is r.step (z -ℤ r.start) (range_count r) up (omega (arith, ints))

pub gives_none_up : (r : Range) (z : ℤ) → pos 0 <ℤ r.step → z <ℤ r.start → range_gives r z ≡ false
gives_none_up r z up behind = core_is r z ∙ up_no r.step (z -ℤ r.start) (range_count r) up (omega (arith, ints))

pub gives_down : (r : Range) (z : ℤ) → r.step ≤ℤ pos 0 → z ≤ℤ r.start → range_gives r z ≡ on_step r z
unfolding on_step
gives_down r z down behind = core_is r z ∙ down_is r.step (z -ℤ r.start) (range_count r) down (omega (arith, ints)) (none_flat r.start r.stop r.step)

pub gives_none_down : (r : Range) (z : ℤ) → r.step ≤ℤ pos 0 → r.start <ℤ z → range_gives r z ≡ false
gives_none_down r z down ahead = core_is r z ∙ down_no r.step (z -ℤ r.start) (range_count r) down (omega (arith, ints)) (none_flat r.start r.stop r.step)

pub ruleset gives = (gives_up, gives_none_up, gives_down, gives_none_down)

-- ---- the eight operators

module _ {C : Type 0} where
  pub compare_equal : (a b : Value) (s : Store C) → compare op.Equal a b s ≡ equal a b s
  unfolding compare
  compare_equal a b s = refl

  pub compare_not_equal : (a b : Value) (s : Store C) → compare op.NotEqual a b s ≡ and_then (equal a b s) (λ t. pure (not t))
  unfolding compare
  compare_not_equal a b s = refl

  pub compare_less : (a b : Value) (s : Store C) → compare op.Less a b s ≡ by_order (ordered_as true false false) a b s
  unfolding compare
  compare_less a b s = refl

  pub compare_greater : (a b : Value) (s : Store C) → compare op.Greater a b s ≡ by_order (ordered_as false false true) a b s
  unfolding compare
  compare_greater a b s = refl

  pub compare_at_most : (a b : Value) (s : Store C) → compare op.AtMost a b s ≡ by_order (ordered_as true true false) a b s
  unfolding compare
  compare_at_most a b s = refl

  pub compare_at_least : (a b : Value) (s : Store C) → compare op.AtLeast a b s ≡ by_order (ordered_as false true true) a b s
  unfolding compare
  compare_at_least a b s = refl

  pub compare_within : (a b : Value) (s : Store C) → compare op.Within a b s ≡ within a b s
  unfolding compare
  compare_within a b s = refl

  pub compare_not_within : (a b : Value) (s : Store C) → compare op.NotWithin a b s ≡ and_then (within a b s) (λ t. pure (not t))
  unfolding compare
  compare_not_within a b s = refl

pub ruleset operators = (compare_equal, compare_not_equal, compare_less, compare_greater, compare_at_most, compare_at_least, compare_within, compare_not_within)
