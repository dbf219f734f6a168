-- Comparing two values, with the charges of the walk.
use Rattle.std.specs.Prelude.{ℕ, zero, suc, ◌+◌, ◌==◌, min, Bool, true, false, not, ◌&&◌, ◌||◌, if◌then◌else◌, List, [], ◌∷◌, length, Option, Some, None, is_some, bytes_eq}
use Rattle.std.specs.Bool.{beq}
use Rattle.std.specs.Ordering.{int_eq}
use Rattle.std.specs.declared.cmp.Ordering.{Ordering}
use Rattle.std.specs.declared.cmp.Ordering.TheVariants as ordering
use Rattle.std.specs.Ordering.{int_cmp}
use Rattle.chex_base.specs.TextOrder.{text_cmp}
use Rattle.star_syntax.specs.declared.operator.CompareOp.{CompareOp}
use Rattle.star_syntax.specs.declared.operator.CompareOp.TheVariants as op
use Rattle.star_value.specs.declared.builtin.Builtin.{Builtin}
use Rattle.star_value.specs.declared.failure.Failure.TheVariants as failure
use Rattle.star_value.specs.declared.key.Key.{Key}
use Rattle.star_value.specs.declared.range.Range.{Range}
use Rattle.star_value.specs.declared.value.Value.{Value, out-Value}
use Rattle.star_value.specs.declared.value.Value.TheOpen.{Value-F}
use Rattle.star_value.specs.Keys as keys
use Rattle.star_value.specs.Ranges.{range_count}
use Rattle.star_value.specs.Texts.{find}
use Rattle.star_meaning.specs.State.{list, dict, dict_get}
use Rattle.star_meaning.specs.Steps.{Action, pure, fail, given_or, charge, read, ◌>>=◌, ◌>>◌}
use Rattle.star_meaning.specs.Values.{builtin_name, charge_weight, range_gives}

-- equal, first before second, second before first, or unequal without an order
pub data Verdict : Type 0 where
  Same : Verdict
  Before : Verdict
  After : Verdict
  Apart : Verdict

abbrev pub verdict : Ordering → Verdict
verdict ordering.Less = Before
verdict ordering.Equal = Same
verdict ordering.Greater = After

abbrev pub same_if : Bool → Verdict
same_if true = Same
same_if false = Apart

abbrev pub is_same : Verdict → Bool
is_same Same = true
is_same Before = false
is_same After = false
is_same Apart = false

-- ranges are equal where they give the same items
abbrev pub same_range : Range → Range → Bool
same_range r q =
    (range_count r == range_count q)
    && ((range_count r == 0) || (int_eq r.start q.start && ((range_count r == 1) || int_eq r.step q.step)))

-- a built-in function is known by its name
abbrev pub same_builtin : Builtin → Builtin → Bool
same_builtin a b = bytes_eq (builtin_name a) (builtin_name b)

-- the charge of a pair itself: 1, and for two texts also the shorter length
abbrev pub own_part_at : Value-F Value → Value-F Value → ℕ
own_part_at (Value-F.Text a) (Value-F.Text b) = min (length a) (length b) + 1
own_part_at _ _ = 1

unfoldable pub own_part : Value → Value → ℕ
own_part a b = own_part_at (out-Value a) (out-Value b)

-- how the items of a pair of containers are compared
abbrev pub Test : Type 0 → Type 0
Test C = Value → Value → Action C Verdict

-- the rest of a walk goes on while pairs are equal
abbrev pub onward : {C : Type 0} → Action C Verdict → Verdict → Action C Verdict
onward rest Same = rest
onward rest Before = pure Before
onward rest After = pure After
onward rest Apart = pure Apart

-- the items of two lists, pair by pair up to the first unequal pair; the list that ends first is before the other
abbrev pub walk : {C : Type 0} → Test C → List Value → List Value → Action C Verdict
walk test [] [] = pure Same
walk test [] (y ∷ ys) = pure Before
walk test (x ∷ xs) [] = pure After
walk test (x ∷ xs) (y ∷ ys) = test x y >>= onward (walk test xs ys)

-- the same, where lists of different lengths may be unequal before any item is looked at
abbrev pub walk_lists : {C : Type 0} → Bool → Test C → List Value → List Value → Action C Verdict
walk_lists by_length test xs ys = if by_length && not (length xs == length ys) then pure Apart else walk test xs ys

abbrev pub same_value : {C : Type 0} → Action C Verdict → Verdict → Action C Verdict
same_value rest Same = rest
same_value rest Before = pure Apart
same_value rest After = pure Apart
same_value rest Apart = pure Apart

abbrev pub walk_found : {C : Type 0} → Test C → Value → Option Value → Action C Verdict → Action C Verdict
walk_found test v None rest = pure Apart
walk_found test v (Some u) rest = test v u >>= same_value rest

-- the pairs of the first dict in order: the key's weight, the look-up in the second dict, the two values
abbrev pub walk_pairs : {C : Type 0} → Test C → List (Key × Value) → List (Key × Value) → Action C Verdict
walk_pairs test [] others = pure Same
walk_pairs test (pair ∷ pairs) others =
    charge_weight (keys.value_of pair.0) >> walk_found test pair.1 (dict_get others pair.0) (walk_pairs test pairs others)

abbrev pub walk_dicts : {C : Type 0} → Test C → List (Key × Value) → List (Key × Value) → Action C Verdict
walk_dicts test xs ys = if length xs == length ys then walk_pairs test xs ys else pure Apart

-- a pair of containers inside 64 others is not walked
abbrev pub deeper : {C : Type 0} → Option (Test C) → (Test C → Action C Verdict) → Action C Verdict
deeper None f = fail failure.TooDeep
deeper (Some test) f = f test

-- a pair after its own part was charged: lists and tuples by their items, dicts by their pairs, other values by what they
-- are; values of different types are unequal
abbrev pub look : {C : Type 0} → Bool → Option (Test C) → Value-F Value → Value-F Value → Action C Verdict
look by_length inner Value-F.None Value-F.None = pure Same
look by_length inner (Value-F.Bool a) (Value-F.Bool b) = pure (same_if (beq a b))
look by_length inner (Value-F.Int a) (Value-F.Int b) = pure (verdict (int_cmp a b))
look by_length inner (Value-F.Text a) (Value-F.Text b) = pure (verdict (text_cmp a b))
look by_length inner (Value-F.Tuple xs) (Value-F.Tuple ys) = deeper inner (λ test. walk_lists by_length test xs ys)
look by_length inner (Value-F.Range a) (Value-F.Range b) = pure (same_if (same_range a b))
look by_length inner (Value-F.List a) (Value-F.List b) = do
  xs ← read (λ s. list s a)
  ys ← read (λ s. list s b)
  deeper inner (λ test. walk_lists by_length test xs ys)
look by_length inner (Value-F.Dict a) (Value-F.Dict b) = do
  xs ← read (λ s. dict s a)
  ys ← read (λ s. dict s b)
  deeper inner (λ test. walk_dicts test xs ys)
look by_length inner (Value-F.Function a) (Value-F.Function b) = pure (same_if (a == b))
look by_length inner (Value-F.Builtin a) (Value-F.Builtin b) = pure (same_if (same_builtin a b))
look by_length inner _ _ = pure Apart

-- a pair, inside which so many more containers may nest
unfoldable pub compared : {C : Type 0} → Bool → ℕ → Test C
compared by_length zero a b = charge (own_part a b) >> look by_length None (out-Value a) (out-Value b)
compared by_length (suc n) a b = charge (own_part a b) >> look by_length (Some (compared by_length n)) (out-Value a) (out-Value b)

-- whether two values are equal
unfoldable pub equal : {C : Type 0} → Value → Value → Action C Bool
equal a b = do
  v ← compared true 64 a b
  pure (is_same v)

-- ---- order: two integers, two texts by code points, two lists or two tuples by their first unequal items

-- whether two values may be put in order
abbrev pub are_ordered : Value-F Value → Value-F Value → Bool
are_ordered (Value-F.Int a) (Value-F.Int b) = true
are_ordered (Value-F.Text a) (Value-F.Text b) = true
are_ordered (Value-F.Tuple xs) (Value-F.Tuple ys) = true
are_ordered (Value-F.List a) (Value-F.List b) = true
are_ordered _ _ = false

-- what the order of two values answers; items that are unequal and have no order are of a wrong type
abbrev pub ordered_as : {C : Type 0} → Bool → Bool → Bool → Verdict → Action C Bool
ordered_as before same after Before = pure before
ordered_as before same after Same = pure same
ordered_as before same after After = pure after
ordered_as before same after Apart = fail failure.WrongType

unfoldable pub by_order : {C : Type 0} → (Verdict → Action C Bool) → Value → Value → Action C Bool
by_order answer a b =
    if are_ordered (out-Value a) (out-Value b) then (compared false 64 a b >>= answer) else fail failure.WrongType

-- ---- membership

abbrev pub stop_or : {C : Type 0} → Bool → ℕ → Action C (Option ℕ) → Action C (Option ℕ)
stop_or true place rest = pure (Some place)
stop_or false place rest = rest

-- items up to and with the first that is equal to what is wanted, and its place
abbrev pub search_from : {C : Type 0} → ℕ → Value → List Value → Action C (Option ℕ)
search_from place wanted [] = pure None
search_from place wanted (x ∷ xs) = do
  found ← equal wanted x
  stop_or found place (search_from (place + 1) wanted xs)

unfoldable pub search_in : {C : Type 0} → Value → List Value → Action C (Option ℕ)
search_in wanted items = search_from 0 wanted items

abbrev pub within_list : {C : Type 0} → Value → List Value → Action C Bool
within_list wanted items = do
  place ← search_in wanted items
  pure (is_some place)

-- the key that a value is
abbrev pub key_in : {C : Type 0} → Value → Action C Key
key_in v = given_or failure.Unhashable (keys.key_of v)

abbrev pub within_dict : {C : Type 0} → Value → ℕ → Action C Bool
within_dict wanted id = do
  key ← key_in wanted
  charge_weight wanted
  read (λ s. is_some (dict_get (dict s id) key))

abbrev pub within_text : {C : Type 0} → List ℕ → List ℕ → Action C Bool
within_text wanted text = charge (length wanted + length text) >> pure (is_some (find text wanted))

-- an item of a list or tuple, a key of a dict, an integer of a range, a text in a text
abbrev pub within_at : {C : Type 0} → Value → Value-F Value → Value-F Value → Action C Bool
within_at wanted _ (Value-F.List id) = read (λ s. list s id) >>= within_list wanted
within_at wanted _ (Value-F.Tuple items) = within_list wanted items
within_at wanted _ (Value-F.Dict id) = within_dict wanted id
within_at wanted (Value-F.Int z) (Value-F.Range r) = pure (range_gives r z)
within_at wanted (Value-F.Text part) (Value-F.Text text) = within_text part text
within_at wanted _ _ = fail failure.WrongType

unfoldable pub within : {C : Type 0} → Value → Value → Action C Bool
within wanted of = within_at wanted (out-Value wanted) (out-Value of)

-- ---- the eight operators

abbrev pub negated : {C : Type 0} → Action C Bool → Action C Bool
negated p = p >>= (λ b. pure (not b))

unfoldable pub compare : {C : Type 0} → CompareOp → Value → Value → Action C Bool
compare op.Equal a b = equal a b
compare op.NotEqual a b = negated (equal a b)
compare op.Less a b = by_order (ordered_as true false false) a b
compare op.Greater a b = by_order (ordered_as false false true) a b
compare op.AtMost a b = by_order (ordered_as true true false) a b
compare op.AtLeast a b = by_order (ordered_as false true true) a b
compare op.Within a b = within a b
compare op.NotWithin a b = negated (within a b)
