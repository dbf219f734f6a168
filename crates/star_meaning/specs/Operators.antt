-- The operators, index and slice, and what stores in a place: one definition for each row of the table in docs/LANGUAGE.md.
-- The first charge of 1 and the charge of the result's weight are those of `operation`.
use Rattle.std.specs.Prelude.{ℕ, ◌+◌, ◌==◌, Bool, true, false, not, ◌&&◌, if◌then◌else◌, List, [], ◌∷◌, ◌++◌, length, Option, Some, None, is_some, option_map, option_and_then, unwrap_or, ℤ, pos, negsuc, ◌+ℤ◌, ◌-ℤ◌, ◌*ℤ◌, neg_ℤ, int_lt, slice_get, slice_set}
use Rattle.std.specs.Fmt.{signed_decimal}
use Rattle.std.specs.Int.{int_bit_and, int_bit_or, int_bit_xor, int_bit_not, w128}
use Rattle.std.specs.List.{filter_map, repeat}
use Rattle.star_syntax.specs.declared.operator.BinaryOp.{BinaryOp}
use Rattle.star_syntax.specs.declared.operator.BinaryOp.TheVariants as op
use Rattle.star_syntax.specs.declared.operator.UnaryOp.{UnaryOp}
use Rattle.star_syntax.specs.declared.operator.UnaryOp.TheVariants as sign
use Rattle.star_value.specs.declared.failure.Failure.TheVariants as failure
use Rattle.star_value.specs.declared.format.Part.{Part}
use Rattle.star_value.specs.declared.format.Part.TheVariants as part
use Rattle.star_value.specs.declared.key.Key.{Key}
use Rattle.star_value.specs.declared.range.Range.{Range}
use Rattle.star_value.specs.declared.value.Value.{Value, out-Value}
use Rattle.star_value.specs.declared.value.Value.TheOpen.{Value-F}
use Rattle.star_value.specs.declared.value.Value.TheVariants as value
use Rattle.star_value.specs.Format.{parts_of}
use Rattle.star_value.specs.Ranges.{range_count}
use Rattle.star_meaning.specs.State.{list, dict, dict_get, dict_put, with_list, with_dict}
use Rattle.star_meaning.specs.Steps.{Action, pure, fail, given_or, read, change, ◌>>=◌, ◌>>◌}
use Rattle.star_meaning.specs.Values.{has, integer, floor_of, rest_of, is_zero, times, place_of, clamped, integers_of, range_item, items_of, int_in, charge_items, charge_weight, new_list}
use Rattle.star_meaning.specs.Comparing.{key_in}
use Rattle.star_meaning.specs.Showing.{Naming, quoted, shown, ◌<+>◌}

-- a new list of these items, which charges `It` of them
abbrev pub charged_list : {C : Type 0} → List Value → Action C Value
charged_list items = charge_items items >> new_list items

-- ---- `+`

abbrev pub joined_lists : {C : Type 0} → ℕ → ℕ → Action C Value
joined_lists a b = do
  xs ← read (λ s. list s a)
  ys ← read (λ s. list s b)
  charged_list (xs ++ ys)

-- two integers, texts, tuples or lists
abbrev pub add_at : {C : Type 0} → Value-F Value → Value-F Value → Action C Value
add_at (Value-F.Int x) (Value-F.Int y) = integer (x +ℤ y)
add_at (Value-F.Text x) (Value-F.Text y) = pure (value.Text (x ++ y))
add_at (Value-F.Tuple x) (Value-F.Tuple y) = pure (value.Tuple (x ++ y))
add_at (Value-F.List a) (Value-F.List b) = joined_lists a b
add_at _ _ = fail failure.WrongType

-- ---- `-`, `&`, `|`, `^`: two integers

abbrev pub on_ints : {C : Type 0} → (ℤ → ℤ → Action C Value) → Value-F Value → Value-F Value → Action C Value
on_ints f (Value-F.Int x) (Value-F.Int y) = f x y
on_ints f _ _ = fail failure.WrongType

-- ---- `*`

abbrev pub repeated_list : {C : Type 0} → ℤ → ℕ → Action C Value
repeated_list z id = do
  items ← read (λ s. list s id)
  charged_list (repeat (times z) items)

-- two integers, or a text, tuple or list on either side of an integer, which repeats it
abbrev pub multiply_at : {C : Type 0} → Value-F Value → Value-F Value → Action C Value
multiply_at (Value-F.Int x) (Value-F.Int y) = integer (x *ℤ y)
multiply_at (Value-F.Text x) (Value-F.Int z) = pure (value.Text (repeat (times z) x))
multiply_at (Value-F.Int z) (Value-F.Text x) = pure (value.Text (repeat (times z) x))
multiply_at (Value-F.Tuple x) (Value-F.Int z) = pure (value.Tuple (repeat (times z) x))
multiply_at (Value-F.Int z) (Value-F.Tuple x) = pure (value.Tuple (repeat (times z) x))
multiply_at (Value-F.List id) (Value-F.Int z) = repeated_list z id
multiply_at (Value-F.Int z) (Value-F.List id) = repeated_list z id
multiply_at _ _ = fail failure.WrongType

-- ---- `//` and `%`

-- a quotient or its rest; the divisor 0 is ZeroDivisor
abbrev pub divided : {C : Type 0} → (ℤ → ℤ → ℤ) → ℤ → ℤ → Action C Value
divided f x y = if is_zero y then fail failure.ZeroDivisor else integer (f x y)

-- ---- text `%` value

-- whether a part stands for a value
abbrev pub takes_value : Part → Bool
takes_value (part.Plain text) = false
takes_value part.Shown = true
takes_value part.Quoted = true
takes_value part.Decimal = true

abbrev pub values_taken : List Part → ℕ
values_taken [] = 0
values_taken (p ∷ ps) = if takes_value p then values_taken ps + 1 else values_taken ps

-- whether each `%d` has an integer
abbrev pub decimals_fit : List Part → List Value → Bool
decimals_fit [] vs = true
decimals_fit (part.Plain text ∷ ps) vs = decimals_fit ps vs
decimals_fit (part.Shown ∷ ps) (v ∷ vs) = decimals_fit ps vs
decimals_fit (part.Quoted ∷ ps) (v ∷ vs) = decimals_fit ps vs
decimals_fit (part.Decimal ∷ ps) (v ∷ vs) = is_some (int_in v) && decimals_fit ps vs
decimals_fit (_ ∷ ps) [] = true

abbrev pub decimal_text : Option ℤ → List ℕ
decimal_text (Some z) = signed_decimal z
decimal_text None = []

-- the parts with the values in their places; what `%s` and `%r` make is charged
abbrev pub filled : {C : Type 0} → Naming C → List Part → List Value → Action C (List ℕ)
filled naming [] vs = pure []
filled naming (part.Plain text ∷ ps) vs = pure text <+> filled naming ps vs
filled naming (part.Shown ∷ ps) (v ∷ vs) = shown naming v <+> filled naming ps vs
filled naming (part.Quoted ∷ ps) (v ∷ vs) = quoted naming v <+> filled naming ps vs
filled naming (part.Decimal ∷ ps) (v ∷ vs) = pure (decimal_text (int_in v)) <+> filled naming ps vs
filled naming (_ ∷ ps) [] = pure []

abbrev pub formatted_parts : {C : Type 0} → Naming C → List Part → List Value → Action C Value
formatted_parts naming ps vs =
    if not (values_taken ps == length vs) then fail failure.WrongArguments
    else if decimals_fit ps vs then (filled naming ps vs >>= (λ text. pure (value.Text text)))
    else fail failure.WrongType

-- the items of a tuple, and every other value alone
abbrev pub values_for : Value-F Value → Value → List Value
values_for (Value-F.Tuple items) v = items
values_for _ v = v ∷ []

abbrev pub formatted : {C : Type 0} → Naming C → List ℕ → Value → Action C Value
formatted naming text v = given_or failure.BadText (parts_of text) >>= (λ ps. formatted_parts naming ps (values_for (out-Value v) v))

abbrev pub modulo_at : {C : Type 0} → Naming C → Value-F Value → Value → Action C Value
modulo_at naming (Value-F.Text text) y = formatted naming text y
modulo_at naming x y = on_ints (divided rest_of) x (out-Value y)

-- ---- the eight operators

unfoldable pub binary : {C : Type 0} → Naming C → BinaryOp → Value → Value → Action C Value
binary naming op.Add x y = add_at (out-Value x) (out-Value y)
binary naming op.Sub x y = on_ints (λ a b. integer (a -ℤ b)) (out-Value x) (out-Value y)
binary naming op.Mul x y = multiply_at (out-Value x) (out-Value y)
binary naming op.Floor x y = on_ints (divided floor_of) (out-Value x) (out-Value y)
binary naming op.Mod x y = modulo_at naming (out-Value x) y
binary naming op.And x y = on_ints (λ a b. integer (int_bit_and w128 a b)) (out-Value x) (out-Value y)
binary naming op.Or x y = on_ints (λ a b. integer (int_bit_or w128 a b)) (out-Value x) (out-Value y)
binary naming op.Xor x y = on_ints (λ a b. integer (int_bit_xor w128 a b)) (out-Value x) (out-Value y)

-- ---- signs: an integer

abbrev pub signed_int : {C : Type 0} → UnaryOp → ℤ → Action C Value
signed_int sign.Plus z = integer z
signed_int sign.Minus z = integer (neg_ℤ z)
signed_int sign.Invert z = integer (int_bit_not w128 z)

unfoldable pub unary : {C : Type 0} → UnaryOp → Value → Action C Value
unary s x = given_or failure.WrongType (int_in x) >>= signed_int s

-- ---- `x[i]`

abbrev pub one_point : ℕ → Value
one_point c = value.Text (c ∷ [])

-- an item by place, where a negative place counts from the end
abbrev pub item_at : {C A : Type 0} → List A → ℤ → Action C A
item_at xs z = given_or failure.BadIndex (option_and_then (slice_get xs) (place_of z (length xs)))

abbrev pub range_item_at : {C : Type 0} → Range → ℤ → Action C Value
range_item_at r z = given_or failure.BadIndex (option_map (λ place. value.Int (range_item r place)) (place_of z (range_count r)))

-- the value of a key
abbrev pub value_at_key : {C : Type 0} → ℕ → Value → Action C Value
value_at_key id at = do
  key ← key_in at
  v ← read (λ s. dict_get (dict s id) key) >>= given_or failure.NoKey
  charge_weight at
  pure v

-- a list, tuple, text or range by an integer; a dict by a key
abbrev pub index_at : {C : Type 0} → Value-F Value → Value → Value-F Value → Action C Value
index_at (Value-F.Dict id) at _ = value_at_key id at
index_at (Value-F.List id) at (Value-F.Int z) = read (λ s. list s id) >>= (λ items. item_at items z)
index_at (Value-F.Tuple items) at (Value-F.Int z) = item_at items z
index_at (Value-F.Text points) at (Value-F.Int z) = item_at points z >>= (λ c. pure (one_point c))
index_at (Value-F.Range r) at (Value-F.Int z) = range_item_at r z
index_at _ at _ = fail failure.WrongType

unfoldable pub index : {C : Type 0} → Value → Value → Action C Value
index x at = index_at (out-Value x) at (out-Value at)

-- ---- `x[i:j:k]`

-- the bounds of a slice that are given
pub record Bounds : Type 0 where
  pub start : Option Value
  pub stop : Option Value
  pub step : Option Value

abbrev pub bound_at : Value-F Value → Option (Option ℤ)
bound_at Value-F.None = Some None
bound_at (Value-F.Int z) = Some (Some z)
bound_at _ = None

-- a bound: absent, or None, or an integer
abbrev pub bound : Option Value → Option (Option ℤ)
bound None = Some None
bound (Some v) = bound_at (out-Value v)

-- a negative bound has the length added, and is then brought into its range
abbrev pub bound_from : ℤ → ℤ → ℤ → Option ℤ → ℤ → ℤ
bound_from low high count None otherwise = otherwise
bound_from low high count (Some z) otherwise = clamped low high (if int_lt z (pos 0) then z +ℤ count else z)

-- the places that a slice takes from so many items, as a range: up from 0 to the length, or down from the last place to 0
abbrev pub places_taken : ℤ → Option ℤ → Option ℤ → ℤ → Range
places_taken count start stop step =
    if int_lt (pos 0) step then record { start = bound_from (pos 0) count count start (pos 0); stop = bound_from (pos 0) count count stop count; step = step }
    else record { start = bound_from (negsuc 0) (count -ℤ pos 1) count start (count -ℤ pos 1); stop = bound_from (negsuc 0) (count -ℤ pos 1) count stop (negsuc 0); step = step }

abbrev pub at_int : {A : Type 0} → List A → ℤ → Option A
at_int xs (pos n) = slice_get xs n
at_int xs (negsuc n) = None

-- the items of a slice
unfoldable pub taken : {A : Type 0} → List A → Option ℤ → Option ℤ → ℤ → List A
taken xs start stop step = filter_map (at_int xs) (integers_of (places_taken (pos (length xs)) start stop step))

abbrev pub slice_at : {C : Type 0} → Value-F Value → Option ℤ → Option ℤ → ℤ → Action C Value
slice_at (Value-F.List id) start stop step = read (λ s. list s id) >>= (λ items. charged_list (taken items start stop step))
slice_at (Value-F.Tuple items) start stop step = pure (value.Tuple (taken items start stop step))
slice_at (Value-F.Text points) start stop step = pure (value.Text (taken points start stop step))
slice_at _ start stop step = fail failure.WrongType

abbrev pub is_sliced : Value-F Value → Bool
is_sliced (Value-F.List id) = true
is_sliced (Value-F.Tuple items) = true
is_sliced (Value-F.Text points) = true
is_sliced _ = false

abbrev pub check_sliced : {C : Type 0} → Value-F Value → Action C (Unit {0})
check_sliced x = if is_sliced x then pure tt else fail failure.WrongType

abbrev pub stepped : {C : Type 0} → Value-F Value → Option ℤ → Option ℤ → ℤ → Action C Value
stepped x start stop step = if is_zero step then fail failure.ZeroDivisor else slice_at x start stop step

-- a list, tuple or text; the bounds are integers or None; the step is 1 where it is absent, and 0 is ZeroDivisor
unfoldable pub slice : {C : Type 0} → Value → Bounds → Action C Value
slice x bounds = do
  check_sliced (out-Value x)
  start ← given_or failure.WrongType (bound bounds.start)
  stop ← given_or failure.WrongType (bound bounds.stop)
  step ← given_or failure.WrongType (bound bounds.step)
  stepped (out-Value x) start stop (unwrap_or step (pos 1))

-- ---- changes of lists and dicts

-- a list or dict that is iterated over is not changed
unfoldable pub check_unlocked : {C : Type 0} → List ℕ → ℕ → Action C (Unit {0})
check_unlocked locked id = if has locked id then fail failure.ChangedWhileIterated else pure tt

abbrev pub store_item : {C : Type 0} → List ℕ → ℕ → ℤ → Value → Action C (Unit {0})
store_item locked id z v = do
  check_unlocked locked id
  items ← read (λ s. list s id)
  place ← given_or failure.BadIndex (place_of z (length items))
  change (λ s. with_list s id (slice_set items place v))

-- a key gets this value, for the key's weight
abbrev pub put_key : {C : Type 0} → ℕ → Value → Key → Value → Action C (Unit {0})
put_key id at key v = do
  charge_weight at
  change (λ s. with_dict s id (dict_put (dict s id) key v))

abbrev pub store_key : {C : Type 0} → List ℕ → ℕ → Value → Value → Action C (Unit {0})
store_key locked id at v = do
  key ← key_in at
  check_unlocked locked id
  put_key id at key v

abbrev pub store_at : {C : Type 0} → List ℕ → Value-F Value → Value → Value-F Value → Value → Action C (Unit {0})
store_at locked (Value-F.Dict id) at _ v = store_key locked id at v
store_at locked (Value-F.List id) at (Value-F.Int z) v = store_item locked id z v
store_at locked _ at _ v = fail failure.WrongType

-- `x[i] = v`: a list by an integer, a dict by a key
unfoldable pub store : {C : Type 0} → List ℕ → Value → Value → Value → Action C (Unit {0})
store locked x at v = store_at locked (out-Value x) at (out-Value at) v

-- these items go to the end of a list, for `It`
unfoldable pub extend : {C : Type 0} → List ℕ → ℕ → Value → Action C (Unit {0})
extend locked id v = do
  more ← items_of v
  check_unlocked locked id
  charge_items more
  change (λ s. with_list s id (list s id ++ more))

abbrev pub added_in_place : {C : Type 0} → Naming C → List ℕ → Value → Value-F Value → Value → Action C Value
added_in_place naming locked x (Value-F.List id) y = extend locked id y >> pure x
added_in_place naming locked x _ y = binary naming op.Add x y

-- the operator of `p op= t`: `+=` extends a list in place by what any value gives
unfoldable pub augmented : {C : Type 0} → Naming C → List ℕ → BinaryOp → Value → Value → Action C Value
augmented naming locked op.Add x y = added_in_place naming locked x (out-Value x) y
augmented naming locked which x y = binary naming which x y

-- ---- unpacking

abbrev pub unpacked_at : {C : Type 0} → Value-F Value → Action C (List Value)
unpacked_at (Value-F.List id) = read (λ s. list s id)
unpacked_at (Value-F.Tuple items) = pure items
unpacked_at _ = fail failure.WrongType

-- the items of a list or tuple for so many targets; `It` is charged before they are counted
unfoldable pub unpacked : {C : Type 0} → ℕ → Value → Action C (List Value)
unpacked count v = do
  items ← unpacked_at (out-Value v)
  charge_items items
  if length items == count then pure items else fail failure.BadUnpack
