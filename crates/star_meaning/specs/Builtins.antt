-- The built-in functions: one definition for each row of the table in docs/LANGUAGE.md.
-- The first charge of 1 and the charge of the result's weight are those of `operation`.
use Rattle.std.specs.Prelude.{ℕ, ◌+◌, ◌-◌, ◌*◌, ◌==◌, nat_le, Bool, true, false, ◌&&◌, if◌then◌else◌, List, [], ◌∷◌, map, length, reverse, Option, Some, None, option_map, ℤ, pos, ◌+ℤ◌, neg_ℤ, int_lt, unsigned_abs, codes, bytes_eq}
use Rattle.std.specs.List.{list_all, list_any}
use Rattle.std.specs.Ordering.{is_lt}
use Rattle.chex_base.specs.TextOrder.{text_cmp}
use Rattle.star_value.specs.declared.builtin.Builtin.{Builtin}
use Rattle.star_value.specs.declared.builtin.Builtin.TheVariants as builtin
use Rattle.star_value.specs.declared.failure.Failure.{Failure}
use Rattle.star_value.specs.declared.failure.Failure.TheVariants as failure
use Rattle.star_value.specs.declared.key.Key.{Key}
use Rattle.star_value.specs.declared.value.Value.{Value, out-Value}
use Rattle.star_value.specs.declared.value.Value.TheOpen.{Value-F}
use Rattle.star_value.specs.declared.value.Value.TheVariants as value
use Rattle.star_value.specs.Ranges.{range_count}
use Rattle.star_meaning.specs.State.{list, dict, dict_put}
use Rattle.star_meaning.specs.Steps.{Action, pure, fail, given_or, charge, read, ◌>>=◌, ◌>>◌}
use Rattle.star_meaning.specs.Values.{is_empty, integer, in_range, is_zero, is_true, key_values, items_of, text_in, int_in, bool_in, charge_items, charge_weight, check_depth, new_tuple, new_list, new_dict, type_name}
use Rattle.star_meaning.specs.Comparing.{key_in}
use Rattle.star_meaning.specs.Showing.{Naming, made, made_between, quoted, shown, ◌<+>◌}
use Rattle.star_meaning.specs.Operators.{charged_list}

-- ---- arguments

-- arguments that are given by name
abbrev pub ByName : Type 0
ByName = List (List ℕ × Value)

abbrev pub check : {C : Type 0} → Failure → Bool → Action C (Unit {0})
check e b = if b then pure tt else fail e

-- arguments by place alone
abbrev pub unnamed : {C A : Type 0} → ByName → Action C A → Action C A
unnamed named p = if is_empty named then p else fail failure.WrongArguments

-- at most this one argument by name
abbrev pub only_named : List ℕ → ByName → Option (Option Value)
only_named name [] = Some None
only_named name (entry ∷ []) = if bytes_eq entry.0 name then Some (Some entry.1) else None
only_named name (entry ∷ next ∷ more) = None

-- one argument, none or one, one or two
abbrev pub with_one : {C A : Type 0} → (Value → Action C A) → List Value → Action C A
with_one f (x ∷ []) = f x
with_one f _ = fail failure.WrongArguments

abbrev pub with_optional : {C A : Type 0} → (Option Value → Action C A) → List Value → Action C A
with_optional f [] = f None
with_optional f (x ∷ []) = f (Some x)
with_optional f _ = fail failure.WrongArguments

abbrev pub with_one_or_two : {C A : Type 0} → (Value → Option Value → Action C A) → List Value → Action C A
with_one_or_two f (x ∷ []) = f x None
with_one_or_two f (x ∷ y ∷ []) = f x (Some y)
with_one_or_two f _ = fail failure.WrongArguments

abbrev pub as_int : {C : Type 0} → Value → Action C ℤ
as_int v = given_or failure.WrongType (int_in v)

abbrev pub as_text : {C : Type 0} → Value → Action C (List ℕ)
as_text v = given_or failure.WrongType (text_in v)

-- an integer, or this one where none is given
abbrev pub as_int_or : {C : Type 0} → ℤ → Option Value → Action C ℤ
as_int_or z None = pure z
as_int_or z (Some v) = as_int v

-- ---- print, str, repr

-- a text, or a space where none is given
abbrev pub separator : {C : Type 0} → Option Value → Action C (List ℕ)
separator None = pure (32 ∷ [])
separator (Some v) = as_text v

-- what is written, which charges each code point: the shown arguments with the separator between, and a newline
abbrev pub printed : {C : Type 0} → Naming C → List Value → ByName → Action C (List ℕ)
printed naming vs named = do
  by ← given_or failure.WrongArguments (only_named (codes "sep") named)
  sep ← separator by
  made_between sep (map (shown naming) vs) <+> made (10 ∷ [])

abbrev pub as_value : {C : Type 0} → Action C (List ℕ) → Action C Value
as_value p = p >>= (λ text. pure (value.Text text))

-- ---- len, type, bool, abs, int

abbrev pub count_at : {C : Type 0} → Value-F Value → Action C ℕ
count_at (Value-F.Text points) = pure (length points)
count_at (Value-F.Tuple items) = pure (length items)
count_at (Value-F.Range r) = pure (range_count r)
count_at (Value-F.List id) = read (λ s. length (list s id))
count_at (Value-F.Dict id) = read (λ s. length (dict s id))
count_at _ = fail failure.WrongType

-- the length of a text, tuple, list, dict or range
unfoldable pub len : {C : Type 0} → Value → Action C Value
len v = count_at (out-Value v) >>= (λ n. integer (pos n))

abbrev pub absolute : {C : Type 0} → Value → Action C Value
absolute v = as_int v >>= (λ z. integer (pos (unsigned_abs z)))

abbrev pub truth : {C : Type 0} → Value → Action C Value
truth v = read (λ s. value.Bool (is_true s v))

abbrev pub digit : ℕ → Option ℕ
digit c = if nat_le 48 c && nat_le c 57 then Some (c - 48) else None

abbrev pub with_digit : Option ℕ → Option ℕ → Option ℕ
with_digit (Some n) (Some d) = Some (10 * n + d)
with_digit _ _ = None

-- the number of decimal digits after those of another number
abbrev pub digits_from : Option ℕ → List ℕ → Option ℕ
digits_from before [] = before
digits_from before (c ∷ cs) = digits_from (with_digit before (digit c)) cs

-- the number of one or more digits
abbrev pub digits : List ℕ → Option ℕ
digits [] = None
digits (c ∷ cs) = digits_from (digit c) cs

-- the integer of a text: an optional sign and digits
unfoldable pub read_int : List ℕ → Option ℤ
read_int [] = None
read_int (c ∷ cs) =
    if c == 45 then option_map (λ n. neg_ℤ (pos n)) (digits cs)
    else if c == 43 then option_map pos (digits cs)
    else option_map pos (digits (c ∷ cs))

abbrev pub int_of_text : {C : Type 0} → List ℕ → Action C Value
int_of_text points = do
  z ← given_or failure.BadText (read_int points)
  v ← integer z
  charge (length points)
  pure v

abbrev pub int_of : {C : Type 0} → Value-F Value → Action C Value
int_of (Value-F.Int z) = pure (value.Int z)
int_of (Value-F.Bool true) = pure (value.Int (pos 1))
int_of (Value-F.Bool false) = pure (value.Int (pos 0))
int_of (Value-F.Text points) = int_of_text points
int_of _ = fail failure.WrongType

-- ---- range

abbrev pub new_range : {C : Type 0} → ℤ → ℤ → ℤ → Action C Value
new_range start stop step =
    if is_zero step then fail failure.ZeroDivisor else pure (value.Range (record { start = start; stop = stop; step = step }))

abbrev pub range_of : {C : Type 0} → Value → Value → Option Value → Action C Value
range_of a b c = do
  start ← as_int a
  stop ← as_int b
  step ← as_int_or (pos 1) c
  new_range start stop step

unfoldable pub range : {C : Type 0} → List Value → Action C Value
range (b ∷ []) = range_of (value.Int (pos 0)) b None
range (a ∷ b ∷ []) = range_of a b None
range (a ∷ b ∷ c ∷ []) = range_of a b (Some c)
range _ = fail failure.WrongArguments

-- ---- list, tuple, reversed, all, any

abbrev pub list_of : {C : Type 0} → Option Value → Action C Value
list_of None = new_list []
list_of (Some v) = items_of v >>= charged_list

-- the items of a tuple: an item's weight, then whether a tuple around it nests too deep
abbrev pub walk_tuple : {C : Type 0} → List Value → Action C (Unit {0})
walk_tuple [] = pure tt
walk_tuple (x ∷ xs) = do
  charge_weight x
  check_depth (value.Tuple (x ∷ []))
  walk_tuple xs

abbrev pub tuple_of : {C : Type 0} → Option Value → Action C Value
tuple_of None = pure (value.Tuple [])
tuple_of (Some v) = do
  items ← items_of v
  walk_tuple items
  pure (value.Tuple items)

abbrev pub reversed : {C : Type 0} → Value → Action C Value
reversed v = items_of v >>= (λ items. charged_list (reverse items))

-- a test of all items, each of which is charged
abbrev pub tested : {C : Type 0} → ((Value → Bool) → List Value → Bool) → Value → Action C Value
tested test v = do
  items ← items_of v
  charge_items items
  read (λ s. value.Bool (test (is_true s) items))

-- ---- dict

abbrev pub two_of : {C : Type 0} → List Value → Action C (Value × Value)
two_of (k ∷ v ∷ []) = pure (k, v)
two_of _ = fail failure.BadUnpack

-- the key and the value of an item: a list or tuple of two
abbrev pub pair_at : {C : Type 0} → Value-F Value → Action C (Value × Value)
pair_at (Value-F.List id) = read (λ s. list s id) >>= two_of
pair_at (Value-F.Tuple items) = two_of items
pair_at _ = fail failure.BadUnpack

-- the pairs of some items: an item's weight, the item, then its key's weight
abbrev pub pairs_from : {C : Type 0} → List (Key × Value) → List Value → Action C (List (Key × Value))
pairs_from done [] = pure done
pairs_from done (x ∷ xs) = do
  charge_weight x
  pair ← pair_at (out-Value x)
  key ← key_in pair.0
  charge_weight pair.0
  pairs_from (dict_put done key pair.1) xs

-- the same pairs again: each key is an item and a key
abbrev pub copied_pairs : {C : Type 0} → List (Key × Value) → Action C Value
copied_pairs pairs = do
  charge_items (key_values pairs)
  charge_items (key_values pairs)
  new_dict pairs

abbrev pub dict_from : {C : Type 0} → Value-F Value → Value → Action C Value
dict_from (Value-F.Dict id) v = read (λ s. dict s id) >>= copied_pairs
dict_from _ v = items_of v >>= pairs_from [] >>= new_dict

abbrev pub dict_of : {C : Type 0} → Option Value → Action C Value
dict_of None = new_dict []
dict_of (Some v) = dict_from (out-Value v) v

-- ---- enumerate, zip

-- tuples, each of which is charged before it is looked at
abbrev pub tuples : {C : Type 0} → List (List Value) → Action C (List Value)
tuples [] = pure []
tuples (row ∷ rows) = do
  charge_weight (value.Tuple row)
  v ← new_tuple row
  more ← tuples rows
  pure (v ∷ more)

abbrev pub list_of_tuples : {C : Type 0} → List (List Value) → Action C Value
list_of_tuples rows = tuples rows >>= new_list

-- each item with its number
abbrev pub numbered : ℤ → List Value → List (List Value)
numbered z [] = []
numbered z (x ∷ xs) = (value.Int z ∷ x ∷ []) ∷ numbered (z +ℤ pos 1) xs

-- whether the number of the last item is an integer of 128 bits
abbrev pub last_number : {C : Type 0} → ℤ → List Value → Action C (Unit {0})
last_number z [] = pure tt
last_number z (x ∷ xs) = given_or failure.IntegerTooLarge (in_range (z +ℤ pos (length xs))) >> pure tt

abbrev pub enumerate : {C : Type 0} → Value → Option Value → Action C Value
enumerate v start = do
  items ← items_of v
  z ← as_int_or (pos 0) start
  last_number z items
  list_of_tuples (numbered z items)

abbrev pub each_before : List Value → List (List Value) → List (List Value)
each_before [] rows = []
each_before (x ∷ xs) [] = []
each_before (x ∷ xs) (row ∷ rows) = (x ∷ row) ∷ each_before xs rows

-- the rows of some columns, up to the shortest column
abbrev pub rows_of : List (List Value) → List (List Value)
rows_of [] = []
rows_of (column ∷ []) = map (λ x. x ∷ []) column
rows_of (column ∷ next ∷ more) = each_before column (rows_of (next ∷ more))

abbrev pub all_items : {C : Type 0} → List Value → Action C (List (List Value))
all_items [] = pure []
all_items (v ∷ vs) = do
  items ← items_of v
  more ← all_items vs
  pure (items ∷ more)

unfoldable pub zip : {C : Type 0} → List Value → Action C Value
zip vs = all_items vs >>= (λ columns. list_of_tuples (rows_of columns))

-- ---- sorted, min, max: all integers or all texts

abbrev pub are_alike_at : Value-F Value → Value-F Value → Bool
are_alike_at (Value-F.Int a) (Value-F.Int b) = true
are_alike_at (Value-F.Text a) (Value-F.Text b) = true
are_alike_at _ _ = false

abbrev pub are_alike : Value → Value → Bool
are_alike a b = are_alike_at (out-Value a) (out-Value b)

abbrev pub is_before_at : Value-F Value → Value-F Value → Bool
is_before_at (Value-F.Int a) (Value-F.Int b) = int_lt a b
is_before_at (Value-F.Text a) (Value-F.Text b) = is_lt (text_cmp a b)
is_before_at _ _ = false

abbrev pub is_before : Value → Value → Bool
is_before a b = is_before_at (out-Value a) (out-Value b)

-- a walk over items that are like the first one
abbrev pub walk_alike : {C : Type 0} → Value → List Value → Action C (Unit {0})
walk_alike first [] = pure tt
walk_alike first (x ∷ xs) = do
  charge_weight x
  check failure.WrongType (are_alike first x)
  walk_alike first xs

abbrev pub walk_first : {C : Type 0} → List Value → Action C (Unit {0})
walk_first [] = pure tt
walk_first (x ∷ xs) = walk_alike x (x ∷ xs)

-- an item before the first one that is not before it
abbrev pub placed : Value → List Value → List Value
placed x [] = x ∷ []
placed x (y ∷ ys) = if is_before y x then y ∷ placed x ys else x ∷ y ∷ ys

-- the items in order, equal ones as they stood
unfoldable pub sorted_items : List Value → List Value
sorted_items [] = []
sorted_items (x ∷ xs) = placed x (sorted_items xs)

abbrev pub backwards : {C : Type 0} → Option Value → Action C Bool
backwards None = pure false
backwards (Some v) = given_or failure.WrongType (bool_in v)

abbrev pub sorted : {C : Type 0} → ByName → Value → Action C Value
sorted named v = do
  given ← given_or failure.WrongArguments (only_named (codes "reverse") named)
  items ← items_of v
  back ← backwards given
  walk_first items
  new_list (if back then reverse (sorted_items items) else sorted_items items)

-- the first of the best items
abbrev pub best : (Value → Value → Bool) → Value → List Value → Value
best better x [] = x
best better x (y ∷ ys) = best better (if better y x then y else x) ys

abbrev pub best_item : {C : Type 0} → (Value → Value → Bool) → List Value → Action C Value
best_item better [] = fail failure.NoElement
best_item better (x ∷ xs) = walk_alike x (x ∷ xs) >> pure (best better x xs)

abbrev pub best_argument : {C : Type 0} → (Value → Value → Bool) → Value → List Value → Action C Value
best_argument better x xs = do
  check failure.WrongType (list_all (are_alike x) (x ∷ xs))
  charge_items (x ∷ xs)
  pure (best better x xs)

-- of the items of one argument, or of several arguments
unfoldable pub extreme : {C : Type 0} → (Value → Value → Bool) → List Value → Action C Value
extreme better [] = fail failure.WrongArguments
extreme better (v ∷ []) = items_of v >>= best_item better
extreme better (x ∷ y ∷ more) = best_argument better x (y ∷ more)

-- ---- the table

-- the result, and what is written
abbrev pub silent : {C : Type 0} → Action C Value → Action C (Value × List ℕ)
silent p = p >>= (λ v. pure (v, []))

abbrev pub writing : {C : Type 0} → Action C (List ℕ) → Action C (Value × List ℕ)
writing p = p >>= (λ text. pure (value.None, text))

-- a call of a built-in function: its result, and what it writes
unfoldable pub call_builtin : {C : Type 0} → Naming C → Builtin → List Value → ByName → Action C (Value × List ℕ)
call_builtin naming builtin.Abs vs named = silent (unnamed named (with_one absolute vs))
call_builtin naming builtin.All vs named = silent (unnamed named (with_one (tested list_all) vs))
call_builtin naming builtin.Any vs named = silent (unnamed named (with_one (tested list_any) vs))
call_builtin naming builtin.Bool vs named = silent (unnamed named (with_one truth vs))
call_builtin naming builtin.Dict vs named = silent (unnamed named (with_optional dict_of vs))
call_builtin naming builtin.Enumerate vs named = silent (unnamed named (with_one_or_two enumerate vs))
call_builtin naming builtin.Int vs named = silent (unnamed named (with_one (λ v. int_of (out-Value v)) vs))
call_builtin naming builtin.Len vs named = silent (unnamed named (with_one len vs))
call_builtin naming builtin.List vs named = silent (unnamed named (with_optional list_of vs))
call_builtin naming builtin.Max vs named = silent (unnamed named (extreme (λ y x. is_before x y) vs))
call_builtin naming builtin.Min vs named = silent (unnamed named (extreme is_before vs))
call_builtin naming builtin.Print vs named = writing (printed naming vs named)
call_builtin naming builtin.Range vs named = silent (unnamed named (range vs))
call_builtin naming builtin.Repr vs named = silent (unnamed named (with_one (λ v. as_value (quoted naming v)) vs))
call_builtin naming builtin.Reversed vs named = silent (unnamed named (with_one reversed vs))
call_builtin naming builtin.Sorted vs named = silent (with_one (sorted named) vs)
call_builtin naming builtin.Str vs named = silent (unnamed named (with_one (λ v. as_value (shown naming v)) vs))
call_builtin naming builtin.Tuple vs named = silent (unnamed named (with_optional tuple_of vs))
call_builtin naming builtin.Type vs named = silent (unnamed named (with_one (λ v. pure (value.Text (type_name v))) vs))
call_builtin naming builtin.Zip vs named = silent (unnamed named (zip vs))
