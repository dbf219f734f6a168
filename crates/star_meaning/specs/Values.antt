-- Values: truth, what they give when they are iterated, integers of 128 bits, names of types and built-in functions.
use Rattle.std.specs.Prelude.{ℕ, zero, suc, ◌-◌, ◌^◌, ◌/◌, ◌==◌, nat_lt, Bool, true, false, not, ◌&&◌, if◌then◌else◌, List, [], ◌∷◌, map, Option, Some, None, option_map, ℤ, pos, negsuc, ◌-ℤ◌, ◌*ℤ◌, int_lt, codes, bytes_eq}
use Rattle.std.specs.List.{list_any, range_with_len}
use Rattle.star_value.specs.declared.builtin.Builtin.{Builtin}
use Rattle.star_value.specs.declared.builtin.Builtin.TheVariants as builtin
use Rattle.star_value.specs.declared.key.Key.{Key}
use Rattle.star_value.specs.declared.range.Range.{Range}
use Rattle.star_value.specs.declared.value.Value.{Value, out-Value}
use Rattle.star_value.specs.declared.value.Value.TheOpen.{Value-F}
use Rattle.star_value.specs.declared.value.Value.TheVariants as value
use Rattle.star_value.specs.declared.failure.Failure.{Failure}
use Rattle.star_value.specs.declared.failure.Failure.TheVariants as failure
use Rattle.star_value.specs.Keys as keys
pub use Rattle.star_value.specs.Ranges.{range_item}
use Rattle.star_value.specs.Ranges.{range_count}
use Rattle.star_value.specs.Weight.{weight, depth, sum_of_weights}
use Rattle.star_meaning.specs.State.{State, AList, ADict, AFunction, list, dict, next_id, with_new}
use Rattle.star_meaning.specs.Steps.{Action, Steps, Went, pure, fail, given_or, charge, read, ◌>>=◌, ◌>>◌}

abbrev pub is_empty : {A : Type 0} → List A → Bool
is_empty [] = true
is_empty (x ∷ xs) = false

-- whether an object's number is one of these
abbrev pub has : List ℕ → ℕ → Bool
has ids id = list_any (λ other. other == id) ids

-- ---- integers

-- whether an integer has 128 bits
abbrev pub has_128_bits : ℤ → Bool
has_128_bits (pos n) = nat_lt n (2 ^ 127)
has_128_bits (negsuc n) = nat_lt n (2 ^ 127)

-- an integer of 128 bits
unfoldable pub in_range : ℤ → Option ℤ
in_range z = if has_128_bits z then Some z else None

-- an integer as a result
abbrev pub integer : {W : Type 0} → ℤ → Steps W Failure Value
integer z = given_or failure.IntegerTooLarge (option_map value.Int (in_range z))

-- the quotient, rounded down; the divisor is not 0
abbrev pub floor_of : ℤ → ℤ → ℤ
floor_of (pos a) (pos b) = pos (a / b)
floor_of (negsuc a) (pos b) = negsuc (a / b)
floor_of (pos zero) (negsuc b) = pos 0
floor_of (pos (suc a)) (negsuc b) = negsuc (a / suc b)
floor_of (negsuc a) (negsuc b) = pos (suc a / suc b)

-- what is left of it, which has the sign of the divisor
abbrev pub rest_of : ℤ → ℤ → ℤ
rest_of x y = x -ℤ (y *ℤ floor_of x y)

abbrev pub is_zero : ℤ → Bool
is_zero (pos zero) = true
is_zero _ = false

-- how often something is repeated: an integer below 1 is no time
abbrev pub times : ℤ → ℕ
times (pos n) = n
times (negsuc n) = 0

-- the place that an integer names among so many, where a negative one counts from the end
unfoldable pub place_of : ℤ → ℕ → Option ℕ
place_of (pos n) count = if nat_lt n count then Some n else None
place_of (negsuc n) count = if nat_lt n count then Some (count - suc n) else None

-- an integer brought between two others
abbrev pub clamped : ℤ → ℤ → ℤ → ℤ
clamped low high z = if int_lt z low then low else if int_lt high z then high else z

-- ---- ranges

-- the integers that a range gives
unfoldable pub integers_of : Range → List ℤ
integers_of r = map (range_item r) (range_with_len 0 (range_count r))

abbrev pub is_place_of : Range → ℤ → Bool
is_place_of r (pos n) = nat_lt n (range_count r)
is_place_of r (negsuc n) = false

-- whether a range gives an integer: it lies at a whole number of steps from the start, and that is a place of the range
unfoldable pub range_gives : Range → ℤ → Bool
range_gives r z = is_zero (rest_of (z -ℤ r.start) r.step) && is_place_of r (floor_of (z -ℤ r.start) r.step)

-- ---- truth and items

abbrev pub truth_at : {C : Type 0} → State C → Value-F Value → Bool
truth_at s Value-F.None = false
truth_at s (Value-F.Bool b) = b
truth_at s (Value-F.Int z) = not (is_zero z)
truth_at s (Value-F.Text points) = not (is_empty points)
truth_at s (Value-F.Tuple items) = not (is_empty items)
truth_at s (Value-F.Range r) = not (range_count r == 0)
truth_at s (Value-F.List id) = not (is_empty (list s id))
truth_at s (Value-F.Dict id) = not (is_empty (dict s id))
truth_at s (Value-F.Function id) = true
truth_at s (Value-F.Builtin which) = true

-- false are None, False, 0, and an empty text, tuple, list, dict and range
unfoldable pub is_true : {C : Type 0} → State C → Value → Bool
is_true s v = truth_at s (out-Value v)

abbrev pub key_values : List (Key × Value) → List Value
key_values pairs = map (λ pair. keys.value_of pair.0) pairs

abbrev pub items_at : {C : Type 0} → State C → Value-F Value → Option (List Value)
items_at s (Value-F.Tuple items) = Some items
items_at s (Value-F.Range r) = Some (map value.Int (integers_of r))
items_at s (Value-F.List id) = Some (list s id)
items_at s (Value-F.Dict id) = Some (key_values (dict s id))
items_at s _ = None

-- the items that a value gives when it is iterated: those of a list, tuple or range, and the keys of a dict
unfoldable pub items_in : {C : Type 0} → State C → Value → Option (List Value)
items_in s v = items_at s (out-Value v)

-- the same, where anything else cannot be iterated
unfoldable pub items_of : {C : Type 0} → Value → Action C (List Value)
items_of v = read (λ s. items_in s v) >>= given_or failure.WrongType

abbrev pub text_at : Value-F Value → Option (List ℕ)
text_at (Value-F.Text points) = Some points
text_at _ = None

abbrev pub int_at : Value-F Value → Option ℤ
int_at (Value-F.Int z) = Some z
int_at _ = None

abbrev pub bool_at : Value-F Value → Option Bool
bool_at (Value-F.Bool b) = Some b
bool_at _ = None

-- the text, the integer, the bool that a value is; a bool is no integer
abbrev pub text_in : Value → Option (List ℕ)
text_in v = text_at (out-Value v)

abbrev pub int_in : Value → Option ℤ
int_in v = int_at (out-Value v)

abbrev pub bool_in : Value → Option Bool
bool_in v = bool_at (out-Value v)

-- ---- charges and results

-- `It` of some items: the sum of their weights
abbrev pub charge_items : {C : Type 0} → List Value → Action C (Unit {0})
charge_items items = charge (sum_of_weights items)

abbrev pub charge_weight : {C : Type 0} → Value → Action C (Unit {0})
charge_weight v = charge (weight v)

-- tuples nest at most 64 deep
abbrev pub check_depth : {C : Type 0} → Value → Action C (Unit {0})
check_depth v = if nat_lt 64 (depth v) then fail failure.TooDeep else pure tt

-- a tuple as a result
unfoldable pub new_tuple : {C : Type 0} → List Value → Action C Value
new_tuple items = check_depth (value.Tuple items) >> pure (value.Tuple items)

-- a new object as a result; it is made last, after all charges but that of the result's weight
unfoldable pub new_list : {C : Type 0} → List Value → Action C Value
new_list items = λ s. Went (value.List (next_id s.state)) (record s { state = with_new s.state (AList items) })

unfoldable pub new_dict : {C : Type 0} → List (Key × Value) → Action C Value
new_dict pairs = λ s. Went (value.Dict (next_id s.state)) (record s { state = with_new s.state (ADict pairs) })

unfoldable pub new_function : {C : Type 0} → C → ℕ → List Value → Action C Value
new_function cell number defaults = λ s. Went (value.Function (next_id s.state)) (record s { state = with_new s.state (AFunction cell number defaults) })

-- ---- names

-- the built-in functions by name
abbrev pub builtins : List (List ℕ × Builtin)
builtins =
    (codes "abs", builtin.Abs) ∷ (codes "all", builtin.All) ∷ (codes "any", builtin.Any) ∷ (codes "bool", builtin.Bool)
    ∷ (codes "dict", builtin.Dict) ∷ (codes "enumerate", builtin.Enumerate) ∷ (codes "int", builtin.Int) ∷ (codes "len", builtin.Len)
    ∷ (codes "list", builtin.List) ∷ (codes "max", builtin.Max) ∷ (codes "min", builtin.Min) ∷ (codes "print", builtin.Print)
    ∷ (codes "range", builtin.Range) ∷ (codes "repr", builtin.Repr) ∷ (codes "reversed", builtin.Reversed)
    ∷ (codes "sorted", builtin.Sorted) ∷ (codes "str", builtin.Str) ∷ (codes "tuple", builtin.Tuple) ∷ (codes "type", builtin.Type)
    ∷ (codes "zip", builtin.Zip) ∷ []

-- what stands at a name in a table
abbrev pub named_in : {A : Type 0} → List (List ℕ × A) → List ℕ → Option A
named_in [] name = None
named_in (entry ∷ entries) name = if bytes_eq name entry.0 then Some entry.1 else named_in entries name

unfoldable pub builtin_of : List ℕ → Option Builtin
builtin_of name = named_in builtins name

unfoldable pub builtin_name : Builtin → List ℕ
builtin_name builtin.Abs = codes "abs"
builtin_name builtin.All = codes "all"
builtin_name builtin.Any = codes "any"
builtin_name builtin.Bool = codes "bool"
builtin_name builtin.Dict = codes "dict"
builtin_name builtin.Enumerate = codes "enumerate"
builtin_name builtin.Int = codes "int"
builtin_name builtin.Len = codes "len"
builtin_name builtin.List = codes "list"
builtin_name builtin.Max = codes "max"
builtin_name builtin.Min = codes "min"
builtin_name builtin.Print = codes "print"
builtin_name builtin.Range = codes "range"
builtin_name builtin.Repr = codes "repr"
builtin_name builtin.Reversed = codes "reversed"
builtin_name builtin.Sorted = codes "sorted"
builtin_name builtin.Str = codes "str"
builtin_name builtin.Tuple = codes "tuple"
builtin_name builtin.Type = codes "type"
builtin_name builtin.Zip = codes "zip"

abbrev pub type_name_at : Value-F Value → List ℕ
type_name_at Value-F.None = codes "NoneType"
type_name_at (Value-F.Bool b) = codes "bool"
type_name_at (Value-F.Int z) = codes "int"
type_name_at (Value-F.Text points) = codes "string"
type_name_at (Value-F.Tuple items) = codes "tuple"
type_name_at (Value-F.Range r) = codes "range"
type_name_at (Value-F.List id) = codes "list"
type_name_at (Value-F.Dict id) = codes "dict"
type_name_at (Value-F.Function id) = codes "function"
type_name_at (Value-F.Builtin which) = codes "builtin"

unfoldable pub type_name : Value → List ℕ
type_name v = type_name_at (out-Value v)
