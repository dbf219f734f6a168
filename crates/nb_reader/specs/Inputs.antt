-- The inputs of a file, as a function of its JSON value that knows no reader.
use Rattle.std.specs.Prelude.{ℕ, ℤ, pos, nat_lt, List, [], ◌∷◌, ◌++◌, Option, Some, None, Result, Ok, Err, option_map, option_and_then, if◌then◌else◌}
use Rattle.std.specs.Option.{option_or}
use Rattle.std.specs.Str.{chars}
use Rattle.serde_json.specs.Data.{Data, null, boolean, number, string, array, object, Num, Items, no_items, item, Members, no_members, member}
use Rattle.serde_json.specs.Events.{members_len}
use Rattle.serde_json.specs.Find.{as_i64, as_u64, as_object}
use Rattle.chex_base.specs.declared.input.Input.{Input}
use Rattle.chex_base.specs.declared.input.Input.TheVariants as whole
use Rattle.chex_base.specs.declared.input.InputItem.{InputItem}
use Rattle.chex_base.specs.declared.input.InputItem.TheVariants as listed
use Rattle.nb_reader.specs.Reading.{value_of, read_as}
use Rattle.nb_reader.specs.declared.fault.NbFault.{NbFault}
use Rattle.nb_reader.specs.declared.fault.NbFault.TheVariants.{NotObject, BadInput, TooMany}
use Rattle.nb_reader.specs.declared.fault.Counted.TheVariants as counted

-- the integer that `as_i64` or `as_u64` gives; `4.0` and `1e2` are no integers
abbrev pub integer_of : Num → Option ℤ
integer_of n = option_or (as_i64 n) (option_map pos (as_u64 n))

-- the item of a list that a value stands for; none where it may not stand there
abbrev pub item_of : Data → Option InputItem
item_of null = Some listed.None
item_of (boolean b) = Some (listed.Bool b)
item_of (number n) = option_map listed.Int (integer_of n)
item_of (string s) = Some (listed.Text (chars s))
item_of (array ds) = None
item_of (object ms) = None

-- the items of a list; none where one of them is none
abbrev pub list_of : Items → Option (List InputItem)
list_of no_items = Some []
list_of (item d ds) = option_and_then (λ x. option_map (λ xs. x ∷ xs) (list_of ds)) (item_of d)

-- the input that a value stands for; none where it may stand for none
abbrev pub input_of : Data → Option Input
input_of null = Some whole.None
input_of (boolean b) = Some (whole.Bool b)
input_of (number n) = option_map whole.Int (integer_of n)
input_of (string s) = Some (whole.Text (chars s))
input_of (array ds) = option_map whole.List (list_of ds)
input_of (object ms) = None

-- the inputs that were found, before those that follow, unless there a refusal follows
abbrev pub inputs_before : List (List ℕ × Input) → Result (List (List ℕ × Input)) NbFault → Result (List (List ℕ × Input)) NbFault
inputs_before front (Ok rest) = Ok (front ++ rest)
inputs_before front (Err e) = Err e

-- what a name and its value give, before what the names after it give
abbrev pub with_input : List ℕ → Option Input → Result (List (List ℕ × Input)) NbFault → Result (List (List ℕ × Input)) NbFault
with_input name None rest = Err (BadInput name)
with_input name (Some value) rest = inputs_before ((name, value) ∷ []) rest

-- the names of an object with their values, or the first bad one; members stand in byte order
abbrev pub values_of : Members → Result (List (List ℕ × Input)) NbFault
values_of no_members = Ok []
values_of (member name d ms) = with_input (chars name) (input_of d) (values_of ms)

-- the values are looked at where the names are at most 256
abbrev pub inputs_of : Members → Result (List (List ℕ × Input)) NbFault
inputs_of ms = if nat_lt 256 (members_len ms) then Err (TooMany counted.Inputs (members_len ms)) else values_of ms

-- none stands for a value that is no object
abbrev pub inputs_or_refusal : Option Members → Result (List (List ℕ × Input)) NbFault
inputs_or_refusal None = Err NotObject
inputs_or_refusal (Some ms) = inputs_of ms

-- the inputs in a value, or the first refusal
abbrev pub inputs_in : Data → Result (List (List ℕ × Input)) NbFault
inputs_in d = inputs_or_refusal (as_object d)

-- the same of a file
abbrev pub inputs_file_of : List ℕ → Result (List (List ℕ × Input)) NbFault
inputs_file_of bytes = read_as inputs_in (value_of bytes)
