-- The bytes of values and objects whose references have other numbers.
use Rattle.std.specs.Prelude.{ℕ, List, [], ◌∷◌, ◌++◌, Option, Some, None, nat_eq, slice_get}
use Rattle.std.specs.List.{position_or_len}
use Rattle.star_value.specs.declared.key.Key.{Key}
use Rattle.star_value.specs.declared.value.Value.{Value, fold-Value}
use Rattle.star_value.specs.declared.value.Value.TheOpen.{Value-F}
use Rattle.star_value.specs.Keys as keys
use Rattle.star_meaning.specs.Snapshot.{counted, id_bytes, object_bytes, text_bytes, value_bytes, value_step}
use Rattle.star_meaning.specs.State.{Object, AList, ADict, AFunction}
use Rattle.star_meaning.specs.Validity.{MachineState}

-- a value's layer with other numbers
abbrev pub renumbered : (ℕ → ℕ) → Value-F (List ℕ) → Value-F (List ℕ)
renumbered to (Value-F.List id) = Value-F.List (to id)
renumbered to (Value-F.Dict id) = Value-F.Dict (to id)
renumbered to (Value-F.Function id) = Value-F.Function (to id)
renumbered to x = x

-- the bytes of a value with other numbers
unfoldable pub value_bytes_by : (ℕ → ℕ) → Value → List ℕ
value_bytes_by to = fold-Value (List ℕ) (λ x. value_step (renumbered to x))

-- a key has no references
abbrev pub pair_bytes_by : (ℕ → ℕ) → Key × Value → List ℕ
pair_bytes_by to pair = value_bytes (keys.value_of pair.0) ++ value_bytes_by to pair.1

abbrev pub object_bytes_by : (ℕ → ℕ) → Object ℕ → List ℕ
object_bytes_by to (AList items) = 0 ∷ counted (value_bytes_by to) items
object_bytes_by to (ADict pairs) = 1 ∷ counted (pair_bytes_by to) pairs
object_bytes_by to (AFunction cell number defaults) = 2 ∷ id_bytes cell ++ id_bytes number ++ counted (value_bytes_by to) defaults

abbrev pub global_bytes_by : (ℕ → ℕ) → List ℕ × Value → List ℕ
global_bytes_by to entry = text_bytes entry.0 ++ value_bytes_by to entry.1

-- the new number of an object: its place in the order in which objects are met
abbrev pub number_in : List ℕ → ℕ → ℕ
number_in order id = position_or_len (nat_eq id) order

-- the bytes of an object, where it is there
abbrev pub found_bytes_by : (ℕ → ℕ) → Option (Object ℕ) → List ℕ
found_bytes_by to None = []
found_bytes_by to (Some o) = object_bytes_by to o

-- the bytes of a state where these objects alone are written, with their places for numbers
unfoldable pub bytes_in : MachineState → List ℕ → List ℕ
bytes_in m order =
    67 ∷ 72 ∷ 88 ∷ 50 ∷ counted id_bytes m.ran ++ counted (global_bytes_by (number_in order)) m.state.globals
    ++ counted (λ id. found_bytes_by (number_in order) (slice_get m.state.objects id)) order

-- the bytes of an object as it is numbered, where it is there
abbrev pub found_bytes : Option (Object ℕ) → List ℕ
found_bytes None = []
found_bytes (Some o) = object_bytes o
