-- Snapshots of machine states: how their objects are numbered, and their bytes.
use Rattle.std.specs.Prelude.{◌≡◌, ℕ, ℤ, ◌+◌, ◌==◌, nat_lt, Bool, true, false, ◌&&◌, if◌then◌else◌, List, [], ◌∷◌, ◌++◌, length, Option, Some, None, IsTrue, bytes_eq, encode_utf8_all}
use Rattle.std.specs.Int.{cast_unsigned, to_be_bytes, w32, w64, w128}
use Rattle.std.specs.List.{flat_map}
use Rattle.star_syntax.specs.declared.cell.Program.{Program}
use Rattle.star_value.specs.declared.builtin.Builtin.{Builtin}
use Rattle.star_value.specs.declared.key.Key.{Key}
use Rattle.star_value.specs.declared.value.Value.{Value, fold-Value}
use Rattle.star_value.specs.declared.value.Value.TheOpen.{Value-F}
use Rattle.star_value.specs.Keys as keys
use Rattle.star_meaning.specs.State.{Object, AList, ADict, AFunction}
use Rattle.star_meaning.specs.Values.{builtin_name, builtins}
use Rattle.star_meaning.specs.Validity.{IsValid, MachineState}
use Rattle.star_meaning.specs.Alike.{AlikeMachines}

-- ---- the order in which objects are met

-- the numbers of the objects that a value refers to, from left to right
abbrev pub references_step : Value-F (List ℕ) → List ℕ
references_step (Value-F.List id) = id ∷ []
references_step (Value-F.Dict id) = id ∷ []
references_step (Value-F.Function id) = id ∷ []
references_step (Value-F.Tuple parts) = flat_map (λ ids. ids) parts
references_step _ = []

unfoldable pub references : Value → List ℕ
references = fold-Value (List ℕ) references_step

-- those that an object refers to; keys refer to none
abbrev pub object_references : {C : Type 0} → Object C → List ℕ
object_references (AList items) = flat_map references items
object_references (ADict pairs) = flat_map (λ pair. references pair.1) pairs
object_references (AFunction cell number defaults) = flat_map references defaults

-- Numbers are read one after another, of which so many different ones were met before, all those below this count. Each is one of
-- them, or the next, which is met now: how many are met then, or nothing where a number is greater.
abbrev pub met_from : ℕ → List ℕ → Option ℕ
met_from met [] = Some met
met_from met (id ∷ ids) = if nat_lt id met then met_from met ids else if id == met then met_from (met + 1) ids else None

-- The objects in order of number, from this number on, where so many were met before: each was met before it begins, and when all
-- are read as many were met as there are.
abbrev pub are_met : {C : Type 0} → ℕ → Option ℕ → List (Object C) → Bool
are_met number None os = false
are_met number (Some met) [] = number == met
are_met number (Some met) (o ∷ os) = nat_lt number met && are_met (number + 1) (met_from met (object_references o)) os

-- The objects of a state are numbered from 0 in the order in which they are met: the references in the globals, read from left to
-- right, and then those in the objects, read in order of number. So each of them is met.
abbrev pub is_canonical : MachineState → Bool
is_canonical m = are_met 0 (met_from 0 (flat_map (λ entry. references entry.1) m.state.globals)) m.state.objects

-- the state that is alike and whose objects are numbered so
pub record IsCanon (m canon : MachineState) : Type 0 where
  pub alike : AlikeMachines m canon
  pub canonical : IsTrue (is_canonical canon)

-- ---- numbers and texts: big-endian; a count has 8 bytes, an id 4, an integer 16 in two's complement

abbrev pub count_bytes : ℕ → List ℕ
count_bytes n = to_be_bytes w64 n

abbrev pub id_bytes : ℕ → List ℕ
id_bytes id = to_be_bytes w32 id

abbrev pub integer_bytes : ℤ → List ℕ
integer_bytes z = to_be_bytes w128 (cast_unsigned w128 z)

-- a count, and the bytes of so many parts
abbrev pub counted : {A : Type 0} → (A → List ℕ) → List A → List ℕ
counted part parts = count_bytes (length parts) ++ flat_map part parts

-- a text is its count of bytes and its UTF-8 bytes
abbrev pub text_bytes : List ℕ → List ℕ
text_bytes points = count_bytes (length (encode_utf8_all points)) ++ encode_utf8_all points

-- ---- values and objects, by a tag

-- the place of a name in a table, from 0
abbrev pub place_of_name : {A : Type 0} → List (List ℕ × A) → List ℕ → ℕ
place_of_name [] name = 0
place_of_name (entry ∷ entries) name = if bytes_eq name entry.0 then 0 else place_of_name entries name + 1

-- built-in functions have their places in the order of their names
abbrev pub builtin_byte : Builtin → ℕ
builtin_byte which = place_of_name builtins (builtin_name which)

abbrev pub value_step : Value-F (List ℕ) → List ℕ
value_step Value-F.None = 0 ∷ []
value_step (Value-F.Bool false) = 1 ∷ []
value_step (Value-F.Bool true) = 2 ∷ []
value_step (Value-F.Int z) = 3 ∷ integer_bytes z
value_step (Value-F.Text points) = 4 ∷ text_bytes points
value_step (Value-F.Tuple parts) = 5 ∷ counted (λ bytes. bytes) parts
value_step (Value-F.Range r) = 6 ∷ integer_bytes r.start ++ integer_bytes r.stop ++ integer_bytes r.step
value_step (Value-F.List id) = 7 ∷ id_bytes id
value_step (Value-F.Dict id) = 8 ∷ id_bytes id
value_step (Value-F.Function id) = 9 ∷ id_bytes id
value_step (Value-F.Builtin which) = 10 ∷ builtin_byte which ∷ []

unfoldable pub value_bytes : Value → List ℕ
value_bytes = fold-Value (List ℕ) value_step

-- a key is written as the value that it is
abbrev pub pair_bytes : Key × Value → List ℕ
pair_bytes pair = value_bytes (keys.value_of pair.0) ++ value_bytes pair.1

-- a function is its cell's node, its number in the cell, and its defaults
abbrev pub object_bytes : Object ℕ → List ℕ
object_bytes (AList items) = 0 ∷ counted value_bytes items
object_bytes (ADict pairs) = 1 ∷ counted pair_bytes pairs
object_bytes (AFunction cell number defaults) = 2 ∷ id_bytes cell ++ id_bytes number ++ counted value_bytes defaults

-- ---- states

abbrev pub global_bytes : List ℕ × Value → List ℕ
global_bytes entry = text_bytes entry.0 ++ value_bytes entry.1

-- CHX2, the nodes that have run, the globals in rising byte order of their names, and the objects in order of number
unfoldable pub state_bytes : MachineState → List ℕ
state_bytes m = 67 ∷ 72 ∷ 88 ∷ 50 ∷ counted id_bytes m.ran ++ counted global_bytes m.state.globals ++ counted object_bytes m.state.objects

-- the bytes of a machine state are those of the alike one whose objects are numbered as they are met
abbrev pub IsBytesOf : MachineState → List ℕ → Type 0
IsBytesOf m bytes = (canon : MachineState) × IsCanon m canon × (bytes ≡ state_bytes canon)

-- a byte list is a snapshot over a program where it is that of a valid state
abbrev pub IsSnapshot : Program → List ℕ → Type 0
IsSnapshot program bytes = (m : MachineState) × IsValid program m × IsBytesOf m bytes
