-- Reading a snapshot from left to right, up to the first fault.
use Rattle.std.specs.Prelude.{◌≡◌, ℕ, ℤ, zero, suc, ◌+◌, ◌-◌, ◌*◌, ◌^◌, Bool, true, false, ◌&&◌, ◌==◌, nat_lt, if◌then◌else◌, List, [], ◌∷◌, ◌++◌, length, take, drop, Option, Some, None, is_some, Result, Ok, Err, slice_get}
use Rattle.std.specs.Int.{Width, w32, w64, w128, byte_len, cast_signed, from_be_bytes}
use Rattle.std.specs.List.{list_all}
use Rattle.std.specs.Ordering.{is_lt}
use Rattle.std.specs.Str.{chars, is_utf8}
use Rattle.chex_base.specs.TextOrder.{text_cmp}
use Rattle.heap_store.specs.declared.kind.Kind.{Kind}
use Rattle.heap_store.specs.declared.kind.Kind.TheVariants as kind
use Rattle.star_syntax.specs.declared.cell.Program.{Program}
use Rattle.star_syntax.specs.Cells.{numbered}
use Rattle.star_value.specs.declared.builtin.Builtin.{Builtin}
use Rattle.star_value.specs.declared.builtin.Builtin.TheVariants as builtin
use Rattle.star_value.specs.declared.key.Key.{Key}
use Rattle.star_value.specs.declared.value.Value.{Value}
use Rattle.star_value.specs.declared.value.Value.TheVariants as value
use Rattle.star_value.specs.Keys.{key_of}
use Rattle.star_meaning.specs.State.{Object, AList, ADict, AFunction, dict_get}
use Rattle.star_meaning.specs.Values.{is_zero}
use Rattle.star_meaning.specs.Validity.{MachineState, all_in, fits, is_defined}
use Rattle.snapshot_codec.specs.declared.fault.SnapFault.{SnapFault}
use Rattle.snapshot_codec.specs.declared.fault.SnapFault.TheVariants.{Short, BadTag, BadText, BadRule, LeftOver, BadReference, BadOrder}
use Rattle.snapshot_codec.specs.declared.stop.Stop.{Stop}
use Rattle.snapshot_codec.specs.declared.stop.Stop.TheVariants as stop
use Rattle.snapshot_codec.specs.declared.tag.Tag.{Tag}
use Rattle.snapshot_codec.specs.declared.tag.Tag.TheVariants as tag

-- one thing after the other, where the first did not fail
infixl 10 ◌>>=◌
abbrev pub ◌>>=◌ : {A B : Type 0} → Result A SnapFault → (A → Result B SnapFault) → Result B SnapFault
(Ok x) >>= f = f x
(Err e) >>= f = Err e

-- What a function answered, seen by view, is what reading gives, unless memory was wanting.
abbrev pub Fails : {Y : Type 0} → Stop → Result Y SnapFault → Type 0
Fails stop.NoMemory read = Unit {0}
Fails (stop.Fault fault) read = read ≡ Err fault

abbrev pub Gives : {X Y : Type 0} → (X → Y) → Result X Stop → Result Y SnapFault → Type 0
Gives view (Ok x) read = read ≡ Ok (view x)
Gives view (Err e) read = Fails e read

-- ---- numbers and texts; each is read with the bytes after it

-- the byte in front
abbrev pub byte_at : List ℕ → Result (ℕ × List ℕ) SnapFault
byte_at [] = Err Short
byte_at (b ∷ rest) = Ok (b, rest)

-- a number of this width
abbrev pub number_at : Width → List ℕ → Result (ℕ × List ℕ) SnapFault
number_at w bytes = if nat_lt (length bytes) (byte_len w) then Err Short else Ok (from_be_bytes w (take (byte_len w) bytes), drop (byte_len w) bytes)

unfoldable pub id_at : List ℕ → Result (ℕ × List ℕ) SnapFault
id_at bytes = number_at w32 bytes

unfoldable pub count_at : List ℕ → Result (ℕ × List ℕ) SnapFault
count_at bytes = number_at w64 bytes

-- an integer in two's complement, its higher half first
unfoldable pub integer_at : List ℕ → Result (ℤ × List ℕ) SnapFault
integer_at bytes = do
  high ← count_at bytes
  low ← count_at high.1
  Ok (cast_signed w128 (high.0 * 2 ^ 64 + low.0), low.1)

-- the code points of bytes that are UTF-8
abbrev pub points_of : List ℕ → Result (List ℕ) SnapFault
points_of bytes = if is_utf8 bytes then Ok (chars bytes) else Err BadText

-- a count of bytes, and the text of so many
unfoldable pub text_at : List ℕ → Result (List ℕ × List ℕ) SnapFault
text_at bytes = do
  n ← count_at bytes
  if nat_lt (length n.1) n.0 then Err Short else (points_of (take n.0 n.1) >>= λ points. Ok (points, drop n.0 n.1))

-- ---- tags

-- what is there, or else no such tag
abbrev pub there : {A : Type 0} → Option A → List ℕ → Result (A × List ℕ) SnapFault
there None rest = Err BadTag
there (Some a) rest = Ok (a, rest)

abbrev pub tag_of : ℕ → Option Tag
tag_of b =
    if b == 0 then Some tag.None else if b == 1 then Some tag.False else if b == 2 then Some tag.True
    else if b == 3 then Some tag.Int else if b == 4 then Some tag.Text else if b == 5 then Some tag.Tuple
    else if b == 6 then Some tag.Range else if b == 7 then Some tag.List else if b == 8 then Some tag.Dict
    else if b == 9 then Some tag.Function else if b == 10 then Some tag.Builtin else None

unfoldable pub tag_at : List ℕ → Result (Tag × List ℕ) SnapFault
tag_at bytes = do
  b ← byte_at bytes
  there (tag_of b.0) b.1

abbrev pub kind_of : ℕ → Option Kind
kind_of b = if b == 0 then Some kind.List else if b == 1 then Some kind.Dict else if b == 2 then Some kind.Function else None

unfoldable pub kind_at : List ℕ → Result (Kind × List ℕ) SnapFault
kind_at bytes = do
  b ← byte_at bytes
  there (kind_of b.0) b.1

-- the built-in function of a place in the order of names
abbrev pub builtin_of : ℕ → Option Builtin
builtin_of b =
    if b == 0 then Some builtin.Abs else if b == 1 then Some builtin.All else if b == 2 then Some builtin.Any
    else if b == 3 then Some builtin.Bool else if b == 4 then Some builtin.Dict else if b == 5 then Some builtin.Enumerate
    else if b == 6 then Some builtin.Int else if b == 7 then Some builtin.Len else if b == 8 then Some builtin.List
    else if b == 9 then Some builtin.Max else if b == 10 then Some builtin.Min else if b == 11 then Some builtin.Print
    else if b == 12 then Some builtin.Range else if b == 13 then Some builtin.Repr else if b == 14 then Some builtin.Reversed
    else if b == 15 then Some builtin.Sorted else if b == 16 then Some builtin.Str else if b == 17 then Some builtin.Tuple
    else if b == 18 then Some builtin.Type else if b == 19 then Some builtin.Zip else None

-- ---- many parts

-- So many parts one after the other, behind those in front. Each may depend on the parts before it, and on how many different
-- objects were met before it.
unfoldable pub many_at : {A : Type 0} → (List A → ℕ → List ℕ → Result (A × ℕ × List ℕ) SnapFault) → ℕ → List A → ℕ → List ℕ → Result (List A × ℕ × List ℕ) SnapFault
many_at part zero front met bytes = Ok (front, met, bytes)
many_at part (suc n) front met bytes = part front met bytes >>= λ a. many_at part n (front ++ a.0 ∷ []) a.1 a.2

-- ---- values; what was read stands with how many different objects were met until then, and with the bytes after it

-- the number of an object: one that was met, or the next
unfoldable pub reference_at : ℕ → List ℕ → Result (ℕ × ℕ × List ℕ) SnapFault
reference_at met bytes = do
  id ← id_at bytes
  if nat_lt id.0 met then Ok (id.0, met, id.1) else if id.0 == met then Ok (id.0, met + 1, id.1) else Err BadOrder

unfoldable pub int_at : ℕ → List ℕ → Result (Value × ℕ × List ℕ) SnapFault
int_at met bytes = do
  z ← integer_at bytes
  Ok (value.Int z.0, met, z.1)

unfoldable pub text_value_at : ℕ → List ℕ → Result (Value × ℕ × List ℕ) SnapFault
text_value_at met bytes = do
  t ← text_at bytes
  Ok (value.Text t.0, met, t.1)

-- a range's step is not 0
unfoldable pub range_at : ℕ → List ℕ → Result (Value × ℕ × List ℕ) SnapFault
range_at met bytes = do
  start ← integer_at bytes
  end ← integer_at start.1
  step ← integer_at end.1
  if is_zero step.0 then Err BadRule else Ok (value.Range (record { start = start.0; stop = end.0; step = step.0 }), met, step.1)

unfoldable pub list_at : ℕ → List ℕ → Result (Value × ℕ × List ℕ) SnapFault
list_at met bytes = do
  id ← reference_at met bytes
  Ok (value.List id.0, id.1, id.2)

unfoldable pub dict_at : ℕ → List ℕ → Result (Value × ℕ × List ℕ) SnapFault
dict_at met bytes = do
  id ← reference_at met bytes
  Ok (value.Dict id.0, id.1, id.2)

unfoldable pub function_at : ℕ → List ℕ → Result (Value × ℕ × List ℕ) SnapFault
function_at met bytes = do
  id ← reference_at met bytes
  Ok (value.Function id.0, id.1, id.2)

unfoldable pub builtin_at : ℕ → List ℕ → Result (Value × ℕ × List ℕ) SnapFault
builtin_at met bytes = do
  b ← byte_at bytes
  which ← there (builtin_of b.0) b.1
  Ok (value.Builtin which.0, met, which.1)

-- what follows the tag of a value, where this reads what follows that of a tuple
unfoldable pub value_of_tag : (ℕ → List ℕ → Result (Value × ℕ × List ℕ) SnapFault) → Tag → ℕ → List ℕ → Result (Value × ℕ × List ℕ) SnapFault
value_of_tag tuple tag.None met rest = Ok (value.None, met, rest)
value_of_tag tuple tag.False met rest = Ok (value.Bool false, met, rest)
value_of_tag tuple tag.True met rest = Ok (value.Bool true, met, rest)
value_of_tag tuple tag.Int met rest = int_at met rest
value_of_tag tuple tag.Text met rest = text_value_at met rest
value_of_tag tuple tag.Tuple met rest = tuple met rest
value_of_tag tuple tag.Range met rest = range_at met rest
value_of_tag tuple tag.List met rest = list_at met rest
value_of_tag tuple tag.Dict met rest = dict_at met rest
value_of_tag tuple tag.Function met rest = function_at met rest
value_of_tag tuple tag.Builtin met rest = builtin_at met rest

-- a count and so many items
abbrev pub items_at : (ℕ → List ℕ → Result (Value × ℕ × List ℕ) SnapFault) → ℕ → List ℕ → Result (List Value × ℕ × List ℕ) SnapFault
items_at item met bytes = count_at bytes >>= λ n. many_at (λ front. item) n.0 [] met n.1

abbrev pub tuple_of : (ℕ → List ℕ → Result (Value × ℕ × List ℕ) SnapFault) → ℕ → List ℕ → Result (Value × ℕ × List ℕ) SnapFault
tuple_of item met bytes = items_at item met bytes >>= λ items. Ok (value.Tuple items.0, items.1, items.2)

-- a value whose tuples nest no deeper than this
unfoldable pub value_at : ℕ → ℕ → List ℕ → Result (Value × ℕ × List ℕ) SnapFault
value_at zero = λ met bytes. tag_at bytes >>= λ t. value_of_tag (λ m r. Err BadRule) t.0 met t.1
value_at (suc room) = λ met bytes. tag_at bytes >>= λ t. value_of_tag (tuple_of (value_at room)) t.0 met t.1

-- what follows the tag of a tuple
unfoldable pub tuple_at : ℕ → ℕ → List ℕ → Result (Value × ℕ × List ℕ) SnapFault
tuple_at zero = λ met bytes. Err BadRule
tuple_at (suc room) = tuple_of (value_at room)

-- a value of a machine: tuples nest 64 deep at most
unfoldable pub whole_value_at : ℕ → List ℕ → Result (Value × ℕ × List ℕ) SnapFault
whole_value_at = value_at 64

unfoldable pub values_at : ℕ → List ℕ → Result (List Value × ℕ × List ℕ) SnapFault
values_at met bytes = items_at whole_value_at met bytes

-- ---- dicts

-- the key that was read as a value
abbrev pub key_or_rule : Option Key → ℕ → List ℕ → Result (Key × ℕ × List ℕ) SnapFault
key_or_rule None met rest = Err BadRule
key_or_rule (Some key) met rest = Ok (key, met, rest)

unfoldable pub key_at : ℕ → List ℕ → Result (Key × ℕ × List ℕ) SnapFault
key_at met bytes = do
  v ← whole_value_at met bytes
  key_or_rule (key_of v.0) v.1 v.2

-- a key that does not stand in front, and its value
unfoldable pub pair_at : List (Key × Value) → ℕ → List ℕ → Result ((Key × Value) × ℕ × List ℕ) SnapFault
pair_at front met bytes = do
  k ← key_at met bytes
  if is_some (dict_get front k.0) then Err BadRule else (whole_value_at k.1 k.2 >>= λ v. Ok ((k.0, v.0), v.1, v.2))

unfoldable pub pairs_at : ℕ → List ℕ → Result (List (Key × Value) × ℕ × List ℕ) SnapFault
pairs_at met bytes = do
  n ← count_at bytes
  many_at pair_at n.0 [] met n.1

-- ---- objects

-- what follows the tag of an object
abbrev pub content_at : Kind → ℕ → List ℕ → Result (Object ℕ × ℕ × List ℕ) SnapFault
content_at kind.List met bytes = values_at met bytes >>= λ items. Ok (AList items.0, items.1, items.2)
content_at kind.Dict met bytes = pairs_at met bytes >>= λ pairs. Ok (ADict pairs.0, pairs.1, pairs.2)
content_at kind.Function met bytes = do
  cell ← id_at bytes
  number ← id_at cell.1
  defaults ← values_at met number.1
  Ok (AFunction cell.0 number.0 defaults.0, defaults.1, defaults.2)

-- An object begins with its tag, and its number was met before.
unfoldable pub numbered_object_at : ℕ → ℕ → List ℕ → Result (Object ℕ × ℕ × List ℕ) SnapFault
numbered_object_at number met bytes = do
  k ← kind_at bytes
  if nat_lt number met then content_at k.0 met k.1 else Err BadOrder

abbrev pub object_at : List (Object ℕ) → ℕ → List ℕ → Result (Object ℕ × ℕ × List ℕ) SnapFault
object_at front met bytes = numbered_object_at (length front) met bytes

-- ---- the whole

-- the bytes after this one
abbrev pub mark_at : ℕ → List ℕ → Result (List ℕ) SnapFault
mark_at wanted bytes = byte_at bytes >>= λ b. if b.0 == wanted then Ok b.1 else Err BadTag

-- CHX2
unfoldable pub head_at : List ℕ → Result (List ℕ) SnapFault
head_at bytes = do
  c ← mark_at 67 bytes
  h ← mark_at 72 c
  x ← mark_at 88 h
  mark_at 50 x

unfoldable pub node_at : List ℕ → ℕ → List ℕ → Result (ℕ × ℕ × List ℕ) SnapFault
node_at front met bytes = do
  id ← id_at bytes
  Ok (id.0, met, id.1)

-- at most 64 nodes have run
unfoldable pub ran_at : List ℕ → Result (List ℕ × ℕ × List ℕ) SnapFault
ran_at bytes = do
  n ← count_at bytes
  if nat_lt 64 n.0 then Err BadRule else many_at node_at n.0 [] 0 n.1

-- whether a name stands above the last one, if there is one
abbrev pub rises : Option (List ℕ × Value) → List ℕ → Bool
rises None name = true
rises (Some last) name = is_lt (text_cmp last.0 name)

-- a name above those in front, and its value
unfoldable pub global_at : List (List ℕ × Value) → ℕ → List ℕ → Result ((List ℕ × Value) × ℕ × List ℕ) SnapFault
global_at front met bytes = do
  name ← text_at bytes
  if rises (slice_get front (length front - 1)) name.0 then (whole_value_at met name.1 >>= λ v. Ok ((name.0, v.0), v.1, v.2)) else Err BadRule

unfoldable pub globals_at : List ℕ → Result (List (List ℕ × Value) × ℕ × List ℕ) SnapFault
globals_at bytes = do
  n ← count_at bytes
  many_at global_at n.0 [] 0 n.1

-- at most so many objects
unfoldable pub objects_at : ℕ → ℕ → List ℕ → Result (List (Object ℕ) × ℕ × List ℕ) SnapFault
objects_at most met bytes = do
  n ← count_at bytes
  if nat_lt most n.0 then Err BadRule else many_at object_at n.0 [] met n.1

-- a machine state, before its references are looked at
unfoldable pub parts_at : List ℕ → Result MachineState SnapFault
parts_at bytes = do
  rest ← head_at bytes
  ran ← ran_at rest
  globals ← globals_at ran.2
  objects ← objects_at (1000000 * length ran.0) globals.1 globals.2
  if length objects.2 == 0 then Ok (record { state = record { globals = globals.0; objects = objects.0 }; ran = ran.0 }) else Err LeftOver

-- whether each number names something of its kind: objects, nodes of the program, functions of cells that have run
unfoldable pub refers : Program → MachineState → Bool
refers program m = all_in (fits m.state.objects) m.state && (list_all (λ node. is_some (numbered program.cells node)) m.ran && list_all (is_defined program m.ran) m.state.objects)

-- the machine state of bytes over a program, or the first fault
unfoldable pub state_at : Program → List ℕ → Result MachineState SnapFault
state_at program bytes = do
  m ← parts_at bytes
  if refers program m then Ok m else Err BadReference
