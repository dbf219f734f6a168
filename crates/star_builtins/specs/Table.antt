-- The built-in functions by the arguments that they take.
use Rattle.std.specs.Prelude.{ℕ, true, false, List, Option}
use Rattle.std.specs.List.{list_all, list_any}
use Rattle.star_value.specs.declared.value.Value.{Value, out-Value}
use Rattle.star_value.specs.declared.value.Value.TheVariants as value
use Rattle.star_meaning.specs.Builtins as spec
use Rattle.star_meaning.specs.Showing.{Naming, quoted, shown}
use Rattle.star_meaning.specs.Steps.{Action, pure}
use Rattle.star_meaning.specs.Values.{type_name}
use Rattle.star_builtins.specs.declared.functions.table.Row.{Row}
use Rattle.star_builtins.specs.declared.functions.table.Row.TheVariants as calls
use Rattle.star_builtins.specs.declared.functions.table.Silent.{Silent}
use Rattle.star_builtins.specs.declared.functions.table.Silent.TheVariants as by
use Rattle.star_builtins.specs.declared.functions.table.OfOne.{OfOne}
use Rattle.star_builtins.specs.declared.functions.table.OfOne.TheVariants as one
use Rattle.star_builtins.specs.declared.functions.table.OfOptional.{OfOptional}
use Rattle.star_builtins.specs.declared.functions.table.OfOptional.TheVariants as optional
use Rattle.star_builtins.specs.declared.functions.table.OfMany.{OfMany}
use Rattle.star_builtins.specs.declared.functions.table.OfMany.TheVariants as many
use Rattle.star_builtins.specs.Sorting.{better}

-- a function of one argument
unfoldable pub one_row : {C : Type 0} → Naming C → OfOne → Value → Action C Value
one_row naming one.Abs v = spec.absolute v
one_row naming one.All v = spec.tested list_all v
one_row naming one.Any v = spec.tested list_any v
one_row naming one.Bool v = spec.truth v
one_row naming one.Int v = spec.int_of (out-Value v)
one_row naming one.Len v = spec.len v
one_row naming one.Repr v = spec.as_value (quoted naming v)
one_row naming one.Reversed v = spec.reversed v
one_row naming one.Str v = spec.as_value (shown naming v)
one_row naming one.Type v = pure (value.Text (type_name v))

-- a function of one argument or none
unfoldable pub optional_row : {C : Type 0} → OfOptional → Option Value → Action C Value
optional_row optional.Dict o = spec.dict_of o
optional_row optional.List o = spec.list_of o
optional_row optional.Tuple o = spec.tuple_of o

-- a function of several arguments
unfoldable pub many_row : {C : Type 0} → OfMany → List Value → Action C Value
many_row many.Enumerate vs = spec.with_one_or_two spec.enumerate vs
many_row many.Max vs = spec.extreme (better true) vs
many_row many.Min vs = spec.extreme (better false) vs
many_row many.Range vs = spec.range vs
many_row many.Zip vs = spec.zip vs

-- a function that writes nothing
unfoldable pub silent_row : {C : Type 0} → Naming C → Silent → List Value → spec.ByName → Action C Value
silent_row naming by.Sorted vs named = spec.with_one (spec.sorted named) vs
silent_row naming (by.OfOne which) vs named = spec.unnamed named (spec.with_one (one_row naming which) vs)
silent_row naming (by.OfOptional which) vs named = spec.unnamed named (spec.with_optional (optional_row which) vs)
silent_row naming (by.OfMany which) vs named = spec.unnamed named (many_row which vs)

-- a function: its result, and what it writes
unfoldable pub row : {C : Type 0} → Naming C → Row → List Value → spec.ByName → Action C (Value × List ℕ)
row naming calls.Print vs named = spec.writing (spec.printed naming vs named)
row naming (calls.Silent which) vs named = spec.silent (silent_row naming which vs named)
