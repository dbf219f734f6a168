-- What tells the cells of versions apart.
use Rattle.std.specs.Prelude.{ℕ, Bool, true, false, ◌&&◌, List, map, Option, Some, None, bytes_eq}
use Rattle.std.specs.Bool.{beq}
use Rattle.std.specs.Ordering.{int_eq}
use Rattle.std.specs.Cmp.Lexicographic.{pointwise}
use Rattle.chex_base.specs.Inputs.{value_of}
use Rattle.chex_base.specs.declared.input.Input.{Input}
use Rattle.chex_base.specs.declared.input.Input.TheVariants as whole
use Rattle.chex_base.specs.declared.input.InputItem.{InputItem}
use Rattle.chex_base.specs.declared.input.InputItem.TheVariants as listed
use Rattle.star_syntax.specs.CellParts.{CellParts}

-- ---- keys

-- the inputs of a version: its names with their values
abbrev pub InputMap : Type 0
InputMap = List (List ℕ × Input)

-- a source, and names with their values or absence
abbrev pub Key : Type 0
Key = List ℕ × List (List ℕ × Option Input)

-- a name with its value under these inputs, or its absence
abbrev pub named : InputMap → List ℕ → List ℕ × Option Input
named inputs name = (name, value_of inputs name)

-- the key of a cell under the inputs of its version: its source with, for each of its input names, the value or absence
abbrev pub key_of : InputMap → CellParts → Key
key_of inputs cell = (cell.source, map (named inputs) cell.inputs)

-- ---- tests of sameness: each says whether two things are one and the same

unfoldable pub same_item : InputItem → InputItem → Bool
same_item listed.None listed.None = true
same_item (listed.Bool a) (listed.Bool b) = beq a b
same_item (listed.Int a) (listed.Int b) = int_eq a b
same_item (listed.Text a) (listed.Text b) = bytes_eq a b
same_item _ _ = false

unfoldable pub same_input : Input → Input → Bool
same_input whole.None whole.None = true
same_input (whole.Bool a) (whole.Bool b) = beq a b
same_input (whole.Int a) (whole.Int b) = int_eq a b
same_input (whole.Text a) (whole.Text b) = bytes_eq a b
same_input (whole.List a) (whole.List b) = pointwise same_item a b
same_input _ _ = false

unfoldable pub same_value : Option Input → Option Input → Bool
same_value None None = true
same_value (Some a) (Some b) = same_input a b
same_value _ _ = false

unfoldable pub same_named : List ℕ × Option Input → List ℕ × Option Input → Bool
same_named a b = bytes_eq a.0 b.0 && same_value a.1 b.1

unfoldable pub same_key : Key → Key → Bool
same_key a b = bytes_eq a.0 b.0 && pointwise same_named a.1 b.1

unfoldable pub same_keys : List Key → List Key → Bool
same_keys = pointwise same_key
