-- The inputs of a version as a finite map: pairs of a name and its value, with the names in rising
-- byte order, so that each name stands once.
use Rattle.std.specs.Prelude.{ℕ, List, Option}
use Rattle.std.specs.BTreeMap.{insert_entry, is_at}
use Rattle.std.specs.List.Sorted.{IsStrictlySortedBy}
use Rattle.std.specs.Map.{keys_of, lookup}
use Rattle.chex_base.specs.TextOrder.{text_cmp}
use Rattle.chex_base.specs.declared.input.Input.{Input}

-- the value of a name, or none
abbrev pub value_of : List (List ℕ × Input) → List ℕ → Option Input
value_of inputs name = lookup (is_at (text_cmp name)) inputs

-- the same map with this value at this name: the value takes the place of one that stands there,
-- and a new name goes to its place in the order
abbrev pub with_value : List (List ℕ × Input) → List ℕ → Input → List (List ℕ × Input)
with_value inputs name value = insert_entry text_cmp inputs name value

-- the names rise in byte order
abbrev pub IsRising : List (List ℕ × Input) → Type 0
IsRising inputs = IsStrictlySortedBy text_cmp (keys_of inputs)
