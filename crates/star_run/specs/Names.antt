-- The built-in functions by the bytes of their names.
use Rattle.std.specs.Prelude.{ℕ, Bool, true, false, if◌then◌else◌, List, Option, Some, None, codes, bytes_eq}
use Rattle.star_value.specs.declared.builtin.Builtin.{Builtin}
use Rattle.star_value.specs.declared.builtin.Builtin.TheVariants as builtin

abbrev pub builtin_named : List ℕ → Option Builtin
builtin_named name =
    if bytes_eq name (codes "abs") then Some builtin.Abs
    else if bytes_eq name (codes "all") then Some builtin.All
    else if bytes_eq name (codes "any") then Some builtin.Any
    else if bytes_eq name (codes "bool") then Some builtin.Bool
    else if bytes_eq name (codes "dict") then Some builtin.Dict
    else if bytes_eq name (codes "enumerate") then Some builtin.Enumerate
    else if bytes_eq name (codes "int") then Some builtin.Int
    else if bytes_eq name (codes "len") then Some builtin.Len
    else if bytes_eq name (codes "list") then Some builtin.List
    else if bytes_eq name (codes "max") then Some builtin.Max
    else if bytes_eq name (codes "min") then Some builtin.Min
    else if bytes_eq name (codes "print") then Some builtin.Print
    else if bytes_eq name (codes "range") then Some builtin.Range
    else if bytes_eq name (codes "repr") then Some builtin.Repr
    else if bytes_eq name (codes "reversed") then Some builtin.Reversed
    else if bytes_eq name (codes "sorted") then Some builtin.Sorted
    else if bytes_eq name (codes "str") then Some builtin.Str
    else if bytes_eq name (codes "tuple") then Some builtin.Tuple
    else if bytes_eq name (codes "type") then Some builtin.Type
    else if bytes_eq name (codes "zip") then Some builtin.Zip
    else None
