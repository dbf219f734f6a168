use Rattle.std.proofs.Common.{◌≡◌, map, take}
use Rattle.star_value.specs.declared.value.Value.TheVariants as value
use Rattle.star_builtins.proofs.functions.sorting.numbers_as_values.Given as goal

abbrev pub invariant-loop-number : goal.invariant-loop-number
invariant-loop-number l = l.items ≡ map value.Int (take l.number-index l.numbers)
