use Rattle.std.proofs.Common.{◌≡◌, map}
use Rattle.star_value.specs.declared.value.Value.TheVariants as value
use Rattle.star_builtins.proofs.functions.sorting.texts_as_values.Given as goal

abbrev pub invariant-loop-text : goal.invariant-loop-text
invariant-loop-text l = l.items ≡ map value.Text l.yielded
