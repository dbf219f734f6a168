use Rattle.std.proofs.Common.{◌≡◌, ◌++◌, map, reverse, length}
use Rattle.star_value.specs.declared.value.Value.TheVariants as value
use Rattle.star_meaning.specs.Validity.{MachineState}
use Rattle.star_builtins.specs.Reached.{AllFit}
use Rattle.star_builtins.proofs.text_methods.into_values.Given as goal

abbrev pub invariant-loop-part : goal.invariant-loop-part
invariant-loop-part l = record {
  all : map value.Text l.parts ++ reverse l.pieces.items ≡ map value.Text l.fn.parts;
  fit : (m : MachineState) → AllFit m (reverse l.pieces.items);
}

abbrev pub decreases-loop-part : goal.decreases-loop-part
decreases-loop-part l = length l.parts
