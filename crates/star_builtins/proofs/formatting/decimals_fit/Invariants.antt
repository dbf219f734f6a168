use Rattle.std.proofs.Common.{◌≡◌, ◌≤◌, drop}
use Rattle.star_meaning.specs.Operators.{decimals_fit}
use Rattle.star_builtins.proofs.formatting.decimals_fit.Given as goal

abbrev pub invariant-loop-part : goal.invariant-loop-part
invariant-loop-part l = record {
  low : l.at ≤ l.part-index;
  all : decimals_fit (drop l.part-index l.parts) (drop l.at l.values) ≡ decimals_fit l.parts l.values;
}
