use Rattle.std.proofs.Common.{◌≡◌, ◌+◌, ◌≤◌, drop}
use Rattle.star_meaning.specs.Operators.{values_taken}
use Rattle.star_builtins.proofs.formatting.values_taken.Given as goal

abbrev pub invariant-loop-part : goal.invariant-loop-part
invariant-loop-part l = record {
  low : l.count ≤ l.part-index;
  all : l.count + values_taken (drop l.part-index l.parts) ≡ values_taken l.parts;
}
