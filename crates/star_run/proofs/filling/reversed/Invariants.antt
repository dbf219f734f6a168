use Rattle.std.proofs.Common.{◌≡◌, ◌++◌, length, reverse}
use Rattle.star_run.proofs.filling.reversed.Given as goal

abbrev pub invariant-loop-value : goal.invariant-loop-value
invariant-loop-value l = l.values ++ reverse l.vec.items ≡ l.fn.values

abbrev pub decreases-loop-value : goal.decreases-loop-value
decreases-loop-value l = length l.values
