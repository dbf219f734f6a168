use Rattle.std.proofs.Common.{◌≡◌}
use Rattle.star_meaning.specs.Expressions.{turned}
use Rattle.star_run.proofs.plain.turned.Given as goal

abbrev pub invariant-loop-place : goal.invariant-loop-place
invariant-loop-place l = l.turned ≡ turned l._place l.truth
