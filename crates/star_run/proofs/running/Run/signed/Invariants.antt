use Rattle.std.proofs.Common.{◌≡◌, ◌≤◌, length, take}
use Rattle.star_builtins.specs.Reached.{Fits}
use Rattle.star_meaning.specs.Expressions.{signed}
use Rattle.star_run.specs.Running.{Goes, world}
use Rattle.star_run.proofs.running.Run.signed.Given as goal

abbrev pub invariant-loop-left : goal.invariant-loop-left
invariant-loop-left l = record {
  within : l.left ≤ length l.signs;
  same : signed (take l.left l.signs) l.value (world l.self) ≡ signed l.signs l.fn.operand (world l.fn.self);
  goes : Goes l.fn.self l.self;
  fits : Fits l.self.machine l.value;
}

abbrev pub decreases-loop-left : goal.decreases-loop-left
decreases-loop-left l = l.left
