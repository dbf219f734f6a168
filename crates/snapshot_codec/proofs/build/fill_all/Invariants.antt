use Rattle.std.proofs.Common.{length}
use Rattle.snapshot_codec.proofs.Building.{Fills}
use Rattle.snapshot_codec.proofs.build.fill_all.Given as goal

abbrev pub invariant-loop-object : goal.invariant-loop-object
invariant-loop-object l = Fills l.fn.machine l.machine l.fn.objects l.objects

abbrev pub decreases-loop-object : goal.decreases-loop-object
decreases-loop-object l = length l.objects
