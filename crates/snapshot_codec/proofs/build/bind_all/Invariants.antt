use Rattle.std.proofs.Common.{length}
use Rattle.snapshot_codec.proofs.Building.{Binds}
use Rattle.snapshot_codec.proofs.build.bind_all.Given as goal

abbrev pub invariant-loop-name : goal.invariant-loop-name
invariant-loop-name l = Binds l.fn.machine l.machine l.fn.globals l.globals

abbrev pub decreases-loop-name : goal.decreases-loop-name
decreases-loop-name l = length l.globals
