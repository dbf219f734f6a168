use Rattle.std.proofs.Common.{length}
use Rattle.snapshot_codec.proofs.Building.{Sets}
use Rattle.snapshot_codec.proofs.build.fill_defaults.Given as goal

abbrev pub invariant-loop-value : goal.invariant-loop-value
invariant-loop-value l = Sets l.fn.machine l.machine l.fn.id l.fn.values l.values

abbrev pub decreases-loop-value : goal.decreases-loop-value
decreases-loop-value l = length l.values
