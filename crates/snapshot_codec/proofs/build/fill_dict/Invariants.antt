use Rattle.std.proofs.Common.{◌≡◌, slice_set, take}
use Rattle.star_meaning.specs.State.{ADict}
use Rattle.snapshot_codec.specs.Building.{with_objects}
use Rattle.snapshot_codec.proofs.build.fill_dict.Given as goal

abbrev pub invariant-loop-place : goal.invariant-loop-place
invariant-loop-place l = l.machine ≡ with_objects l.fn.machine (slice_set l.fn.machine.state.objects l.id (ADict (take l.place l.pairs)))
