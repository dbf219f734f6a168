use Rattle.std.proofs.Common.{◌≡◌, take}
use Rattle.std.specs.List.{flat_map}
use Rattle.star_meaning.specs.Snapshot.{references}
use Rattle.snapshot_codec.specs.Meeting.{met_with}
use Rattle.snapshot_codec.proofs.meeting.meet_pairs.Given as goal

abbrev pub invariant-loop-place : goal.invariant-loop-place
invariant-loop-place l = l.met.keys ≡ met_with l.fn.met.keys (flat_map (λ pair. references pair.1) (take l.place l.pairs))
