use Rattle.std.proofs.Common.{◌≡◌, take}
use Rattle.std.specs.List.{flat_map}
use Rattle.star_meaning.specs.Snapshot.{references}
use Rattle.snapshot_codec.specs.Meeting.{met_with}
use Rattle.snapshot_codec.proofs.meeting.+meet_value.Given as goal

abbrev pub invariant-meet_values-loop-value : goal.invariant-meet_values-loop-value
invariant-meet_values-loop-value l = l.met.keys ≡ met_with l.fn.met.keys (flat_map references (take l.value-index l.values))
