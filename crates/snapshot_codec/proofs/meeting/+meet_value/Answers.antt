use Rattle.std.proofs.Common.{length, refl}
use Rattle.std.proofs.lemmas.Option.{slice_get_read}
use Rattle.star_meaning.specs.Snapshot.{references}
use Rattle.snapshot_codec.proofs.MeetingLaws.{met_more}
use Rattle.snapshot_codec.proofs.meeting.+meet_value.Goals as goal

pub meet_values-loop-value-preserved : goal.meet_values-loop-value-preserved
meet_values-loop-value-preserved t c =
    met_more references c.args.values.now c.loop-value.value-index c.value-item.result c.args.met.now.keys c.loop-value.met.keys c.meet_value.new.met.keys
    (slice_get_read c.args.values.now (length c.args.values.now) c.loop-value.value-index c.value-item.result refl c.loop-value-test.true c.value-item.is) c.loop-value.invariant c.in_ok-meet_value.ensures
