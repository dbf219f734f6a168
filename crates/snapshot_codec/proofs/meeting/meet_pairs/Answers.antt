use Rattle.star_value.specs.declared.key.Key.{Key}
use Rattle.star_value.specs.declared.value.Value.{Value}
use Rattle.star_meaning.specs.Snapshot.{references}
use Rattle.snapshot_codec.proofs.MeetingLaws.{met_more}
use Rattle.snapshot_codec.proofs.meeting.meet_pairs.Goals as goal

pub loop-place-preserved : goal.loop-place-preserved
loop-place-preserved c =
    met_more (λ (pair : Key × Value). references pair.1) c.args.pairs.now c.loop-place.place (c.at.result.0.now, c.at.result.1.now) c.args.met.now.keys c.loop-place.met.keys c.meet_value.new.met.keys c.at.ensures c.loop-place.invariant
    c.in_ok-meet_value.ensures
