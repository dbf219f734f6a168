use Rattle.std.proofs.Common.{List, ℕ}
use Rattle.std.proofs.lemmas.Map.Iter.{rest_more}
use Rattle.std.specs.Map.Iter.{deref_pair}
use Rattle.star_value.specs.declared.value.Value.{Value}
use Rattle.star_meaning.specs.Snapshot.{references}
use Rattle.snapshot_codec.proofs.MeetingLaws.{met_rest}
use Rattle.snapshot_codec.proofs.meeting.meet_globals.Goals as goal

pub loop-value-preserved : goal.loop-value-preserved
loop-value-preserved c =
    met_rest (λ (entry : List ℕ × Value). references entry.1) c.loop-value.met.keys c.meet_value.new.met.keys _ (c.in-Some.field-0-0.now, c.in-Some.value.now) c.loop-value.value-iterator c.next.new.self
    (rest_more deref_pair c.loop-value.value-iterator c.next.new.self c.next.result (c.in-Some.field-0-0, c.in-Some.value) c.in-Some.is c.next.ensures.steps) c.in_ok-meet_value.ensures c.loop-value.invariant
