use Rattle.snapshot_codec.proofs.MeetingLaws.{Walked}
use Rattle.snapshot_codec.proofs.meeting.reached.Given as goal

abbrev pub invariant-loop-place : goal.invariant-loop-place
invariant-loop-place l = Walked l.machine l.met.keys l.place
