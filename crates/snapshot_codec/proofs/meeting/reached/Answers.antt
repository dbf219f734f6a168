use Rattle.std.proofs.Common.{arith, sym}
use Rattle.snapshot_codec.proofs.MeetingLaws.{walked_all, walked_low, walked_more, walked_short}
use Rattle.snapshot_codec.proofs.meeting.reached.Goals as goal

pub meet_object-requires : goal.meet_object-requires
meet_object-requires c = walked_low c.args.machine.now c.loop-place.met.keys c.loop-place.place c.loop-place.invariant c.in-Some.id c.objects-count.ensures.kept (sym c.in-Some.ensures)

pub loop-place-preserved : goal.loop-place-preserved
loop-place-preserved c =
    walked_more c.args.machine.now c.loop-place.met.keys c.loop-place.place c.loop-place.invariant c.in-Some.id c.meet_object.new.met.keys (sym c.in-Some.ensures) c.in_ok-meet_object.ensures

pub returns : goal.returns
returns c =
    walked_all c.args.machine.now c.loop-place.met.keys c.loop-place.place c.loop-place.invariant
    (let short = walked_short c.args.machine.now c.loop-place.met.keys c.loop-place.place c.loop-place.invariant c.objects-count.ensures.kept in let all = c.objects-count.ensures.value in let done = c.loop-place-test.false in omega (arith, short, all, done))
