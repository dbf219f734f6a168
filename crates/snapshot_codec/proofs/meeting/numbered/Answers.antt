use Rattle.snapshot_codec.proofs.Canons.{order_few}
use Rattle.snapshot_codec.proofs.meeting.numbered.Goals as goal

pub new-numbers-requires : goal.new-numbers-requires
new-numbers-requires c = order_few c.args.machine.now c.objects-kept.ensures.kept c.in_ok-order.order.keys c.in_ok-order.ensures
