use Rattle.snapshot_codec.proofs.Encoded.{id_low}
use Rattle.snapshot_codec.proofs.encoding.put_objects.Goals as goal

pub put_object-requires : goal.put_object-requires
put_object-requires c = id_low c.args.machine.now c.objects-kept.ensures.kept c.args.numbers.now.order.keys c.ids-ids.result.now c.loop-id.id-index c.requires c.ids-ids.ensures c.loop-id-test.true
