use Rattle.std.proofs.Common.{◌++◌, length, refl}
use Rattle.star_meaning.specs.Snapshot.{count_bytes}
use Rattle.snapshot_codec.specs.Writing.{number_in, pair_bytes_by}
use Rattle.snapshot_codec.proofs.WritingForms.{pair_more}
use Rattle.snapshot_codec.proofs.writing.put_pairs.Goals as goal

pub loop-place-preserved : goal.loop-place-preserved
loop-place-preserved c =
    pair_more (pair_bytes_by (number_in c.args.numbers.now.order.keys)) c.args.pairs.now c.loop-place.place (c.at.result.0.now, c.at.result.1.now) (c.args.out.now.items ++ count_bytes (length c.args.pairs.now)) c.loop-place.out.items _ _ _ _
    c.loop-place.invariant c.at.ensures c.in_ok-put_key.ensures c.in_ok-put_value.ensures refl
