use Rattle.std.proofs.Common.{◌-◌, ◌^◌, sym}
use Rattle.std.proofs.lemmas.Option.{get_or_from_slice_get, slice_get_within}
use Rattle.star_meaning.specs.Snapshot.{pair_bytes}
use Rattle.snapshot_codec.proofs.Sizes.{size_more}
use Rattle.snapshot_codec.proofs.measures.pairs_size.Goals as goal

pub loop-place-preserved : goal.loop-place-preserved
loop-place-preserved c =
    size_more pair_bytes c.args.pairs.now c.loop-place.place (c.at.result.0.now, c.at.result.1.now) c.pair_size-pair.result c.loop-place.size c.saturating_add-size.result (2 ^ 64 - 1)
    (slice_get_within c.args.pairs.now c.loop-place.place (c.at.result.0.now, c.at.result.1.now) c.at.ensures)
    (sym (get_or_from_slice_get c.args.pairs.now c.loop-place.place (c.at.result.0.now, c.at.result.1.now) (c.at.result.0.now, c.at.result.1.now) c.at.ensures)) c.pair_size-pair.ensures c.loop-place.invariant
    c.saturating_add-size.ensures
