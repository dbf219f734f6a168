use Rattle.std.proofs.Common.{sym, arith, map}
use Rattle.snapshot_codec.specs.Contents.{object_of}
use Rattle.snapshot_codec.proofs.DefinedLaws.{pair_fails, pair_passes, pairs_end}
use Rattle.snapshot_codec.proofs.refers.pairs_fit.Goals as goal

pub returns-then-not-fits : goal.returns-then-not-fits
returns-then-not-fits c = pair_fails (map object_of c.args.objects.now) c.args.pairs.now c.loop-place.place _ c.at.ensures (sym c.if-not-fits.ensures) c.loop-place.invariant

pub loop-place-preserved : goal.loop-place-preserved
loop-place-preserved c = pair_passes (map object_of c.args.objects.now) c.args.pairs.now c.loop-place.place _ c.at.ensures (sym c.if-not-fits.ensures) c.loop-place.invariant

pub returns : goal.returns
returns c = pairs_end (map object_of c.args.objects.now) c.args.pairs.now c.loop-place.place (omega arith) c.loop-place.invariant
