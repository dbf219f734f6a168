use Rattle.star_builtins.proofs.Keyed.{copied_more}
use Rattle.star_builtins.proofs.functions.pairing.copied_pairs.Goals as goal

pub loop-place-preserved : goal.loop-place-preserved
loop-place-preserved c =
    rw (c.in_ok-put.ensures.ok, c.in_ok-copy.ensures, c.in_ok-copy-2.ensures, c.loop-place.invariant) (copied_more c.args.pairs.now c.loop-place.place _ _ c.requires c.at.ensures)
