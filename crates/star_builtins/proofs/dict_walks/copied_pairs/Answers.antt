use Rattle.star_builtins.proofs.WalkLemmas.{pushed}
use Rattle.star_builtins.proofs.dict_walks.copied_pairs.Goals as goal

pub loop-place-preserved : goal.loop-place-preserved
loop-place-preserved c = rw (c.in_ok-push.ensures.items, c.in_ok-key.ensures, c.in_ok-held.ensures) (pushed c.loop-place.copies.items c.args.pairs.now c.loop-place.place _ c.at.ensures c.loop-place.invariant)
