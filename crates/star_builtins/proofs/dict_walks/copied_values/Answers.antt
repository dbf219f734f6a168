use Rattle.star_builtins.proofs.PairWalks.{value_pushed}
use Rattle.star_builtins.proofs.dict_walks.copied_values.Goals as goal

pub loop-place-preserved : goal.loop-place-preserved
loop-place-preserved c = rw (c.in_ok-push.ensures.ok, c.in_ok-copy.ensures) (value_pushed c.args.pairs.now c.loop-place.place _ _ c.at.ensures c.loop-place.copies c.loop-place.invariant)
