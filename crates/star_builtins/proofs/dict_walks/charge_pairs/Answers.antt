use Rattle.std.proofs.Common.{rules}
use Rattle.star_builtins.proofs.PairWalks.{flat_more, flat_stop}
use Rattle.star_builtins.proofs.dict_walks.charge_pairs.Goals as goal

pub returns-in_err-charge_pair : goal.returns-in_err-charge_pair
returns-in_err-charge_pair c =
    let stop = flat_stop c.args.pairs.now c.loop-place.place _ _ c.at.ensures c.loop-place.meter.left _ _ _ c.in_err-charge_pair.ensures c.loop-place.invariant in
    search (rules, stop)

pub loop-place-preserved : goal.loop-place-preserved
loop-place-preserved c = flat_more c.args.pairs.now c.loop-place.place _ _ c.at.ensures c.loop-place.meter.left _ _ _ c.in_ok-charge_pair.ensures c.loop-place.invariant
