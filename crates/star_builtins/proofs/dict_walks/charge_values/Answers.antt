use Rattle.std.proofs.Common.{rules}
use Rattle.star_builtins.proofs.PairWalks.{value_more, value_stop}
use Rattle.star_builtins.proofs.dict_walks.charge_values.Goals as goal

pub returns-in_err-charge_weight : goal.returns-in_err-charge_weight
returns-in_err-charge_weight c =
    let stop = value_stop c.args.pairs.now c.loop-place.place _ _ c.at.ensures c.loop-place.meter.left _ _ _ c.in_err-charge_weight.ensures c.loop-place.invariant in
    search (rules, stop)

pub loop-place-preserved : goal.loop-place-preserved
loop-place-preserved c = value_more c.args.pairs.now c.loop-place.place _ _ c.at.ensures c.loop-place.meter.left _ _ _ c.in_ok-charge_weight.ensures c.loop-place.invariant
