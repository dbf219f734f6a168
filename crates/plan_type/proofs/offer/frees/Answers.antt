use Rattle.std.proofs.Common.{arith, ap}
use Rattle.plan_type.specs.Offers.{offer_free}
use Rattle.plan_type.proofs.OfferLemmas.{free_room}
use Rattle.plan_type.proofs.offer.frees.Goals as goal

pub overflow_add-total : goal.overflow_add-total
overflow_add-total c = let a = free_room c.args.fees.now c.args.offers.now c.loop-offer.offer-index c.offer-item.result c.loop-offer-test.true in let e = ap (offer_free c.args.fees.now) c.offer-item.is in omega (arith, a, e)
