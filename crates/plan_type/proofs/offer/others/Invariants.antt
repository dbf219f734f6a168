use Rattle.std.proofs.Common.{◌≡◌, take, sum_by}
use Rattle.plan_type.specs.Offers.{offer_other}
use Rattle.plan_type.proofs.offer.others.Given as goal

abbrev pub invariant-loop-offer : goal.invariant-loop-offer
invariant-loop-offer l = l.total ≡ sum_by (offer_other l.fees) (take l.offer-index l.offers)
