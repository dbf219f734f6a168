use Rattle.plan_type.proofs.OfferLemmas.{Found}
use Rattle.plan_type.proofs.offer.place_of_last.Given as goal

abbrev pub invariant-loop-at : goal.invariant-loop-at
invariant-loop-at l = Found l.fees l.offers l.at l.place l.most
