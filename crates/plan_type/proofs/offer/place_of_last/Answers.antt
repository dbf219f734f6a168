use Rattle.std.proofs.Common.{arith, ◌+◌, ◌∙◌, sym, subst, ap}
use Rattle.plan_type.specs.Offers.{no_offer, offer_saving}
use Rattle.plan_type.proofs.OfferLemmas.{any_default, Found, found_here, found_before}
use Rattle.plan_type.proofs.offer.place_of_last.Goals.{then-saving-most, else-saving-most}
use Rattle.plan_type.proofs.offer.place_of_last.Goals as goal

pub loop-at-preserved : goal.loop-at-preserved
loop-at-preserved c =
    let F = Found c.args.fees.now c.args.offers.now (c.loop-at.at + 1) in
    let own = c.saving-saving.ensures ∙ ap (offer_saving c.args.fees.now) (c.index-offers-at.is ∙ any_default c.args.offers.now c.loop-at.at c.index-offers-at.result no_offer c.loop-at-test.true) in
    elim c.if-saving-most.branch [
      | then-saving-most w ↦ subst (λ p. F p c.if-saving-most.most) (sym w.place-is) (subst (F c.loop-at.at) (sym w.most-is)
          (found_here c.args.fees.now c.args.offers.now c.loop-at.at c.loop-at.place c.loop-at.most c.saving-saving.result c.loop-at.invariant c.loop-at-test.true own (omega arith)))
      | else-saving-most w ↦ subst (λ p. F p c.if-saving-most.most) (sym w.place-is) (subst (F c.loop-at.place) (sym w.most-is)
          (found_before c.args.fees.now c.args.offers.now c.loop-at.at c.loop-at.place c.loop-at.most c.saving-saving.result c.loop-at.invariant c.loop-at-test.true own (omega arith)))
    ]
