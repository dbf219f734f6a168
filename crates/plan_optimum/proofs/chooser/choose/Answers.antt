use Rattle.std.proofs.Common.{rules, ◌≡◌, ◌∙◌, ◌∷◌, ◌++◌, [], ap, sym, subst, map, false, true, length, ◌<◌, get_or}
use Rattle.std.specs.Prelude.{nat_lt}
use Rattle.plan_type.specs.Offers.{no_offer, offers_free, offers_held, offer_saving, most_saved}
use Rattle.plan_optimum.specs.Chosen.{free_pick, other_pick}
use Rattle.plan_optimum.proofs.Choosing.{chosen_free, chosen_held, if_ok}
use Rattle.plan_optimum.proofs.chooser.choose.Goals as goal

pub returns-then-not-is_worth_holding : goal.returns-then-not-is_worth_holding
returns-then-not-is_worth_holding c c' can vs are is =
    let fees = c.args.fees.now in
    let off : c.is_worth_holding.result ≡ false = search rules in
    let less = sym (c.is_worth_holding.ensures ∙ ap (λ l. nat_lt (offers_held fees l) (offers_free fees l)) c.deref.ensures.value) ∙ off in
    if_ok c.free.result (λ picks e. chosen_free c' can vs fees c.args.offers.items picks.items are is less (e ∙ ap (map free_pick) c.deref-then-not-is_worth_holding.ensures.value)) c.free.ensures

pub returns : goal.returns
returns c c' can vs are is =
    let fees = c.args.fees.now in
    let on : c.is_worth_holding.result ≡ true = search rules in
    let less = sym (c.is_worth_holding.ensures ∙ ap (λ l. nat_lt (offers_held fees l) (offers_free fees l)) c.deref.ensures.value) ∙ on in
    let within = subst (λ l. c.place_of_last-place.result < length l) c.deref-2.ensures.value c.place_of_last-place.ensures.within in
    let saved = subst (λ l. offer_saving fees (get_or l c.place_of_last-place.result no_offer) ≡ most_saved fees l) c.deref-2.ensures.value c.place_of_last-place.ensures.most in
    chosen_held c' can vs fees c.args.offers.items c.remove-last.new.self.items c.place_of_last-place.result c.remove-last.result c.args.priced c.holds_last-hold.result c.in_ok-others.others.items c.in_ok-picks.picks.items c.push.new.self.items
    are is less within saved c.remove-last.ensures.value c.remove-last.ensures.items c.holds_last-hold.ensures (c.in_ok-others.ensures ∙ ap (map (other_pick fees)) c.deref-3.ensures.value) c.in_ok-picks.ensures c.requires.priced
    (c.in_ok-push.ensures.items ∙ ap (λ p. c.in_ok-picks.picks.items ++ p ∷ []) c.pick.ensures)
