use Rattle.std.proofs.Common.{◌≡◌, ◌≤◌, ◌∙◌, arith, rules, sym, ap, subst, lit≤, Err, refl, []}
use Rattle.star_meaning.specs.Operators.{index}
use Rattle.star_meaning.proofs.Keeping.{index_keeps}
use Rattle.star_builtins.proofs.WeighedLemmas.{gives_weighed}
use Rattle.star_builtins.specs.Reached.{GivesWeighed, store}
use Rattle.star_meaning.specs.Growing.{reached}
use Rattle.star_run.proofs.RunLemmas.{charge_stops, operation_gives, spends_weighed}
use Rattle.star_run.specs.Running.{Running}
use Rattle.star_run.proofs.running.Run.index.Goals as goal

pub returns-in_err-charge-clause-gives : goal.returns-in_err-charge-clause-gives
returns-in_err-charge-clause-gives c =
    let r : c.from_residual.result ≡ Err c.in_err-charge.field-0.0 = search rules in
    rw r (charge_stops (index c.args.of.now c.args.at.now) _ _ c.in_err-charge.field-0.0 c.in_err-charge.ensures.gives)

pub finish-requires-clause-spends : goal.finish-requires-clause-spends
finish-requires-clause-spends c =
    let s = store c.self.inside.machine c.self.inside.meter.left in
    spends_weighed (index c.args.of.now c.args.at.now s) c.charge.new.self.left c.index-answer.result (store c.self.inside.machine c.index-answer.new.meter.left)
    (subst (λ (x : Running). (reached (index c.args.of.now c.args.at.now s)).left ≤ x.left) c.self.view_is ((index_keeps 0 [] c.args.of.now c.args.at.now s).spent)) (gives_weighed _ _ _ c.index-answer.ensures.gives)

pub returns-clause-gives : goal.returns-clause-gives
returns-clause-gives c =
    operation_gives (index c.args.of.now c.args.at.now) c.args.self.now c.charge.new.self c.charge.new.self _ _ refl c.in_ok-charge.ensures.gives
    (c.finish.ensures.gives _ (subst (λ (x : Running). GivesWeighed (index c.args.of.now c.args.at.now (store x.machine x.left)) c.index-answer.result (store x.machine c.index-answer.new.meter.left)) c.self.view_is (gives_weighed _ _ _ c.index-answer.ensures.gives)))
