use Rattle.std.proofs.Common.{◌≡◌, ◌≤◌, ◌∙◌, arith, rules, sym, ap, subst, lit≤, Err, refl, []}
use Rattle.star_meaning.specs.Expressions.{compared}
use Rattle.star_run.proofs.RunLemmas.{compared_keeps}
use Rattle.star_builtins.proofs.WeighedLemmas.{gives_weighed}
use Rattle.star_builtins.specs.Reached.{GivesWeighed, store}
use Rattle.star_meaning.specs.Growing.{reached}
use Rattle.star_run.proofs.RunLemmas.{charge_stops, operation_gives, spends_weighed}
use Rattle.star_run.specs.Running.{Running}
use Rattle.star_run.proofs.running.Run.compared.Goals as goal

pub returns-in_err-charge-clause-gives : goal.returns-in_err-charge-clause-gives
returns-in_err-charge-clause-gives c =
    let r : c.from_residual.result ≡ Err c.in_err-charge.field-0.0 = search rules in
    rw r (charge_stops (compared c.args.op c.args.left.now c.args.right.now) _ _ c.in_err-charge.field-0.0 c.in_err-charge.ensures.gives)

pub finish-requires-clause-spends : goal.finish-requires-clause-spends
finish-requires-clause-spends c =
    let s = store c.self.inside.machine c.self.inside.meter.left in
    spends_weighed (compared c.args.op c.args.left.now c.args.right.now s) c.charge.new.self.left c.comparison-answer.result (store c.self.inside.machine c.comparison-answer.new.meter.left)
    (subst (λ (x : Running). (reached (compared c.args.op c.args.left.now c.args.right.now s)).left ≤ x.left) c.self.view_is (compared_keeps c.args.op c.args.left.now c.args.right.now s)) (gives_weighed _ _ _ c.comparison-answer.ensures.gives)

pub returns-clause-gives : goal.returns-clause-gives
returns-clause-gives c =
    operation_gives (compared c.args.op c.args.left.now c.args.right.now) c.args.self.now c.charge.new.self c.charge.new.self _ _ refl c.in_ok-charge.ensures.gives
    (c.finish.ensures.gives _ (subst (λ (x : Running). GivesWeighed (compared c.args.op c.args.left.now c.args.right.now (store x.machine x.left)) c.comparison-answer.result (store x.machine c.comparison-answer.new.meter.left)) c.self.view_is (gives_weighed _ _ _ c.comparison-answer.ensures.gives)))
