use Rattle.std.proofs.Common.{◌≡◌, ◌≤◌, ◌∙◌, arith, rules, sym, ap, subst, lit≤, Err, refl, []}
use Rattle.star_meaning.specs.Operators.{unary}
use Rattle.star_meaning.proofs.Keeping.{unary_keeps}
use Rattle.star_builtins.proofs.WeighedLemmas.{gives_weighed}
use Rattle.star_builtins.specs.Reached.{GivesWeighed, store}
use Rattle.star_meaning.specs.Growing.{reached}
use Rattle.star_run.proofs.RunLemmas.{charge_stops, operation_gives, spends_weighed}
use Rattle.star_run.specs.Running.{Running}
use Rattle.star_run.proofs.running.Run.sign.Goals as goal

pub returns-in_err-charge-clause-gives : goal.returns-in_err-charge-clause-gives
returns-in_err-charge-clause-gives c =
    let r : c.from_residual.result ≡ Err c.in_err-charge.field-0.0 = search rules in
    rw r (charge_stops (unary c.args.op c.args.operand) _ _ c.in_err-charge.field-0.0 c.in_err-charge.ensures.gives)

pub finish-requires-clause-spends : goal.finish-requires-clause-spends
finish-requires-clause-spends c =
    let s = store c.self.inside.machine c.self.inside.meter.left in
    spends_weighed (unary c.args.op c.args.operand s) c.charge.new.self.left c.turned-answer.result (store c.self.inside.machine c.turned-answer.new.meter.left)
    (subst (λ (x : Running). (reached (unary c.args.op c.args.operand s)).left ≤ x.left) c.self.view_is ((unary_keeps 0 [] c.args.op c.args.operand s).spent)) (gives_weighed _ _ _ (c.turned-answer.ensures.gives c.self.inside.machine))

pub returns-clause-gives : goal.returns-clause-gives
returns-clause-gives c =
    operation_gives (unary c.args.op c.args.operand) c.args.self.now c.charge.new.self c.charge.new.self _ _ refl c.in_ok-charge.ensures.gives
    (c.finish.ensures.gives _ (subst (λ (x : Running). GivesWeighed (unary c.args.op c.args.operand (store x.machine x.left)) c.turned-answer.result (store x.machine c.turned-answer.new.meter.left)) c.self.view_is (gives_weighed _ _ _ (c.turned-answer.ensures.gives c.self.inside.machine))))
