use Rattle.std.proofs.Common.{◌≡◌, ◌≤◌, ◌∙◌, arith, rules, sym, ap, subst, lit≤, Err, refl, []}
use Rattle.star_meaning.specs.Methods.{call_method}
use Rattle.star_meaning.specs.Expressions.{method_called}
use Rattle.star_builtins.specs.Reached.{GivesWeighed}
use Rattle.star_meaning.proofs.Keeping.{method_keeps}
use Rattle.star_builtins.specs.Reached.{names, store}
use Rattle.star_run.specs.RunView.{running_of}
use Rattle.star_run.proofs.RunLemmas.{charge_stops, sound_operation, operation_gives, operation_goes, spends_weighed}
use Rattle.star_run.proofs.running.Run.method.Goals as goal

pub returns-in_err-charge-clause-gives : goal.returns-in_err-charge-clause-gives
unfolding method_called
returns-in_err-charge-clause-gives c =
    let r : c.from_residual.result ≡ Err c.in_err-charge.field-0.0 = search rules in
    rw r (charge_stops (call_method c.args.self.now.frame.locked c.args.name.now c.args.of.now c.args.call.positional c.args.call.named) _ _ c.in_err-charge.field-0.0 c.in_err-charge.ensures.gives)

pub invariant_of-self : goal.invariant_of-self
invariant_of-self c = sound_operation (running_of c.self.inside) c.charge.new.self c.call_method-answer.new.machine c.self.view_is c.self.invariant c.call_method-answer.ensures.follows (c.in_ok-charge.ensures.credit (lit≤ tt))

pub finish-requires-clause-spends : goal.finish-requires-clause-spends
finish-requires-clause-spends c =
    let s = store c.self.inside.machine c.self.inside.meter.left in
    spends_weighed (call_method c.args.self.now.frame.locked c.args.name.now c.args.of.now c.args.call.positional c.args.call.named s) c.self.inside.meter.left c.call_method-answer.result (store c.call_method-answer.new.machine c.call_method-answer.new.meter.left) ((method_keeps 0 c.args.self.now.frame.locked c.args.name.now c.args.of.now c.args.call.positional c.args.call.named s).spent) (subst (λ l. GivesWeighed (call_method l c.args.name.now c.args.of.now c.args.call.positional c.args.call.named (store c.self.inside.machine c.self.inside.meter.left)) c.call_method-answer.result (store c.call_method-answer.new.machine c.call_method-answer.new.meter.left)) (ap (λ r. r.frame.locked) (c.self.view_is ∙ c.charge.ensures.same)) c.call_method-answer.ensures.gives)

pub returns-clause-gives : goal.returns-clause-gives
unfolding method_called
returns-clause-gives c = operation_gives (call_method c.args.self.now.frame.locked c.args.name.now c.args.of.now c.args.call.positional c.args.call.named) c.args.self.now (running_of c.self.inside) c.charge.new.self _ _ c.self.view_is c.in_ok-charge.ensures.gives (c.finish.ensures.gives _ (subst (λ l. GivesWeighed (call_method l c.args.name.now c.args.of.now c.args.call.positional c.args.call.named (store c.self.inside.machine c.self.inside.meter.left)) c.call_method-answer.result (store c.call_method-answer.new.machine c.call_method-answer.new.meter.left)) (ap (λ r. r.frame.locked) (c.self.view_is ∙ c.charge.ensures.same)) c.call_method-answer.ensures.gives))

pub returns-clause-goes : goal.returns-clause-goes
returns-clause-goes c = operation_goes c.args.self.now (running_of c.self.inside) c.charge.new.self c.finish.new.self c.call_method-answer.new.machine c.self.view_is c.charge.ensures.goes (c.in_ok-charge.ensures.paid (lit≤ tt)) c.call_method-answer.ensures.follows c.finish.ensures.goes
