use Rattle.std.proofs.Common.{◌≡◌, ◌≤◌, ◌∙◌, arith, rules, sym, ap, subst, lit≤, Err, refl, []}
use Rattle.star_meaning.specs.Operators.{binary}
use Rattle.star_meaning.proofs.Keeping.{binary_keeps}
use Rattle.star_builtins.specs.Reached.{names, store}
use Rattle.star_run.specs.RunView.{running_of}
use Rattle.star_run.proofs.RunLemmas.{charge_stops, sound_operation, operation_gives, operation_goes, spends_weighed}
use Rattle.star_run.proofs.running.Run.binary.Goals as goal

pub returns-in_err-charge-clause-gives : goal.returns-in_err-charge-clause-gives
returns-in_err-charge-clause-gives c =
    let r : c.from_residual.result ≡ Err c.in_err-charge.field-0.0 = search rules in
    rw r (charge_stops (binary (names c.args.program.now) c.args.op c.args.left c.args.right) _ _ c.in_err-charge.field-0.0 c.in_err-charge.ensures.gives)

pub invariant_of-self : goal.invariant_of-self
invariant_of-self c = sound_operation (running_of c.self.inside) c.charge.new.self c.binary-answer.new.machine c.self.view_is c.self.invariant c.binary-answer.ensures.follows (c.in_ok-charge.ensures.credit (lit≤ tt))

pub finish-requires-clause-spends : goal.finish-requires-clause-spends
finish-requires-clause-spends c =
    let s = store c.self.inside.machine c.self.inside.meter.left in
    spends_weighed (binary (names c.args.program.now) c.args.op c.args.left c.args.right s) c.self.inside.meter.left c.binary-answer.result (store c.binary-answer.new.machine c.binary-answer.new.meter.left) ((binary_keeps 0 [] (names c.args.program.now) c.args.op c.args.left c.args.right s).spent) (c.binary-answer.ensures.gives)

pub returns-clause-gives : goal.returns-clause-gives
returns-clause-gives c = operation_gives (binary (names c.args.program.now) c.args.op c.args.left c.args.right) c.args.self.now (running_of c.self.inside) c.charge.new.self _ _ c.self.view_is c.in_ok-charge.ensures.gives (c.finish.ensures.gives _ (c.binary-answer.ensures.gives))

pub returns-clause-goes : goal.returns-clause-goes
returns-clause-goes c = operation_goes c.args.self.now (running_of c.self.inside) c.charge.new.self c.finish.new.self c.binary-answer.new.machine c.self.view_is c.charge.ensures.goes (c.in_ok-charge.ensures.paid (lit≤ tt)) c.binary-answer.ensures.follows c.finish.ensures.goes
