use Rattle.std.proofs.Common.{◌≡◌, ◌≤◌, ◌∙◌, arith, rules, sym, ap, subst, lit≤, Err, refl, []}
use Rattle.star_meaning.specs.Operators.{slice}
use Rattle.star_builtins.proofs.WeighedLemmas.{gives_weighed}
use Rattle.star_meaning.proofs.Keeping.{slice_keeps}
use Rattle.star_builtins.specs.Reached.{names, store}
use Rattle.star_run.specs.RunView.{running_of}
use Rattle.star_run.proofs.RunLemmas.{charge_stops, sound_operation, operation_gives, operation_goes, spends_weighed}
use Rattle.star_run.proofs.running.Run.slice.Goals as goal

pub returns-in_err-charge-clause-gives : goal.returns-in_err-charge-clause-gives
returns-in_err-charge-clause-gives c =
    let r : c.from_residual.result ≡ Err c.in_err-charge.field-0.0 = search rules in
    rw r (charge_stops (slice c.args.of.now (record { start = c.args.bounds.now.start; stop = c.args.bounds.now.stop; step = c.args.bounds.now.step })) _ _ c.in_err-charge.field-0.0 c.in_err-charge.ensures.gives)

pub invariant_of-self : goal.invariant_of-self
invariant_of-self c = sound_operation (running_of c.self.inside) c.charge.new.self c.slice-answer.new.machine c.self.view_is c.self.invariant c.slice-answer.ensures.follows (c.in_ok-charge.ensures.credit (lit≤ tt))

pub finish-requires-clause-spends : goal.finish-requires-clause-spends
finish-requires-clause-spends c =
    let s = store c.self.inside.machine c.self.inside.meter.left in
    spends_weighed (slice c.args.of.now (record { start = c.args.bounds.now.start; stop = c.args.bounds.now.stop; step = c.args.bounds.now.step }) s) c.self.inside.meter.left c.slice-answer.result (store c.slice-answer.new.machine c.slice-answer.new.meter.left) ((slice_keeps 0 [] c.args.of.now (record { start = c.args.bounds.now.start; stop = c.args.bounds.now.stop; step = c.args.bounds.now.step }) s).spent) (gives_weighed _ _ _ c.slice-answer.ensures.gives)

pub returns-clause-gives : goal.returns-clause-gives
returns-clause-gives c = operation_gives (slice c.args.of.now (record { start = c.args.bounds.now.start; stop = c.args.bounds.now.stop; step = c.args.bounds.now.step })) c.args.self.now (running_of c.self.inside) c.charge.new.self _ _ c.self.view_is c.in_ok-charge.ensures.gives (c.finish.ensures.gives _ (gives_weighed _ _ _ c.slice-answer.ensures.gives))

pub returns-clause-goes : goal.returns-clause-goes
returns-clause-goes c = operation_goes c.args.self.now (running_of c.self.inside) c.charge.new.self c.finish.new.self c.slice-answer.new.machine c.self.view_is c.charge.ensures.goes (c.in_ok-charge.ensures.paid (lit≤ tt)) c.slice-answer.ensures.follows c.finish.ensures.goes
