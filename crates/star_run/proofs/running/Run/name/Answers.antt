use Rattle.std.proofs.Common.{◌≡◌, ◌≤◌, ◌∙◌, arith, rules, sym, ap, subst, lit≤, Err, refl, []}
use Rattle.star_run.specs.RunView.{running_of}
use Rattle.star_meaning.specs.World.{look_up}
use Rattle.star_run.proofs.RunLemmas.{held_fits, name_builtin, name_fits, name_held, name_stops, name_unbound, paid_goes}
use Rattle.star_run.proofs.running.Run.name.Goals as goal

pub returns-in_err-charge-clause-gives : goal.returns-in_err-charge-clause-gives
returns-in_err-charge-clause-gives c =
    let r : c.from_residual.result ≡ Err c.in_err-charge.field-0.0 = search rules in
    rw r (name_stops (look_up c.args.name.now) _ _ c.in_err-charge.field-0.0 c.in_err-charge.ensures.gives)

pub returns-in-Held-clause-gives : goal.returns-in-Held-clause-gives
returns-in-Held-clause-gives c =
    name_held c.args.name.now c.args.self.now (running_of c.self.inside) c.charge.new.self c.in-Held.value.now c.paid_copy.result c.paid_copy.new.meter.left c.self.view_is c.in_ok-charge.ensures.gives c.in-Held.ensures.value c.paid_copy.ensures.gives

pub returns-in-Held-clause-goes : goal.returns-in-Held-clause-goes
returns-in-Held-clause-goes c = paid_goes c.args.self.now (running_of c.self.inside) c.charge.new.self c.paid_copy.new.meter.left c.self.view_is c.charge.ensures.goes c.paid_copy.ensures.spent

pub returns-in-Held-clause-fits : goal.returns-in-Held-clause-fits
returns-in-Held-clause-fits c =
    held_fits c.self.inside.machine c.in-Held.value.now _ c.paid_copy.result c.paid_copy.new.meter.left c.paid_copy.ensures.gives
    (name_fits (running_of c.self.inside) c.args.name.now c.in-Held.value.now c.in-Held.ensures.kept c.self.invariant c.in-Held.ensures.value)

pub returns-in-Builtin-clause-gives : goal.returns-in-Builtin-clause-gives
returns-in-Builtin-clause-gives c =
    rw c.builtin_value.ensures.is (name_builtin c.args.name.now c.args.self.now (running_of c.self.inside) c.charge.new.self c.in-Builtin.which c.self.view_is c.in_ok-charge.ensures.gives c.in-Builtin.ensures.value)

pub returns-in-Nowhere-clause-gives : goal.returns-in-Nowhere-clause-gives
returns-in-Nowhere-clause-gives c = name_unbound c.args.name.now c.args.self.now (running_of c.self.inside) c.charge.new.self c.self.view_is c.in_ok-charge.ensures.gives c.in-Nowhere.ensures.value
