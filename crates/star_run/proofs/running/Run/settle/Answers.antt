use Rattle.std.proofs.Common.{◌≡◌, ◌≤◌, ◌∙◌, arith, rules, sym, ap, subst, lit≤, Err, refl}
use Rattle.star_run.specs.RunView.{running_of}
use Rattle.star_run.proofs.RunLemmas.{settle_goes, spends_failed}
use Rattle.star_value.specs.declared.stop.Stop.TheVariants as stop
use Rattle.star_run.proofs.running.Run.settle.Goals as goal

pub returns-in-Ok-clause-goes : goal.returns-in-Ok-clause-goes
returns-in-Ok-clause-goes g c = settle_goes (running_of c.self.inside) c.args.self.now c.args.meter.left c.self.view_is (rw c.in-Ok.is at c.requires)

pub returns-in-Err-Failure-clause-goes : goal.returns-in-Err-Failure-clause-goes
returns-in-Err-Failure-clause-goes g c = settle_goes (running_of c.self.inside) c.args.self.now c.args.meter.left c.self.view_is (let e : c.args.answer ≡ Err (stop.Failure c.in-Err-Failure.failure) = first_of (search rules, cc) in spends_failed c.args.answer c.in-Err-Failure.failure _ _ e c.requires)
