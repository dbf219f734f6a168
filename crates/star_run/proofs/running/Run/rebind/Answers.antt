use Rattle.std.proofs.Common.{◌≡◌, ◌≤◌, ◌∙◌, arith, rules, sym, ap, subst, lit≤, Err, Ok, refl, []}
use Rattle.star_run.specs.RunView.{running_of}
use Rattle.star_run.proofs.RunLemmas.{sound_rebound}
use Rattle.star_run.proofs.running.Run.rebind.Goals as goal

pub invariant_of-self : goal.invariant_of-self
invariant_of-self c = sound_rebound (running_of c.self.inside) c.args.self.now c.args.name.now c.args.value c.bind.new.self c.self.view_is c.self.invariant c.requires c.bind.ensures
