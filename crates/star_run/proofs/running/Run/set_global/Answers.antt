use Rattle.std.proofs.Common.{◌≡◌, ◌≤◌, ◌∙◌, arith, rules, sym, ap, subst, lit≤, Err, Ok, refl, []}
use Rattle.star_run.specs.RunView.{running_of}
use Rattle.star_run.proofs.RunLemmas.{goes_global, sound_global}
use Rattle.star_run.proofs.running.Run.set_global.Goals as goal

pub invariant_of-self-2 : goal.invariant_of-self-2
invariant_of-self-2 c = sound_global (running_of c.self.inside) c.args.self.now c.set_global.new.self c.args.name.now c.args.value c.self.view_is c.self.invariant c.requires c.ran-nodes.ensures.kept c.in_ok-set_global.ensures.ok

pub returns-clause-goes : goal.returns-clause-goes
returns-clause-goes c = goes_global (running_of c.self.inside) c.args.self.now c.set_global.new.self c.args.name.now c.args.value c.self.view_is c.requires c.ran-nodes.ensures.kept c.in_ok-set_global.ensures.ok
