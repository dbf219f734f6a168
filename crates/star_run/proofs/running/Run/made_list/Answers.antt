use Rattle.std.proofs.Common.{◌≡◌, ◌≤◌, ◌∙◌, arith, rules, sym, ap, subst, lit≤, Err, refl, []}
use Rattle.star_meaning.specs.Values.{new_list}
use Rattle.star_run.specs.RunView.{running_of}
use Rattle.star_run.proofs.RunLemmas.{made_gives, made_makes, sound_operation}
use Rattle.star_run.proofs.running.Run.made_list.Goals as goal

pub invariant_of-self : goal.invariant_of-self
invariant_of-self c = sound_operation (running_of c.self.inside) c.args.self.now c.new_list.new.machine c.self.view_is c.self.invariant c.new_list.ensures.follows c.requires.credit

pub returns-clause-gives : goal.returns-clause-gives
returns-clause-gives c = made_gives (new_list c.args.items) (running_of c.self.inside) c.args.self.now c.new_list.new.machine c.new_list.result c.self.view_is (c.new_list.ensures.gives c.self.inside.meter.left)

pub returns-clause-made : goal.returns-clause-made
returns-clause-made c = made_makes c.args.self.now (running_of c.self.inside) c.new_list.new.machine c.self.view_is c.new_list.ensures.follows
