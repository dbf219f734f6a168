use Rattle.std.proofs.Common.{◌≡◌, ◌≤◌, ◌∙◌, arith, rules, sym, ap, subst, lit≤, Err, refl, []}
use Rattle.star_meaning.specs.Values.{new_dict}
use Rattle.star_run.specs.RunView.{running_of}
use Rattle.star_run.proofs.RunLemmas.{made_gives, made_makes, sound_operation}
use Rattle.star_run.proofs.running.Run.made_dict.Goals as goal

pub invariant_of-self : goal.invariant_of-self
invariant_of-self c = sound_operation (running_of c.self.inside) c.args.self.now c.new_dict.new.machine c.self.view_is c.self.invariant c.new_dict.ensures.follows c.requires.credit

pub returns-clause-gives : goal.returns-clause-gives
returns-clause-gives c = made_gives (new_dict c.args.pairs) (running_of c.self.inside) c.args.self.now c.new_dict.new.machine c.new_dict.result c.self.view_is (c.new_dict.ensures.gives c.self.inside.meter.left)

pub returns-clause-made : goal.returns-clause-made
returns-clause-made c = made_makes c.args.self.now (running_of c.self.inside) c.new_dict.new.machine c.self.view_is c.new_dict.ensures.follows
