use Rattle.std.proofs.Common.{◌≡◌, ◌≤◌, ◌∙◌, arith, rules, sym, ap, subst, lit≤, Err, refl, []}
use Rattle.star_meaning.specs.Expressions.{store_at}
use Rattle.star_meaning.specs.Operators.{store as stored}
use Rattle.star_meaning.specs.Steps.{Gives}
use Rattle.star_meaning.proofs.Keeping.{store_keeps}
use Rattle.star_builtins.specs.Reached.{store}
use Rattle.star_run.specs.RunView.{running_of}
use Rattle.star_run.proofs.RunLemmas.{settled_method, sound_stored, spends, store_through}
use Rattle.star_run.proofs.running.Run.store.Goals as goal

pub invariant_of-self : goal.invariant_of-self
invariant_of-self c = sound_stored (running_of c.self.inside) c.store-answer.new.machine c.self.invariant c.store-answer.ensures.follows c.store-answer.ensures.count

pub settle-requires : goal.settle-requires
settle-requires c =
    let s = store c.self.inside.machine c.self.inside.meter.left in
    spends (stored c.as_slice.result.now c.args.of.now c.args.at c.args.value s) c.self.inside.meter.left c.store-answer.result (store c.store-answer.new.machine c.store-answer.new.meter.left)
    ((store_keeps 0 c.as_slice.result.now c.args.of.now c.args.at c.args.value s).spent) c.store-answer.ensures.gives

pub returns-clause-gives : goal.returns-clause-gives
unfolding store_at
returns-clause-gives c =
    settled_method (stored c.args.self.now.frame.locked c.args.of.now c.args.at c.args.value) (running_of c.self.inside) c.args.self.now c.store-answer.new.machine c.store-answer.new.meter.left c.store-answer.result c.settle.result c.settle.new.self c.self.view_is
    (subst (λ l. Gives (stored l c.args.of.now c.args.at c.args.value (store c.self.inside.machine c.self.inside.meter.left)) c.store-answer.result (store c.store-answer.new.machine c.store-answer.new.meter.left)) (c.as_slice.ensures ∙ ap (λ r. r.frame.locked) c.self.view_is) c.store-answer.ensures.gives)
    c.settle.ensures.same c.settle.ensures.left

pub returns-clause-goes : goal.returns-clause-goes
returns-clause-goes c = store_through c.args.self.now (running_of c.self.inside) c.settle.new.self c.store-answer.new.machine c.self.view_is c.store-answer.ensures.follows c.store-answer.ensures.count c.settle.ensures.goes
