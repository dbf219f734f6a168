use Rattle.std.proofs.Common.{◌≡◌, ◌∙◌, sym, subst, None}
use Rattle.star_meaning.specs.World.{slot_of}
use Rattle.star_run.specs.Running.{Running}
use Rattle.star_run.proofs.RunLemmas.{bind_global, slot_none}
use Rattle.star_run.proofs.running.Run.bind.Goals as goal

pub returns-clause-gives : goal.returns-clause-gives
returns-clause-gives c =
    bind_global c.args.name.now c.args.value c.args.self.now c.set_global.new.self
    (subst (λ (r : Running). slot_of r.frame.blocks c.args.name.now ≡ None) c.self.view_is (slot_none c.slot.result _ c.slot.ensures (sym c.is_some.ensures ∙ c.if-is_some.false))) c.in_ok-set_global.ensures.ok
