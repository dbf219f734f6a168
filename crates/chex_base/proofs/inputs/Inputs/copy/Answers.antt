use Rattle.std.proofs.Common.{subst}
use Rattle.chex_base.specs.Inputs.{IsRising}
use Rattle.chex_base.proofs.InputsLemmas.{one_more-copied}
use Rattle.chex_base.proofs.inputs.Inputs.copy.Goals as goal

pub loop-name-preserved : goal.loop-name-preserved
loop-name-preserved c =
    rw (c.in_ok-set.ensures.ok, c.in_ok-copy.ensures, c.in_ok-copy-2.ensures)
    (one_more-copied c.loop-name.copy c.next.new.self c.args.self.now c.in-Some.name.now c.in-Some.value.now
    (subst IsRising c.self.view_is c.iter-name-items.ensures.ordered)
    (rw c.in-Some.ensures.steps at c.loop-name.invariant))
