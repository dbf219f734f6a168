use Rattle.std.proofs.Common.{◌∙◌, arith, ap}
use Rattle.star_run.proofs.ArgumentLemmas.{unbound_at}
use Rattle.star_run.proofs.slots.Slots.add_unbound.Goals as goal

pub loop-at-preserved : goal.loop-at-preserved
loop-at-preserved c =
    unbound_at (λ name. name.value) c.layout.inside.names.items c.loop-at.at c.index.result.now c.args.layout.now c.in_ok-name.name.value c.loop-at.self c.push.new.self _ c.layout.view_is (omega (arith, c.loop-at-test.true, c.len-at-end.ensures))
    (c.in_ok-name.ensures.cases ∙ ap (λ name. name.value) c.index.ensures) c.in_ok-push.ensures c.loop-at.invariant
