use Rattle.std.proofs.Common.{◌∙◌, ◌++◌, ◌∷◌, [], Some, ap, arith, subst}
use Rattle.star_run.specs.Filling.{FillsOne, filled_one, seen}
use Rattle.star_run.proofs.ArgumentLemmas.{popped_counts, progress_left, progress_next}
use Rattle.star_run.proofs.filling.filled.Goals as goal

pub loop-parameter-preserved : goal.loop-parameter-preserved
loop-parameter-preserved c =
    progress_next c.args.parameters.now c.loop-parameter.parameter-index c.parameter-item.result c.args.positional c.loop-parameter.waiting.items c.pop-given.new.self.items c.args.named.now c.loop-parameter.slots c.loop-parameter.weight c.pop-given.result
    c.loop-parameter-test.true c.parameter-item.is c.pop-given.ensures.items
    (popped_counts c.pop-given.result _ _ c.loop-parameter.waiting.items c.pop-given.new.self.items c.loop-parameter.waiting.ok.0 c.pop-given.new.self.ok.0 c.pop-given.ensures.cases)
    c.loop-parameter.invariant c.push.new.self c.in-Some.value c.in-Some.paid c.saturating_add-weight.result (omega (arith, c.saturating_add-weight.ensures)) (subst (FillsOne (filled_one (seen c.parameter-item.result) c.pop-given.result c.args.named.now)) c.in-Some.is c.in_ok-value.ensures)
    (c.in_ok-push.ensures ∙ ap (λ name. c.loop-parameter.slots ++ (name, Some c.in-Some.value) ∷ []) c.in_ok-clone.ensures.cases)

pub returns-then-len-ne0 : goal.returns-then-len-ne0
returns-then-len-ne0 c =
    progress_left c.args.parameters.now c.loop-parameter.parameter-index c.args.positional c.loop-parameter.waiting.items c.args.named.now c.loop-parameter.slots c.loop-parameter.weight (omega arith) c.loop-parameter.invariant (omega arith)
