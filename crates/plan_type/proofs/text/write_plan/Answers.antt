use Rattle.std.proofs.Common.{◌∙◌, ◌++◌, ap}
use Rattle.std.specs.Prelude.{codes}
use Rattle.std.specs.Str.{chars}
use Rattle.plan_type.specs.PlanText.{text_of, lines_at}
use Rattle.plan_type.proofs.Lines.{head_chars}
use Rattle.plan_type.proofs.text.write_plan.Goals as goal

pub returns : goal.returns
unfolding text_of
returns c =
    c.in_ok-write_entries.ensures ∙ ap (λ l. l ++ lines_at c.args.plan.now 1)
    (c.in_ok-push_str.ensures.ok ∙ ap (λ l. l ++ chars (codes "chex-plan 1\n")) c.new-text.ensures ∙ head_chars)
