use Rattle.std.proofs.Common.{rules, ◌≡◌, ◌∙◌, Some, ap}
use Rattle.std.specs.Prelude.{string_bytes}
use Rattle.std.specs.Str.{chars}
use Rattle.chex_report.specs.Summaries.{cost_line}
use Rattle.chex_report.proofs.Texts.{cost_chars}
use Rattle.chex_report.proofs.summaries.line_of_cost.Goals as goal

pub returns : goal.returns
unfolding cost_line
returns c =
    let bytes : string_bytes c.in_ok-format.field-0 ≡ cost_line (Some c.args.cost) = search rules in
    ap chars bytes ∙ cost_chars c.args.cost (search rules)
