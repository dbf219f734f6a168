use Rattle.std.proofs.Common.{rules, ◌≡◌, ◌∙◌, ap}
use Rattle.std.specs.Prelude.{string_bytes}
use Rattle.std.specs.Str.{chars}
use Rattle.chex_report.specs.Summaries.{steps_text}
use Rattle.chex_report.proofs.Texts.{steps_chars}
use Rattle.chex_report.proofs.summaries.steps.Goals as goal

pub returns : goal.returns
unfolding steps_text
returns c =
    let bytes : string_bytes c.in_ok-format.field-0 ≡ steps_text c.args.versions c.args.nodes c.args.alone c.args.replayed = search rules in
    ap chars bytes ∙ steps_chars c.args.versions c.args.nodes c.args.alone c.args.replayed (search rules) (search rules) (search rules) (search rules)
