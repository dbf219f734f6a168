use Rattle.std.proofs.Common.{rules, ◌≡◌, ◌∙◌, ap}
use Rattle.std.specs.Prelude.{string_bytes}
use Rattle.std.specs.Str.{chars}
use Rattle.chex_report.specs.Summaries.{blocks_text}
use Rattle.chex_report.proofs.Texts.{blocks_chars}
use Rattle.chex_report.proofs.summaries.blocks.Goals as goal

pub returns : goal.returns
unfolding blocks_text
returns c =
    let bytes : string_bytes c.in_ok-format.field-0 ≡ blocks_text c.args.peak c.args.most c.args.block = search rules in
    ap chars bytes ∙ blocks_chars c.args.peak c.args.most c.args.block (search rules) (search rules) (search rules)
