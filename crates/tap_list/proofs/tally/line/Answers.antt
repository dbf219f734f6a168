use Rattle.std.proofs.Common.{rules, ◌≡◌, ◌∙◌, ap}
use Rattle.std.specs.Prelude.{string_bytes}
use Rattle.std.specs.Str.{chars}
use Rattle.tap_list.specs.Counts.{tally_text}
use Rattle.tap_list.proofs.Texts.{tally_chars}
use Rattle.tap_list.proofs.tally.line.Goals as goal

pub returns : goal.returns
unfolding tally_text
returns c =
    let bytes : string_bytes c.in_ok-format.field-0 ≡ tally_text c.args.counts = search rules in
    ap chars bytes ∙ tally_chars c.args.counts (search rules) (search rules) (search rules) (search rules) (search rules)
