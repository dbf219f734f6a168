use Rattle.std.proofs.Common.{rules, ◌≡◌, ◌∙◌, ap}
use Rattle.std.specs.Prelude.{string_bytes}
use Rattle.std.specs.Str.{chars}
use Rattle.plan_type.specs.declared.operations.Operation.TheVariants.{Evict}
use Rattle.tap_list.specs.Lines.{line_of}
use Rattle.tap_list.proofs.Texts.{evict_chars}
use Rattle.tap_list.proofs.lines.evict.Goals as goal

pub returns-clause-bytes : goal.returns-clause-bytes
unfolding line_of
returns-clause-bytes c = search rules

pub returns-clause-points : goal.returns-clause-points
unfolding line_of
returns-clause-points c =
    let bytes : string_bytes c.in_ok-format.field-0 ≡ line_of (Evict c.args.node) = search rules in
    ap chars bytes ∙ evict_chars c.args.node (search rules)
