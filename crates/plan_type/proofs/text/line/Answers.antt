use Rattle.std.proofs.Common.{rules, ◌≡◌, ◌∙◌, ap}
use Rattle.std.specs.Prelude.{string_bytes}
use Rattle.std.specs.Str.{chars}
use Rattle.plan_type.specs.PlanText.{line_of}
use Rattle.plan_type.proofs.Lines.{line_chars}
use Rattle.plan_type.proofs.text.line.Goals as goal

pub returns : goal.returns
unfolding line_of
returns c =
    let bytes : string_bytes c.in_ok-format.field-0 ≡ line_of c.args.depth c.number-number.result c.args.hold = search rules in
    ap chars bytes ∙ line_chars c.args.depth c.number-number.result c.args.hold (search rules) (search rules) ∙ ap (λ n. line_of c.args.depth n c.args.hold) c.number-number.ensures
