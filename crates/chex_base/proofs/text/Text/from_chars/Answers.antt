use Rattle.std.proofs.Common.{ap, ◌∙◌, arith}
use Rattle.std.proofs.lemmas.Str.{IsUtf8-string_bytes, chars-nil}
use Rattle.std.proofs.lemmas.Grind.{common_steps}
use Rattle.std.specs.Str.{chars}
use Rattle.chex_base.proofs.text.Text.from_chars.Goals as goal
use Rattle.chex_base.proofs.Points.{one_more_point}

pub loop-c-init : goal.loop-c-init
loop-c-init c = ap chars c.new-bytes.ensures.bytes ∙ chars-nil

pub loop-c-preserved : goal.loop-c-preserved
loop-c-preserved c =
    let e = one_more_point _ _ _ (IsUtf8-string_bytes c.loop-c.bytes) (IsUtf8-string_bytes c.push.new.self) c.in_ok-push.ensures.bytes in
    e ∙ grind (arith, common_steps)
