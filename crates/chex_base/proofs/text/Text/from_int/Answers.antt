use Rattle.std.proofs.Common.{ap, ◌∙◌}
use Rattle.std.specs.Fmt.{signed_decimal}
use Rattle.std.specs.Str.{chars}
use Rattle.std.proofs.Math.Facts.{to_z-of_z}
use Rattle.std.proofs.lemmas.Str.{chars-IsAscii}
use Rattle.chex_base.proofs.TextLemmas.{ascii_number}
use Rattle.chex_base.proofs.text.Text.from_int.Goals as goal

pub returns : goal.returns
returns c =
    ap chars c.in_ok-bytes.ensures
    ∙ (ap (λ z. chars (signed_decimal z)) (to_z-of_z c.ranges.number)
    ∙ chars-IsAscii _ (ascii_number c.args.number c.ranges.number))
