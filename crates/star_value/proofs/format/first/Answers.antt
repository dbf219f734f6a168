use Rattle.std.proofs.Common.{◌≡◌, ◌++◌, sym, ap, ◌∙◌}
use Rattle.std.specs.Prelude.{encode_utf8}
use Rattle.std.proofs.lemmas.Str.{chars_past_char}
use Rattle.star_value.proofs.format.first.Goals as goal

pub returns : goal.returns
returns c =
    let split : c.args.text.now ≡ encode_utf8 c.in_ok-first.first ++ c.as_str.result.now =
    sym c.chars-points.ensures.rest ∙ c.in_ok-first.ensures.steps.0 ∙ ap (λ b. encode_utf8 c.in_ok-first.first ++ b) (sym c.as_str.ensures) in
    (chars_past_char _ _ _ c.utf8.text split, c.as_str.utf8)
