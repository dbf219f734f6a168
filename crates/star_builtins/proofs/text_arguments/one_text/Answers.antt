use Rattle.std.proofs.Common.{◌≡◌, ◌∙◌, Err, rules}
use Rattle.star_meaning.specs.Builtins as spec
use Rattle.star_meaning.specs.Steps.{◌>>=◌}
use Rattle.star_builtins.proofs.TextLemmas.{text_chosen}
use Rattle.star_builtins.proofs.text_arguments.one_text.Goals as goal

pub returns-in_err-value : goal.returns-in_err-value
returns-in_err-value c =
    let r : c.from_residual.result ≡ Err c.in_err-value.field-0.0 = search rules in
    λ row. rw r (c.in_err-value.ensures.value (λ v. spec.as_text v >>= row))

pub returns : goal.returns
returns c = λ row. c.in_ok-value.ensures.value (λ v. spec.as_text v >>= row) ∙ text_chosen _ _ row c.into_text.ensures
