use Rattle.std.proofs.Common.{◌∙◌, ap₂, refl}
use Rattle.std.proofs.lemmas.Result.{IfOk-weaker}
use Rattle.clap.specs.Words.{with_rule}
use Rattle.chex_words.proofs.clap_commands.with_taps.Goals as goal

pub returns : goal.returns
returns c =
    let two = c.in_ok-command-2.ensures ∙ ap₂ with_rule c.in_ok-command.ensures refl in
    IfOk-weaker c.with_flag-3.result _ _ (λ r h. h ∙ ap₂ with_rule two refl) c.with_flag-3.ensures
