use Rattle.std.proofs.Common.{◌≡◌, rules, Err}
use Rattle.star_builtins.proofs.RowLemmas.{text_ends}
use Rattle.star_builtins.proofs.functions.printing.form.Goals as goal

pub returns-in_err-show-clause-gives : goal.returns-in_err-show-clause-gives
returns-in_err-show-clause-gives c =
    let r : c.from_residual.result ≡ Err c.in_err-show.field-0.0 = search rules in
    rw r (text_ends _ _ _ c.new-text.result _ _ c.new-text.ensures c.in_err-show.ensures.gives)
