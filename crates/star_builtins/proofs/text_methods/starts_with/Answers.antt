use Rattle.std.proofs.Common.{◌≡◌, ◌∙◌, ℕ, List, length, Err, ap, sym, rules}
use Rattle.star_value.specs.declared.value.Value.{Value}
use Rattle.star_value.specs.declared.value.Value.TheVariants as value
use Rattle.star_value.specs.Texts as texts
use Rattle.star_meaning.specs.Steps.{Action, Went, charge, pure, ◌>>◌}
use Rattle.star_builtins.proofs.TextLemmas.{row_stops, row_goes}
use Rattle.star_builtins.proofs.text_methods.starts_with.Goals as goal

abbrev given : List ℕ → List ℕ → Action ℕ Value
given text what = pure (value.Bool (texts.starts_with text what))

abbrev row : List ℕ → List ℕ → Action ℕ Value
row text what = charge (length what) >> given text what

pub returns-in_err-what-clause-gives : goal.returns-in_err-what-clause-gives
returns-in_err-what-clause-gives c =
    let r : c.from_residual.result ≡ Err c.in_err-what.field-0.0 = search rules in
    λ s. rw r (ap (λ p. p (record { state = s; left = c.args.meter.now.left })) (c.in_err-what.ensures (row c.args.text.now)))

pub returns-in_err-charge-clause-gives : goal.returns-in_err-charge-clause-gives
returns-in_err-charge-clause-gives c =
    let r : c.from_residual-in_err-charge.result ≡ Err c.in_err-charge.field-0.0 = search rules in
    λ s. rw r (row_stops s c.args.meter.now.left _ _ _ _ (given c.args.text.now c.in_ok-what.what) (c.in_ok-what.ensures (row c.args.text.now)) c.len.ensures.len _ c.in_err-charge.ensures)

pub returns-clause-gives : goal.returns-clause-gives
returns-clause-gives c =
    λ s. row_goes s c.args.meter.now.left _ _ _ _ (given c.args.text.now c.in_ok-what.what) (c.in_ok-what.ensures (row c.args.text.now)) c.len.ensures.len c.in_ok-charge.ensures
    ∙ ap (λ v. Went v (record { state = s; left = c.charge.new.self.left })) (sym (c.value_of.ensures.is ∙ ap value.Bool c.starts_with.ensures))
