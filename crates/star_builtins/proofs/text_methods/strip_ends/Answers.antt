use Rattle.std.proofs.Common.{◌≡◌, ◌∙◌, ℕ, Bool, List, Option, length, Err, ap, sym, rules}
use Rattle.star_value.specs.declared.stop.Stop.TheVariants as stop
use Rattle.star_value.specs.declared.value.Value.{Value}
use Rattle.star_value.specs.declared.value.Value.TheVariants as value
use Rattle.star_value.specs.Texts as texts
use Rattle.star_meaning.specs.Steps.{Action, Went, charge, pure, ◌>>◌}
use Rattle.star_builtins.proofs.TextLemmas.{row_stops, row_goes}
use Rattle.star_builtins.proofs.text_methods.strip_ends.Goals as goal

abbrev given : List ℕ → Bool → Bool → Option (List ℕ) → Action ℕ Value
given text left right set = pure (value.Text (texts.strip text set left right))

abbrev row : List ℕ → Bool → Bool → Option (List ℕ) → Action ℕ Value
row text left right set = charge (length text) >> given text left right set

pub returns-in_err-set-clause-gives : goal.returns-in_err-set-clause-gives
returns-in_err-set-clause-gives c =
    let r : c.from_residual.result ≡ Err (stop.Failure c.in_err-set.field-0.0) = search rules in
    λ s. rw r (ap (λ p. p (record { state = s; left = c.args.meter.now.left })) (c.in_err-set.ensures (row c.args.text.now c.args.left c.args.right)))

pub returns-in_err-charge-clause-gives : goal.returns-in_err-charge-clause-gives
returns-in_err-charge-clause-gives c =
    let r : c.from_residual-in_err-charge.result ≡ Err (stop.Failure c.in_err-charge.field-0.0) = search rules in
    λ s. rw r (row_stops s c.args.meter.now.left _ _ _ _ (given c.args.text.now c.args.left c.args.right c.in_ok-set.set) (c.in_ok-set.ensures (row c.args.text.now c.args.left c.args.right)) c.len.ensures.len _ c.in_err-charge.ensures)

pub returns-clause-gives : goal.returns-clause-gives
returns-clause-gives c =
    λ s. row_goes s c.args.meter.now.left _ _ _ _ (given c.args.text.now c.args.left c.args.right c.in_ok-set.set) (c.in_ok-set.ensures (row c.args.text.now c.args.left c.args.right)) c.len.ensures.len c.in_ok-charge.ensures
    ∙ ap (λ v. Went v (record { state = s; left = c.charge.new.self.left })) (sym (c.value_of.ensures.is ∙ ap value.Text (c.in_ok-stripped.ensures ∙ ap (λ set. texts.strip c.args.text.now set c.args.left c.args.right) c.as_ref.ensures.value)))
