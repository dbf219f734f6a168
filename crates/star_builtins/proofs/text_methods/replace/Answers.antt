use Rattle.std.proofs.Common.{◌≡◌, ◌∙◌, ℕ, List, length, Err, ap, rules}
use Rattle.star_value.specs.declared.stop.Stop.TheVariants as stop
use Rattle.star_value.specs.declared.value.Value.{Value}
use Rattle.star_value.specs.declared.value.Value.TheVariants as value
use Rattle.star_value.specs.Texts as texts
use Rattle.star_meaning.specs.Methods as methods
use Rattle.star_meaning.specs.Steps.{Action, charge, pure, ◌>>◌}
use Rattle.star_builtins.specs.Reached.{weighed}
use Rattle.star_builtins.proofs.TextLemmas.{row_stops, row_goes, joined_give}
use Rattle.star_builtins.proofs.text_methods.replace.Goals as goal

abbrev given : List ℕ → List ℕ → List ℕ → Action ℕ Value
given text old new = pure (value.Text (texts.replace text old new))

abbrev paid : List ℕ → List ℕ → List ℕ → Action ℕ Value
paid text old new = charge (length text) >> given text old new

abbrev row : List ℕ → List ℕ → List ℕ → Action ℕ Value
row text old new = methods.not_empty old >> paid text old new

pub returns-in_err-old-clause-gives : goal.returns-in_err-old-clause-gives
returns-in_err-old-clause-gives c =
    let r : c.from_residual.result ≡ Err (stop.Failure c.in_err-old.field-0.0) = search rules in
    λ s. rw r (ap (λ p. weighed (p (record { state = s; left = c.args.meter.now.left }))) (c.in_err-old.ensures (row c.args.text.now)))

pub returns-in_err-check_not_empty-clause-gives : goal.returns-in_err-check_not_empty-clause-gives
returns-in_err-check_not_empty-clause-gives c =
    let r : c.from_residual-in_err-check_not_empty.result ≡ Err (stop.Failure c.in_err-check_not_empty.field-0.0) = search rules in
    let is = c.in_ok-old.ensures (row c.args.text.now) ∙ c.in_err-check_not_empty.ensures.row (paid c.args.text.now c.in_ok-old.old c.in_ok-old.new) in
    λ s. rw r (ap (λ p. weighed (p (record { state = s; left = c.args.meter.now.left }))) is)

pub returns-in_err-charge-clause-gives : goal.returns-in_err-charge-clause-gives
returns-in_err-charge-clause-gives c =
    let r : c.from_residual-in_err-charge.result ≡ Err (stop.Failure c.in_err-charge.field-0.0) = search rules in
    let is = c.in_ok-old.ensures (row c.args.text.now) ∙ c.in_ok-check_not_empty.ensures.row (paid c.args.text.now c.in_ok-old.old c.in_ok-old.new) in
    λ s. rw r (ap weighed (row_stops s c.args.meter.now.left _ _ _ _ (given c.args.text.now c.in_ok-old.old c.in_ok-old.new) is c.len.ensures.len _ c.in_err-charge.ensures))

pub returns-clause-gives : goal.returns-clause-gives
returns-clause-gives c =
    let is = c.in_ok-old.ensures (row c.args.text.now) ∙ c.in_ok-check_not_empty.ensures.row (paid c.args.text.now c.in_ok-old.old c.in_ok-old.new) in
    λ s. joined_give _ (texts.split c.args.text.now c.in_ok-old.old) _ _ _ _ c.in_ok-old.new
    (row_goes s c.args.meter.now.left _ _ _ _ (given c.args.text.now c.in_ok-old.old c.in_ok-old.new) is c.len.ensures.len c.in_ok-charge.ensures)
    (c.as_slice.ensures ∙ c.in_ok-parts.ensures.pieces) (c.joined_value.ensures.gives s)
