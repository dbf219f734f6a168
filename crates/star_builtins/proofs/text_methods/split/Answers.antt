use Rattle.std.proofs.Common.{◌≡◌, ◌∙◌, Ok, Err, None, ap, rules}
use Rattle.star_value.specs.declared.stop.Stop.TheVariants as stop
use Rattle.star_value.specs.Texts as texts
use Rattle.star_meaning.specs.Methods as methods
use Rattle.star_builtins.specs.Reached.{store}
use Rattle.star_builtins.proofs.TextLemmas.{same_give, split_chosen, split_row}
use Rattle.star_builtins.proofs.text_methods.split.Goals as goal

pub returns-in_err-given-clause-gives : goal.returns-in_err-given-clause-gives
returns-in_err-given-clause-gives c =
    let r : c.from_residual.result ≡ Err (stop.Failure c.in_err-given.field-0.0) = search rules in
    rw r (ap (λ p. p (store c.args.machine.now c.args.meter.now.left)) (split_chosen c.args.text.now c.args.values (Err c.in_err-given.field-0.0) c.in_err-given.ensures))

pub returns-in_default-clause-gives : goal.returns-in_default-clause-gives
returns-in_default-clause-gives c =
    let none : c.in_ok-given.given ≡ None = search rules in
    let is = split_chosen c.args.text.now c.args.values (Ok c.in_ok-given.given) c.in_ok-given.ensures ∙ ap (split_row c.args.text.now) none in
    same_give _ _ _ _ (ap (λ p. p (store c.args.machine.now c.args.meter.now.left)) is) c.split_at_white.ensures.gives

pub returns-in_err-check_not_empty-clause-gives : goal.returns-in_err-check_not_empty-clause-gives
returns-in_err-check_not_empty-clause-gives c =
    let r : c.from_residual-in_err-check_not_empty.result ≡ Err (stop.Failure c.in_err-check_not_empty.field-0.0) = search rules in
    let is = split_chosen c.args.text.now c.args.values (Ok c.in_ok-given.given) c.in_ok-given.ensures ∙ ap (split_row c.args.text.now) c.in-Some.is ∙ c.in_err-check_not_empty.ensures.row (methods.pieces c.args.text.now (texts.split c.args.text.now c.in-Some.by)) in
    rw r (ap (λ p. p (store c.args.machine.now c.args.meter.now.left)) is)

pub returns-clause-gives : goal.returns-clause-gives
returns-clause-gives c =
    let is = split_chosen c.args.text.now c.args.values (Ok c.in_ok-given.given) c.in_ok-given.ensures ∙ ap (split_row c.args.text.now) c.in-Some.is ∙ c.in_ok-check_not_empty.ensures.row (methods.pieces c.args.text.now (texts.split c.args.text.now c.in-Some.by)) in
    same_give _ _ _ _ (ap (λ p. p (store c.args.machine.now c.args.meter.now.left)) is) c.split_at.ensures.gives
