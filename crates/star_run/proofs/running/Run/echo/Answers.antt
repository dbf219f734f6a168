use Rattle.std.proofs.Common.{◌≡◌, ◌++◌, ◌∙◌, rules, sym, ap, Err}
use Rattle.star_meaning.specs.Steps.{Gives}
use Rattle.star_run.specs.Fixed.{fixed, setting}
use Rattle.star_run.specs.Running.{world}
use Rattle.star_run.proofs.EchoLemmas.{chars_newline, echo_nothing, echo_short, echo_stops, echo_writes}
use Rattle.star_run.proofs.RunLemmas.{goes_then}
use Rattle.star_run.proofs.running.Run.echo.Goals as goal

pub returns-then-is_none-clause-gives : goal.returns-then-is_none-clause-gives
returns-then-is_none-clause-gives c = λ call. echo_nothing (setting (fixed c.args.given.now)) call c.args.value.now (world c.args.self.now) (sym c.is_none.ensures ∙ c.if-is_none.true)

pub returns-in_err-text-clause-gives : goal.returns-in_err-text-clause-gives
returns-in_err-text-clause-gives c =
    let r : c.from_residual.result ≡ Err c.in_err-text.field-0.0 = search rules in
    rw r (λ call. echo_stops (setting (fixed c.args.given.now)) call c.args.value.now (world c.args.self.now) (world c.quoted.new.self) c.in_err-text.field-0.0 (sym c.is_none.ensures ∙ c.if-is_none.false) c.in_err-text.ensures.gives)

pub returns-in_err-charge-clause-gives : goal.returns-in_err-charge-clause-gives
returns-in_err-charge-clause-gives c =
    let r : c.from_residual-in_err-charge.result ≡ Err c.in_err-charge.field-0.0 = search rules in
    rw r (λ call. echo_short (setting (fixed c.args.given.now)) call c.args.value.now (world c.args.self.now) (world c.quoted.new.self) (world c.charge.new.self) c.in_ok-text.text c.in_err-charge.field-0.0 (sym c.is_none.ensures ∙ c.if-is_none.false) c.in_ok-text.ensures.gives c.in_err-charge.ensures.gives)

pub returns-in_err-charge-clause-goes : goal.returns-in_err-charge-clause-goes
returns-in_err-charge-clause-goes c = goes_then _ _ _ c.quoted.ensures.goes c.charge.ensures.goes

pub returns-in_err-push_str-clause-goes : goal.returns-in_err-push_str-clause-goes
returns-in_err-push_str-clause-goes c = goes_then _ _ _ c.quoted.ensures.goes c.charge.ensures.goes

pub returns-clause-gives : goal.returns-clause-gives
returns-clause-gives c = λ call.
    echo_writes (setting (fixed c.args.given.now)) call c.args.value.now (world c.args.self.now) (world c.quoted.new.self) (world c.charge.new.self) (world c.write.new.self) c.in_ok-text.text c.push_str.new.self c.write.result
    (sym c.is_none.ensures ∙ c.if-is_none.false) c.in_ok-text.ensures.gives c.in_ok-charge.ensures.gives (c.in_ok-push_str.ensures.ok ∙ ap (λ more. c.in_ok-text.text ++ more) chars_newline) c.write.ensures.gives

pub returns-clause-goes : goal.returns-clause-goes
returns-clause-goes c = goes_then _ _ _ (goes_then _ _ _ c.quoted.ensures.goes c.charge.ensures.goes) c.write.ensures.goes
