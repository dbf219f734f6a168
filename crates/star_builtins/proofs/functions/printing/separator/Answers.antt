use Rattle.std.proofs.Common.{◌≡◌, rules, Err}
use Rattle.star_value.specs.declared.stop.Stop.TheVariants as stop
use Rattle.star_builtins.proofs.PrintLemmas.{separator_none, separator_refused, separator_some, separator_wrong}
use Rattle.star_builtins.proofs.functions.printing.separator.Goals as goal

pub returns-in_err-value : goal.returns-in_err-value
returns-in_err-value c = λ s.
    let r : c.from_residual-in_err-value.result ≡ Err (stop.Failure c.in_err-value.field-0.0) = search rules in
    rw r (separator_refused c.in_ok-name.name c.args.named s c.in_ok-name.ensures.points _ c.in_err-value.ensures.0 c.in_err-value.ensures.1)

pub returns-in_err-into_text-in-Some : goal.returns-in_err-into_text-in-Some
returns-in_err-into_text-in-Some c = λ s.
    let r : c.from_residual-in_err-into_text-in-Some.result ≡ Err (stop.Failure c.in_err-into_text-in-Some.field-0.0) = search rules in
    rw r
    (separator_wrong c.in_ok-name.name c.args.named s c.in_ok-name.ensures.points c.in-Some.value _ (rw c.in-Some.is at c.in_ok-value.ensures) c.in_err-into_text-in-Some.ensures.0 c.in_err-into_text-in-Some.ensures.1)

pub returns-in-Some : goal.returns-in-Some
returns-in-Some c = λ s.
    separator_some c.in_ok-name.name c.args.named s c.in_ok-name.ensures.points c.in-Some.value _ (rw c.in-Some.is at c.in_ok-value.ensures) c.in_ok-into_text-in-Some.ensures

pub returns : goal.returns
returns c = λ s.
    separator_none c.in_ok-name.name c.args.named s c.in_ok-name.ensures.points _ (rw c.in-None.is at c.in_ok-value.ensures) c.in_ok-from_str-in-None.ensures.points
