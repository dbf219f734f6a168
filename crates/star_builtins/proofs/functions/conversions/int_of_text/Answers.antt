use Rattle.std.proofs.Common.{◌≡◌, Some, rules, Err}
use Rattle.std.specs.Prelude.{option_map}
use Rattle.star_value.specs.declared.stop.Stop.TheVariants as stop
use Rattle.star_value.specs.declared.value.Value.TheVariants as value
use Rattle.star_meaning.specs.Builtins.{read_int}
use Rattle.star_meaning.specs.Values.{in_range}
use Rattle.star_builtins.proofs.RowLemmas.{numeral_over, numeral_went}
use Rattle.star_builtins.proofs.functions.conversions.int_of_text.Goals as goal

pub returns-in_err-charge-in-Some-Some-clause-gives : goal.returns-in_err-charge-in-Some-Some-clause-gives
returns-in_err-charge-in-Some-Some-clause-gives c = λ s.
    let r : c.from_residual.result ≡ Err (stop.Failure c.in_err-charge-in-Some-Some.field-0.0) = search rules in
    let found : Some (Some c.in-Some-Some.number) ≡ option_map in_range (read_int c.args.text.now) = rw c.in-Some-Some.field-0-is at c.in-Some-Some.ensures in
    rw r (numeral_over c.args.text.now s c.args.meter.now.left _ c.in-Some-Some.number _ found (rw c.len.ensures.len at c.in_err-charge-in-Some-Some.ensures))

pub returns-in_ok-charge-in-Some-Some-clause-gives : goal.returns-in_ok-charge-in-Some-Some-clause-gives
returns-in_ok-charge-in-Some-Some-clause-gives c = λ s.
    let found : Some (Some c.in-Some-Some.number) ≡ option_map in_range (read_int c.args.text.now) = rw c.in-Some-Some.field-0-is at c.in-Some-Some.ensures in
    let is : c.value_of.result ≡ value.Int c.in-Some-Some.number = search rules in
    rw is (numeral_went c.args.text.now s c.args.meter.now.left _ c.in-Some-Some.number found (rw c.len.ensures.len at c.in_ok-charge-in-Some-Some.ensures))
