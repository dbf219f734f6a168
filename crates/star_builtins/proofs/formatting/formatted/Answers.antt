use Rattle.std.proofs.Common.{◌≡◌, Err, true, length, rules, arith}
use Rattle.std.proofs.lemmas.Bool.Decides.{nat_tests}
use Rattle.star_meaning.specs.Operators.{decimals_fit, values_taken}
use Rattle.star_builtins.proofs.FilledLemmas.{formatted_ends, formatted_went}
use Rattle.star_builtins.specs.Reached.{names, store}
use Rattle.star_builtins.proofs.formatting.formatted.Goals as goal

pub returns-in_err-fill-clause-gives : goal.returns-in_err-fill-clause-gives
returns-in_err-fill-clause-gives c =
    let count : values_taken c.args.parts.now ≡ length c.args.values.now = grind (arith, nat_tests) in
    let fit : decimals_fit c.args.parts.now c.args.values.now ≡ true = search rules in
    let r : c.from_residual.result ≡ Err c.in_err-fill.field-0.0 = search rules in
    rw r (formatted_ends (names c.args.program.now) c.args.parts.now c.args.values.now (store c.args.machine.now c.args.meter.now.left) count fit _ c.new-text.result _ c.in_err-fill.field-0.0 c.new-text.ensures c.in_err-fill.ensures)

pub returns-clause-gives : goal.returns-clause-gives
returns-clause-gives c =
    let count : values_taken c.args.parts.now ≡ length c.args.values.now = grind (arith, nat_tests) in
    let fit : decimals_fit c.args.parts.now c.args.values.now ≡ true = search rules in
    rw c.value_of.ensures.is (formatted_went (names c.args.program.now) c.args.parts.now c.args.values.now (store c.args.machine.now c.args.meter.now.left) count fit _ _ (rw c.new-text.ensures at c.in_ok-fill.ensures))
