use Rattle.std.proofs.Common.{◌≡◌, ◌+◌, length, rules, Err}
use Rattle.star_value.specs.declared.stop.Stop.TheVariants as stop
use Rattle.star_meaning.specs.Showing.{quoted_text}
use Rattle.star_builtins.proofs.Charged.{made_failed_first, made_failed_second, made_in_parts, quoted_long}
use Rattle.star_builtins.proofs.plain.write_quoted.Goals as goal

pub returns-in_err-charge-clause-gives : goal.returns-in_err-charge-clause-gives
returns-in_err-charge-clause-gives c =
    let r : c.from_residual.result ≡ Err (stop.Failure c.in_err-charge.field-0.0) = search rules in
    rw r (λ s. made_failed_first c.args.out.now (quoted_text c.args.text.now) (length c.args.text.now + 2) s _ _ _ (quoted_long c.args.text.now) (rw c.len.ensures.len at c.in_err-charge.ensures))

pub returns-in_err-charge-2-clause-gives : goal.returns-in_err-charge-2-clause-gives
returns-in_err-charge-2-clause-gives c =
    let r : c.from_residual-in_err-charge-2.result ≡ Err (stop.Failure c.in_err-charge-2.field-0.0) = search rules in
    rw r (λ s. made_failed_second c.args.out.now (quoted_text c.args.text.now) (length c.args.text.now + 2) s _ _ _ _ (quoted_long c.args.text.now) (rw c.len.ensures.len at c.in_ok-charge.ensures) (rw (c.len-2.ensures.len, c.in_ok-quoted.ensures, c.len.ensures.len) at c.in_err-charge-2.ensures))

pub returns-clause-gives : goal.returns-clause-gives
returns-clause-gives c =
    rw (c.in_ok-push_text.ensures.ok, c.in_ok-quoted.ensures) (λ s. made_in_parts c.args.out.now (quoted_text c.args.text.now) (length c.args.text.now + 2) s _ _ _ (quoted_long c.args.text.now) (rw c.len.ensures.len at c.in_ok-charge.ensures) (rw (c.len-2.ensures.len, c.in_ok-quoted.ensures, c.len.ensures.len) at c.in_ok-charge-2.ensures))
