use Rattle.std.proofs.Common.{◌≡◌, rules, Err}
use Rattle.star_builtins.proofs.Ordered.{text_failed, text_went}
use Rattle.star_builtins.proofs.membership.within_text.Goals as goal

pub returns-in_err-charge-in-Some : goal.returns-in_err-charge-in-Some
returns-in_err-charge-in-Some c =
    let r : c.from_residual.result ≡ Err c.in_err-charge-in-Some.field-0.0 = search rules in
    rw r (λ s. text_failed c.args.wanted.now c.args.text.now c.in-Some.part.now s _ _ _ (rw (c.len.ensures.len, c.len-in-Some.ensures.len) at c.in_err-charge-in-Some.ensures) c.in-Some.ensures)

pub returns-in_ok-charge-in-Some : goal.returns-in_ok-charge-in-Some
returns-in_ok-charge-in-Some c =
    λ s. text_went c.args.wanted.now c.args.text.now c.in-Some.part.now s _ _ _ (rw (c.len.ensures.len, c.len-in-Some.ensures.len) at c.in_ok-charge-in-Some.ensures) c.in-Some.ensures (rw c.find.ensures at c.is_some.ensures)
