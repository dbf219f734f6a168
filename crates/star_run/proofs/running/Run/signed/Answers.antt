use Rattle.std.proofs.Common.{◌≡◌, ◌∙◌, ◌-◌, suc, arith, rules, sym, ap, subst, take, Err}
use Rattle.star_meaning.specs.Steps.{Gives, and_then}
use Rattle.star_meaning.specs.Expressions.{signed}
use Rattle.star_run.specs.Running.{world}
use Rattle.star_run.proofs.SignLemmas.{next_sign, sign_stops}
use Rattle.star_run.proofs.RunLemmas.{goes_then}
use Rattle.star_run.proofs.running.Run.signed.Goals as goal

pub returns-in_err-value-clause-gives : goal.returns-in_err-value-clause-gives
returns-in_err-value-clause-gives c =
    let r : c.from_residual.result ≡ Err c.in_err-value.field-0.0 = search rules in
    rw r (subst (λ o. Gives o (Err c.in_err-value.field-0.0) (world c.sign.new.self)) c.loop-left.invariant.same
    (sign_stops c.args.signs.now c.loop-left.left (c.loop-left.left - 1) _ c.loop-left.value (world c.loop-left.self) (world c.sign.new.self) c.in_err-value.field-0.0 (omega (arith, c.loop-left-test.true)) (omega (arith, c.loop-left-test.true, c.loop-left.invariant.within)) c.in_err-value.ensures.gives))

pub loop-left-preserved : goal.loop-left-preserved
loop-left-preserved c = record {
  within = omega (arith, c.loop-left.invariant.within);
  same = sym (next_sign c.args.signs.now c.loop-left.left (c.loop-left.left - 1) _ c.loop-left.value (world c.loop-left.self) (omega (arith, c.loop-left-test.true)) (omega (arith, c.loop-left-test.true, c.loop-left.invariant.within))
      ∙ ap (λ o. and_then o (signed (take (c.loop-left.left - 1) c.args.signs.now))) c.in_ok-value.ensures.gives) ∙ c.loop-left.invariant.same;
  goes = goes_then _ _ _ c.loop-left.invariant.goes c.sign.ensures.goes;
  fits = c.in_ok-value.ensures.fits;
}
