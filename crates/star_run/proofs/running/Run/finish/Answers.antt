use Rattle.std.proofs.Common.{◌≡◌, ◌≤◌, ◌∙◌, arith, rules, sym, ap, subst, lit≤, Err, refl}
use Rattle.star_run.proofs.RunLemmas.{finish_failed}
use Rattle.star_run.proofs.running.Run.finish.Goals as goal

pub returns-in_err-value-clause-gives : goal.returns-in_err-value-clause-gives
returns-in_err-value-clause-gives c =
    let r : c.from_residual.result ≡ Err c.in_err-value.field-0.0 = search rules in
    λ o h. rw r (finish_failed c.args.self.now c.settle.new.self c.args.answer c.args.meter.left c.in_err-value.field-0.0 (sym c.settle.ensures.same ∙ c.in_err-value.was) c.settle.ensures.left o h)
