use Rattle.std.proofs.Common.{◌≡◌, ◌∙◌, refl, sym, ap, length, length-append, arith, rules}
use Rattle.star_meaning.specs.Expressions.{values}
use Rattle.star_run.specs.Fixed.{fixed}
use Rattle.star_run.specs.Running.{world}
use Rattle.star_run.proofs.OwnLemmas.{default_step}
use Rattle.star_run.proofs.WaitLemmas.{all_fit_push, goes_same, goes_then, none_fit}
use Rattle.star_run.proofs.level.Level.default_values.Goals as goal

pub loop-named-init : goal.loop-named-init
unfolding values
loop-named-init g c = record { same = rw c.new-values.ensures refl; goes = goes_same _; fit = rw c.new-values.ensures (none_fit _); count = rw c.new-values.ensures refl }

pub loop-named-preserved : goal.loop-named-preserved
loop-named-preserved g c = record {
  same = sym (default_step _ _ _ _ _ _ _ _ _ _ c.loop-named-test.true c.named-item.is c.in_ok-value.ensures.gives c.in_ok-push.ensures.ok) ∙ c.loop-named.invariant.same;
  goes = goes_then _ _ _ c.loop-named.invariant.goes c.value.ensures.goes;
  fit = all_fit_push c.loop-named.run c.value.new.run c.loop-named.values c.push.new.self c.in_ok-value.value c.in_ok-push.ensures.ok c.value.ensures.goes c.loop-named.invariant.fit c.in_ok-value.ensures.fits;
  count = ap length c.in_ok-push.ensures.ok ∙ simp length-append (omega (arith, c.loop-named.invariant.count));
}
