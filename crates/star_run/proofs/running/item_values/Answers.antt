use Rattle.std.proofs.Common.{◌≡◌, ◌≤◌, ◌∙◌, arith, rules, sym, ap, subst, lit≤, Err, Ok, refl, []}
use Rattle.std.proofs.Common.{◌++◌, ◌∷◌, List}
use Rattle.std.proofs.lemmas.Grind.{common_steps}
use Rattle.star_run.proofs.RunLemmas.{all_fit_push}
use Rattle.star_run.proofs.running.item_values.Goals as goal

pub loop-item-preserved : goal.loop-item-preserved
loop-item-preserved c = record {
  same = grind (arith, common_steps);
  fit = λ m. rw c.in_ok-push.ensures.ok (all_fit_push m c.loop-item.values _ (c.loop-item.invariant.fit m) (c.in_ok-value.ensures.fits m));
}
