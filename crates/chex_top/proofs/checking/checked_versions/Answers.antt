use Rattle.std.proofs.Common.{◌≡◌, ◌++◌, ◌∷◌, [], ◌∙◌, length, arith, ap, sym, append_assoc}
use Rattle.std.specs.Vec.Iter.{into_iter_items}
use Rattle.std.proofs.lemmas.Result.{err_from_is_err_and}
use Rattle.chex_top.specs.Jobs.{IsCellRefusal, IsChecked, IsFirstBad}
use Rattle.chex_top.proofs.ZipLemmas.{zip_more}
use Rattle.chex_top.proofs.RefusedLemmas.{first_refused, handed_on}
use Rattle.chex_top.proofs.checking.checked_versions.Goals as goal

pub returns-in_err-checked_version-clause-refused : goal.returns-in_err-checked_version-clause-refused
returns-in_err-checked_version-clause-refused c =
    let at = c.loop-version in
    let x = c.in-Some.version in
    let steps : into_iter_items at.version-iterator ≡ x ∷ into_iter_items c.next.new.self = c.in-Some.ensures.steps.0 in
    let whole : at.yielded ++ x ∷ into_iter_items c.next.new.self ≡ c.args.versions =
    rw steps at at.invariant.whole ∙ c.into_iter-version-iterator.ensures.into_iter_gives.0 ∙ c.into_vec-version-items.ensures in
    let p = err_from_is_err_and c.from_residual.result c.from_residual.ensures.1 in
    handed_on (IsCellRefusal (IsFirstBad c.args.versions)) c.from_residual.result p.0 c.in_err-checked_version.field-0.0 p.1 p.2
    (first_refused c.args.versions at.yielded (into_iter_items c.next.new.self) at.all.items x c.in_err-checked_version.field-0.0 (sym whole) at.invariant.made
    c.in_err-checked_version.ensures.refused)

pub loop-version-preserved : goal.loop-version-preserved
loop-version-preserved c =
    let at = c.loop-version in
    let x = c.in-Some.version in
    let steps : into_iter_items at.version-iterator ≡ x ∷ into_iter_items c.next.new.self = c.in-Some.ensures.steps.0 in
    record {
      made = rw c.in_ok-push.ensures.items (zip_more IsChecked at.yielded at.all.items x c.in_ok-checked_version.field-0 at.invariant.made c.in_ok-checked_version.ensures.ok);
      whole = append_assoc at.yielded (x ∷ []) _ ∙ rw (← steps) at.invariant.whole;
      small = (rw steps at at.invariant.small).1;
      left =
          let was = at.invariant.left in
          let gone = c.in-Some.ensures.steps.1 in
          let short = ap length steps in
          omega arith;
    }
