use Rattle.std.proofs.Common.{◌≡◌, ◌∙◌, sym, rules, Err}
use Rattle.star_builtins.proofs.Quoted.{drop_here}
use Rattle.star_builtins.proofs.Ordered.{searched_failed, searched_found, searched_step}
use Rattle.star_builtins.proofs.membership.search_in.Goals as goal

pub returns-in_err-equal : goal.returns-in_err-equal
returns-in_err-equal c =
    let r : c.from_residual.result ≡ Err c.in_err-equal.field-0.0 = search rules in
    rw (← c.loop-place.invariant, r) (searched_failed c.args.wanted.now c.args.items.now _ _ _ _ _ (drop_here _ _ _ c.loop-place-test.true c.index-items-place.is) c.in_err-equal.ensures)

pub returns-then-branch : goal.returns-then-branch
returns-then-branch c =
    sym c.loop-place.invariant ∙ searched_found c.args.wanted.now c.args.items.now _ _ _ _ (drop_here _ _ _ c.loop-place-test.true c.index-items-place.is) (rw c.if-branch.true at c.in_ok-equal.ensures)

pub loop-place-preserved : goal.loop-place-preserved
loop-place-preserved c =
    searched_step c.args.wanted.now c.args.items.now _ _ _ _ (drop_here _ _ _ c.loop-place-test.true c.index-items-place.is) (rw c.if-branch.false at c.in_ok-equal.ensures) ∙ c.loop-place.invariant
