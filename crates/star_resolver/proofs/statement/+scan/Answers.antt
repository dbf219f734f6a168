use Rattle.std.proofs.Common.{subst}
use Rattle.std.proofs.lemmas.Result.{err_from_is_err_and}
use Rattle.star_resolver.specs.Outcomes.{Gives}
use Rattle.star_resolver.proofs.StatementLayers.{if-stopped, if-ended}
use Rattle.star_resolver.proofs.statement.+scan.Goals as goal

pub statement-returns-in_err-branches-in-If : goal.statement-returns-in_err-branches-in-If
statement-returns-in_err-branches-in-If t c =
    let p = err_from_is_err_and c.from_residual-in_err-branches-in-If.result c.from_residual-in_err-branches-in-If.ensures.1 in
    rw (p.1, p.2)
    (if-stopped _ _ _ _ _ _ _ _ _ _ _ _ c.in-If.is c.as_slice.ensures c.branch-inner.ensures c.in_ok-branch-in-If.ensures c.in_err-branches-in-If.ensures)

pub statement-returns-in_ok-branches-in-If : goal.statement-returns-in_ok-branches-in-If
statement-returns-in_ok-branches-in-If t c =
    subst (λ o. Gives o c.otherwise.result c.otherwise.new.found)
    (if-ended _ _ _ _ _ _ _ _ _ _ _ c.in-If.is c.as_slice.ensures c.branch-inner.ensures c.in_ok-branch-in-If.ensures c.in_ok-branches-in-If.ensures)
    c.otherwise.ensures
