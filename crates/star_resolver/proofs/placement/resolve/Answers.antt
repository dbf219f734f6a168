use Rattle.std.proofs.Common.{◌∙◌}
use Rattle.std.proofs.lemmas.Result.{err_from_is_err_and}
use Rattle.star_resolver.proofs.Whole.{placed-walked, names-walked, first-walked}
use Rattle.star_resolver.proofs.placement.resolve.Goals as goal

pub new-requires-clause-placed : goal.new-requires-clause-placed
new-requires-clause-placed c =
    placed-walked c.args.module c.statements.new.found
    (rw (c.cell.ensures, c.as_slice.ensures, c.new-found.ensures) at c.in_ok-statements.ensures)

pub new-requires-clause-names : goal.new-requires-clause-names
new-requires-clause-names c = record {
  rising = c.in_ok-into_names.ensures.rising;
  same = c.in_ok-into_names.ensures.same
      ∙ names-walked c.args.module c.statements.new.found
      (rw (c.cell.ensures, c.as_slice.ensures, c.new-found.ensures) at c.in_ok-statements.ensures);
}

pub returns-in_err-statements-clause-breach : goal.returns-in_err-statements-clause-breach
returns-in_err-statements-clause-breach c =
    let p = err_from_is_err_and c.from_residual.result c.from_residual.ensures.1 in
    rw (p.1, p.2)
    (first-walked c.args.module c.in_err-statements.field-0.0 _ _ _ _ c.cell.ensures c.as_slice.ensures c.new-found.ensures c.in_err-statements.ensures)
