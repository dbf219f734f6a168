use Rattle.std.proofs.Common.{arith}
use Rattle.star_syntax.proofs.StatementLemmas.{statement_laws, if_whole, def_parts}
use Rattle.star_syntax.proofs.spelling.statements.+spell.Goals as goal

pub definition-returns : goal.definition-returns
definition-returns t c = let e = def_parts c.args.tree.now in grind (arith, statement_laws)

pub statement-returns-in_ok-otherwise-in-If : goal.statement-returns-in_ok-otherwise-in-If
statement-returns-in_ok-otherwise-in-If t c =
    if_whole _ _ _ _ _ _ _ _ _ _ c.in-If.is c.as_slice.ensures c.in_ok-case-in-If.ensures c.in_ok-branches-in-If.ensures c.in_ok-otherwise-in-If.ensures
