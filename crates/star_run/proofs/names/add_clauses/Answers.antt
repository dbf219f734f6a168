use Rattle.star_run.specs.Locals.{clause_bound}
use Rattle.star_run.proofs.LocalLemmas.{names_step}
use Rattle.star_run.proofs.names.add_clauses.Goals as goal

pub loop-clause-preserved : goal.loop-clause-preserved
loop-clause-preserved c = names_step clause_bound c.args.clauses.now c.loop-clause.clause-index c.clause-item.result _ _ _ c.loop-clause-test.true c.clause-item.is c.loop-clause.invariant c.in_ok-add_clause.ensures
