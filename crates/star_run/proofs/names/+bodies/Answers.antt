use Rattle.star_meaning.specs.Statements.{body_names, statement_names}
use Rattle.star_run.specs.Locals.{branch_bound, with_names}
use Rattle.star_run.proofs.LocalLemmas.{if_alone, if_other, if_step, names_step, on_ok}
use Rattle.std.proofs.Common.{◌≡◌}
use Rattle.star_run.proofs.names.+bodies.Goals as goal

pub add_statements-loop-statement-preserved : goal.add_statements-loop-statement-preserved
add_statements-loop-statement-preserved t c = names_step statement_names c.args.all.now c.loop-statement.statement-index c.statement-item.result _ _ _ c.loop-statement-test.true c.statement-item.is c.loop-statement.invariant c.in_ok-add_statement.ensures

pub add_branches-loop-branch-preserved : goal.add_branches-loop-branch-preserved
add_branches-loop-branch-preserved t c = names_step branch_bound c.args.all.now c.loop-branch.branch-index c.branch-item.result _ _ _ c.loop-branch-test.true c.branch-item.is c.loop-branch.invariant c.in_ok-add_body.ensures

pub add_statement-returns-in-None : goal.add_statement-returns-in-None
add_statement-returns-in-None t c =
    if_step c.args.statement.now c.in-If.field-0 c.in-If.first c.in-If.more _ c.in-If.other _ _ _ _ c.in-If.is c.in_ok-add_body-in-If.ensures c.in_ok-add_branches-in-If.ensures c.as_slice.ensures
    (if_alone c.add_branches.new.names c.in-If.other c.in-None.is)

pub add_statement-returns-in-Some : goal.add_statement-returns-in-Some
add_statement-returns-in-Some t c =
    on_ok c.add_body-in-Some.result (c.add_body-in-Some.new.names ≡ with_names c.add_branches.new.names (body_names c.in-Some.body)) (c.add_body-in-Some.new.names ≡ with_names c.args.names.now (statement_names c.args.statement.now))
    (λ now. if_step c.args.statement.now c.in-If.field-0 c.in-If.first c.in-If.more _ c.in-If.other _ _ _ _ c.in-If.is c.in_ok-add_body-in-If.ensures c.in_ok-add_branches-in-If.ensures c.as_slice.ensures
    (if_other c.add_branches.new.names c.add_body-in-Some.new.names c.in-Some.body c.in-If.other c.in-Some.is now)) c.add_body-in-Some.ensures
