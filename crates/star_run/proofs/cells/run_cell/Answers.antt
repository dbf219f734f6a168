use Rattle.std.proofs.Common.{◌≡◌, ◌∙◌, ◌-◌, ℕ, List, sym, ap, subst}
use Rattle.star_syntax.specs.declared.statement.Module.{Module}
use Rattle.star_syntax.specs.declared.statement.Statement.{Statement}
use Rattle.star_meaning.specs.Validity.{IsMachine}
use Rattle.star_run.specs.Own.{NumbersFrom}
use Rattle.star_run.proofs.CellLemmas.{cell_after, cell_ran, cell_valid, numbers_of}
use Rattle.star_run.proofs.cells.run_cell.Goals as goal

pub run_statements-outcome-requires-clause-numbers : goal.run_statements-outcome-requires-clause-numbers
run_statements-outcome-requires-clause-numbers c =
    subst (λ (all : List Statement). NumbersFrom c.args.program.now c.args.node 0 all) (sym (c.as_slice-statements.ensures ∙ ap (λ (m : Module). m.statements) c.module.ensures))
    (numbers_of c.args.program.now c.args.node c.in-Some.cell.now (sym c.in-Some.ensures))

pub returns-clause-ran : goal.returns-clause-ran
returns-clause-ran c =
    cell_ran c.args.program.now c.args.machine.now c.args.node c.args.inputs.now c.args.allowance c.in-Some.cell.now (sym c.in-Some.ensures) c.replace-entered.result (c.replace-entered.ensures.value ∙ c.in_ok-enter.ensures.ok)
    c.begin-run.result c.run_statements-outcome.new.run c.begin-run.ensures c.run_statements-outcome.ensures.goes c.end-reached.result.0 (ap (λ t. t.0) c.end-reached.ensures)
    c.as_slice-statements.result.now (c.as_slice-statements.ensures ∙ ap (λ (m : Module). m.statements) c.module.ensures) c.run_statements-outcome.result c.run_statements-outcome.ensures.gives
    c.end-reached.result.1 c.saturating_sub.result (ap (λ t. t.1) c.end-reached.ensures) (c.saturating_sub.ensures ∙ ap (λ n. c.args.allowance - n) (ap (λ t. t.2) c.end-reached.ensures)) c.ended.result c.ended.ensures.ok

pub returns-clause-state : goal.returns-clause-state
returns-clause-state c =
    cell_after c.args.program.now c.args.machine.now c.args.node c.args.inputs.now c.args.allowance c.in-Some.cell.now (sym c.in-Some.ensures) c.replace-entered.result (c.replace-entered.ensures.value ∙ c.in_ok-enter.ensures.ok)
    c.begin-run.result c.run_statements-outcome.new.run c.begin-run.ensures c.run_statements-outcome.ensures.goes c.end-reached.result.0 (ap (λ t. t.0) c.end-reached.ensures)
    c.as_slice-statements.result.now (c.as_slice-statements.ensures ∙ ap (λ (m : Module). m.statements) c.module.ensures) c.run_statements-outcome.result c.run_statements-outcome.ensures.gives
    c.end-reached.result.1 c.saturating_sub.result (ap (λ t. t.1) c.end-reached.ensures) (c.saturating_sub.ensures ∙ ap (λ n. c.args.allowance - n) (ap (λ t. t.2) c.end-reached.ensures)) c.ended.result c.ended.ensures.ok

pub returns-clause-valid : goal.returns-clause-valid
returns-clause-valid c =
    cell_valid c.args.program.now c.args.machine.now c.args.node c.args.inputs.now c.args.allowance c.in-Some.cell.now (sym c.in-Some.ensures) c.replace-entered.result (c.replace-entered.ensures.value ∙ c.in_ok-enter.ensures.ok)
    c.begin-run.result c.run_statements-outcome.new.run c.begin-run.ensures c.run_statements-outcome.ensures.goes c.end-reached.result.0 (ap (λ t. t.0) c.end-reached.ensures)
    c.requires.valid c.requires.known (subst IsMachine (sym c.replace-entered.ensures.value) c.ran-nodes.ensures.kept)
