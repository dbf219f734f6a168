use Rattle.std.proofs.Common.{ap, ◌∙◌, subst}
use Rattle.exec_tree.specs.Merged.{IsFaultOf}
use Rattle.audit_run.specs.Rows.{failed_nodes}
use Rattle.shared_run.proofs.ReplayLemmas.{failed_are_nodes, not_too_many}
use Rattle.shared_run.proofs.recorded.plan_recorded.Goals as goal

pub unreachable-requires : goal.unreachable-requires
unreachable-requires c = not_too_many c.args.versions.now c.args.costs.now c.in-Err-TooManyNodes.field-0-0 c.requires.sound c.requires.fit (subst (IsFaultOf c.args.versions.now) c.in-Err-TooManyNodes.field-0-is c.in-Err-TooManyNodes.ensures.many)

pub cut-requires : goal.cut-requires
cut-requires c =
    failed_are_nodes c.args.versions.now c.args.costs.now c.in-Ok.forest c.in_ok-failed.failed.items c.as_slice-2.result.now c.requires.fit c.in-Ok.ensures.forest
    (c.in_ok-failed.ensures ∙ ap failed_nodes c.as_slice.ensures) c.as_slice-2.ensures.value
