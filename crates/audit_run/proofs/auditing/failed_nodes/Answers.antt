use Rattle.std.proofs.Common.{◌≡◌, ◌+◌, length, refl, arith}
use Rattle.audit_run.proofs.FailedLemmas.{failed_all, failed_more}
use Rattle.audit_run.proofs.auditing.failed_nodes.Goals as goal

pub loop-place-preserved : goal.loop-place-preserved
loop-place-preserved c =
    let at = c.loop-place in
    failed_more c.args.rows.now at.place (at.place + 1) c.index-rows-place.result c.is_failed.result at.nodes.items _ c.loop-place-test.true c.index-rows-place.is refl c.is_failed.ensures c.in_ok-push_node_if.ensures at.invariant

pub returns : goal.returns
returns c =
    let at = c.loop-place in
    failed_all c.args.rows.now at.place at.nodes.items (omega (arith, c.loop-place-test.false)) at.invariant
