use Rattle.std.proofs.Common.{ℕ, ◌+◌, [], length, ap, ◌∙◌}
use Rattle.std.proofs.lemmas.List.{length_push}
use Rattle.std.proofs.lemmas.Result.{err_from_is_err_and}
use Rattle.snapshot_codec.specs.Reading.{many_at, node_at}
use Rattle.snapshot_codec.proofs.ReadingSteps.{ends, goes_on, is_done, no_node, node_is}
use Rattle.snapshot_codec.proofs.parts.many_nodes_at.Goals as goal

pub returns-in_err-id-clause-gives : goal.returns-in_err-id-clause-gives
returns-in_err-id-clause-gives c =
    let p = err_from_is_err_and c.from_residual.result c.from_residual.ensures.1 in
    rw (p.1, p.2) (ends node_at c.in_err-id.field-0.0 c.loop.nodes c.args.count c.loop.counter 0 c.loop.rest.now (many_at node_at c.args.count [] 0 c.args.bytes.now) c.loop-test.true (no_node c.in_err-id.field-0.0 c.loop.nodes c.loop.rest.now c.in_err-id.ensures) c.loop.invariant.0)

pub loop-preserved : goal.loop-preserved
loop-preserved c = (
  rw c.in_ok-push.ensures.ok
      (goes_on node_at c.loop.nodes c.args.count c.loop.counter 0 c.loop.rest.now c.in_ok-id.id 0 c.in_ok-id.after.now (many_at node_at c.args.count [] 0 c.args.bytes.now) c.loop-test.true (node_is c.loop.nodes c.loop.rest.now c.in_ok-id.id c.in_ok-id.after.now c.in_ok-id.ensures) c.loop.invariant.0),
  ap length c.in_ok-push.ensures.ok ∙ length_push c.loop.nodes c.in_ok-id.id ∙ ap (λ (n : ℕ). n + 1) c.loop.invariant.1,
)

pub returns-clause-gives : goal.returns-clause-gives
returns-clause-gives c = is_done node_at c.loop.nodes c.args.count c.loop.counter 0 c.loop.rest.now (many_at node_at c.args.count [] 0 c.args.bytes.now) c.loop-test.false c.loop.invariant.0
