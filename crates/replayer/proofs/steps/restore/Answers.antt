use Rattle.std.proofs.Common.{rules, refl}
use Rattle.replayer.specs.Nodes.{depth_at}
use Rattle.replayer.proofs.RestoreLemmas.{hurt}
use Rattle.replayer.proofs.steps.restore.Goals as goal

pub returns-in-Err-Damaged-clause-err : goal.returns-in-Err-Damaged-clause-err
returns-in-Err-Damaged-clause-err g c = (
  refl,
  hurt (g.K.Kernel.loaded c.args.kernel.now) c.args.node c.deref.result.now c.in-Ok.bytes.items (depth_at c.args.forest.now c.args.node) (g.S.Store.stock c.args.store.now).told
      c.in-Ok.ensures.told c.deref.ensures.value (c.in-Err-Damaged.ensures.damaged (first_of (cc, search rules))),
)
