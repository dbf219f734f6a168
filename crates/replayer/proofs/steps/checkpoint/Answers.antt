use Rattle.std.proofs.Common.{ap, rules}
use Rattle.std.specs.Prelude.{is_some}
use Rattle.replayer.proofs.RestoreLemmas.{never_full, was_put}
use Rattle.replayer.proofs.StepLemmas.{put_limits}
use Rattle.replayer.proofs.steps.checkpoint.Goals as goal

pub save-requires-clause-ready : goal.save-requires-clause-ready
save-requires-clause-ready g c = ap is_some c.requires.live.1

pub returns-in-Ok-clause-put : goal.returns-in-Ok-clause-put
returns-in-Ok-clause-put g c = was_put (g.K.Kernel.live c.args.kernel.now) c.args.node (g.S.Store.stock c.args.store.now) (g.S.Store.stock c.save.new.store) c.in-Ok.ensures.ok

pub returns-in-Ok-clause-limits : goal.returns-in-Ok-clause-limits
returns-in-Ok-clause-limits g c =
    put_limits (g.K.Kernel.live c.args.kernel.now) c.requires.live.0 c.args.node (g.S.Store.stock c.args.store.now) (g.S.Store.stock c.save.new.store) c.requires.live.1 c.in-Ok.ensures.ok

pub unreachable-requires : goal.unreachable-requires
unreachable-requires g c = never_full (g.K.Kernel.live c.args.kernel.now) (g.S.Store.stock c.args.store.now) c.requires.live (c.in-Err-Full.ensures.full (first_of (cc, search rules))).1
