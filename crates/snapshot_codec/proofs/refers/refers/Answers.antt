use Rattle.snapshot_codec.specs.Contents.{state_of}
use Rattle.snapshot_codec.proofs.DefinedLaws.{refers_all, refers_first, refers_second}
use Rattle.snapshot_codec.proofs.refers.refers.Goals as goal

pub returns-then-not-numbers_fit : goal.returns-then-not-numbers_fit
returns-then-not-numbers_fit c = refers_first c.args.program.now (state_of c.args.parts.now) c.if-not-numbers_fit.ensures

pub returns-then-not-nodes_known : goal.returns-then-not-nodes_known
returns-then-not-nodes_known c = refers_second c.args.program.now (state_of c.args.parts.now) c.if-not-numbers_fit.ensures c.if-not-nodes_known.ensures

pub returns : goal.returns
returns c = refers_all c.args.program.now (state_of c.args.parts.now) _ c.if-not-numbers_fit.ensures c.if-not-nodes_known.ensures c.in_ok-all.ensures
