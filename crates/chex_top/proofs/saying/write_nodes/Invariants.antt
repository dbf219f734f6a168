use Rattle.std.proofs.Common.{◌≤◌, take, encode_utf8_all}
use Rattle.chex_base.specs.Outside.{GrewBy}
use Rattle.shared_run.specs.Written.{written}
use Rattle.chex_top.proofs.saying.write_nodes.Given as goal

abbrev pub invariant-loop-node : goal.invariant-loop-node
invariant-loop-node g l = record {
  held : GrewBy (encode_utf8_all (written l.texts (take l.node-index l.nodes))) (g.W.Sink.held l.fn.out) (g.W.Sink.held l.out);
  later : g.W.Sink.faults l.fn.out ≤ g.W.Sink.faults l.out;
}
