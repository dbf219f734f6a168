use Rattle.std.proofs.Common.{◌≡◌, ◌-◌, [], length}
use Rattle.snapshot_codec.specs.Reading.{many_at, node_at}
use Rattle.snapshot_codec.proofs.parts.many_nodes_at.Given as goal

abbrev pub invariant-loop : goal.invariant-loop
invariant-loop l = (many_at node_at (l.count - l.counter) l.nodes 0 l.rest ≡ many_at node_at l.count [] 0 l.bytes) × (length l.nodes ≡ l.counter)
