use Rattle.std.proofs.Common.{◌≡◌, ◌++◌, length, take}
use Rattle.std.specs.List.{flat_map}
use Rattle.star_meaning.specs.Snapshot.{count_bytes, id_bytes}
use Rattle.snapshot_codec.proofs.encoding.put_nodes.Given as goal

abbrev pub invariant-loop-node : goal.invariant-loop-node
invariant-loop-node l = l.out.items ≡ l.fn.out.items ++ count_bytes (length l.ran) ++ flat_map id_bytes (take l.node-index l.ran)
