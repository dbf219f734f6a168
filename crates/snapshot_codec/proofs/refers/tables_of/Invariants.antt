use Rattle.std.proofs.Common.{◌≡◌, ◌++◌, map, drop}
use Rattle.snapshot_codec.specs.Defined.{table_of, tables_of}
use Rattle.snapshot_codec.proofs.refers.tables_of.Given as goal

abbrev pub invariant-loop-node : goal.invariant-loop-node
invariant-loop-node l = map table_of l.tables.items ++ tables_of l.program (drop l.node-index l.ran) ≡ tables_of l.program l.ran
