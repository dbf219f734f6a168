use Rattle.std.proofs.Common.{◌≡◌, map, drop}
use Rattle.std.specs.List.{list_any}
use Rattle.snapshot_codec.specs.Defined.{has_function, table_of}
use Rattle.snapshot_codec.proofs.refers.any_function.Given as goal

abbrev pub invariant-loop-made : goal.invariant-loop-made
invariant-loop-made l = list_any (has_function l.cell l.number l.count) (map table_of (drop l.made-index l.tables)) ≡ list_any (has_function l.cell l.number l.count) (map table_of l.tables)
