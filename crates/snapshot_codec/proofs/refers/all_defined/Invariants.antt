use Rattle.std.proofs.Common.{◌≡◌, map, drop}
use Rattle.std.specs.List.{list_all}
use Rattle.snapshot_codec.specs.Contents.{object_of}
use Rattle.snapshot_codec.specs.Defined.{is_defined_in, table_of}
use Rattle.snapshot_codec.proofs.refers.all_defined.Given as goal

abbrev pub invariant-loop-object : goal.invariant-loop-object
invariant-loop-object l = list_all (is_defined_in (map table_of l.tables)) (map object_of (drop l.object-index l.objects)) ≡ list_all (is_defined_in (map table_of l.tables)) (map object_of l.objects)
