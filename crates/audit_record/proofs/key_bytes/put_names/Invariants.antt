use Rattle.std.proofs.Common.{◌≡◌, ◌++◌, length, map, take}
use Rattle.std.specs.List.{flat_map}
use Rattle.exec_tree.specs.Keys.{named}
use Rattle.audit_record.specs.Digests.{count_bytes, named_bytes}
use Rattle.audit_record.proofs.key_bytes.put_names.Given as goal

abbrev pub invariant-loop-name : goal.invariant-loop-name
invariant-loop-name l = l.out.items ≡ l.fn.out.items ++ count_bytes (length l.names) ++ flat_map named_bytes (map (named l.inputs) (take l.name-index l.names))
