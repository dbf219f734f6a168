use Rattle.std.proofs.Common.{◌≡◌, ◌++◌, length, take}
use Rattle.std.specs.List.{flat_map}
use Rattle.audit_record.specs.Digests.{count_bytes, item_bytes}
use Rattle.audit_record.proofs.key_bytes.put_items.Given as goal

abbrev pub invariant-loop-item : goal.invariant-loop-item
invariant-loop-item l = l.out.items ≡ l.fn.out.items ++ count_bytes (length l.items) ++ flat_map item_bytes (take l.item-index l.items)
