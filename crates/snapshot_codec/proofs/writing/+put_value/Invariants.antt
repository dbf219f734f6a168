use Rattle.std.proofs.Common.{◌≡◌, ◌++◌, length, take}
use Rattle.std.specs.List.{flat_map}
use Rattle.star_meaning.specs.Snapshot.{count_bytes}
use Rattle.snapshot_codec.specs.Writing.{number_in, value_bytes_by}
use Rattle.snapshot_codec.proofs.writing.+put_value.Given as goal

abbrev pub invariant-put_values-loop-value : goal.invariant-put_values-loop-value
invariant-put_values-loop-value l = l.out.items ≡ l.fn.out.items ++ count_bytes (length l.values) ++ flat_map (value_bytes_by (number_in l.numbers.order.keys)) (take l.value-index l.values)
