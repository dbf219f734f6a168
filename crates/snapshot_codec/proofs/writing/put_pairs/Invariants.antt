use Rattle.std.proofs.Common.{◌≡◌, ◌++◌, length, take}
use Rattle.std.specs.List.{flat_map}
use Rattle.star_meaning.specs.Snapshot.{count_bytes}
use Rattle.snapshot_codec.specs.Writing.{number_in, pair_bytes_by}
use Rattle.snapshot_codec.proofs.writing.put_pairs.Given as goal

abbrev pub invariant-loop-place : goal.invariant-loop-place
invariant-loop-place l = l.out.items ≡ l.fn.out.items ++ count_bytes (length l.pairs) ++ flat_map (pair_bytes_by (number_in l.numbers.order.keys)) (take l.place l.pairs)
