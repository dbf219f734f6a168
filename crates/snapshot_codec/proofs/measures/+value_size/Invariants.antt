use Rattle.std.proofs.Common.{◌≡◌, ◌-◌, ◌^◌, min}
use Rattle.star_meaning.specs.Snapshot.{value_bytes}
use Rattle.snapshot_codec.proofs.Sizes.{size_so_far}
use Rattle.snapshot_codec.proofs.measures.+value_size.Given as goal

abbrev pub invariant-values_size-loop-value : goal.invariant-values_size-loop-value
invariant-values_size-loop-value l = l.size ≡ min (size_so_far value_bytes l.values l.value-index) (2 ^ 64 - 1)
