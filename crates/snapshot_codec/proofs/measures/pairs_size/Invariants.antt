use Rattle.std.proofs.Common.{◌≡◌, ◌-◌, ◌^◌, min}
use Rattle.star_meaning.specs.Snapshot.{pair_bytes}
use Rattle.snapshot_codec.proofs.Sizes.{size_so_far}
use Rattle.snapshot_codec.proofs.measures.pairs_size.Given as goal

abbrev pub invariant-loop-place : goal.invariant-loop-place
invariant-loop-place l = l.size ≡ min (size_so_far pair_bytes l.pairs l.place) (2 ^ 64 - 1)
