use Rattle.std.proofs.Common.{◌≡◌, ◌-◌, ◌^◌, min}
use Rattle.star_value.specs.Keys as keys
use Rattle.star_meaning.specs.Snapshot.{value_bytes}
use Rattle.snapshot_codec.proofs.Sizes.{size_so_far}
use Rattle.snapshot_codec.proofs.measures.+key_size.Given as goal

abbrev pub invariant-keys_size-loop-key : goal.invariant-keys_size-loop-key
invariant-keys_size-loop-key l = l.size ≡ min (size_so_far (λ k. value_bytes (keys.value_of k)) l.parts l.key-index) (2 ^ 64 - 1)
