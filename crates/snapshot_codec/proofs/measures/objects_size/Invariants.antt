use Rattle.std.proofs.Common.{◌≡◌, ◌-◌, ◌^◌, ℕ, min}
use Rattle.std.specs.Prelude.{slice_get}
use Rattle.snapshot_codec.specs.Writing.{found_bytes}
use Rattle.snapshot_codec.proofs.Sizes.{size_so_far}
use Rattle.snapshot_codec.proofs.measures.objects_size.Given as goal

abbrev pub invariant-loop-id : goal.invariant-loop-id
invariant-loop-id l = l.size ≡ min (size_so_far (λ (id : ℕ). found_bytes (slice_get l.machine.state.objects id)) l.ids l.id-index) (2 ^ 64 - 1)
