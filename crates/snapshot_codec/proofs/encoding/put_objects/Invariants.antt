use Rattle.std.proofs.Common.{◌≡◌, ◌++◌, ℕ, length, take}
use Rattle.std.specs.List.{flat_map}
use Rattle.std.specs.Prelude.{slice_get}
use Rattle.star_meaning.specs.Snapshot.{count_bytes}
use Rattle.snapshot_codec.specs.Writing.{found_bytes_by, number_in}
use Rattle.snapshot_codec.proofs.encoding.put_objects.Given as goal

abbrev pub invariant-loop-id : goal.invariant-loop-id
invariant-loop-id l = l.out.items ≡ l.fn.out.items ++ count_bytes (length l.ids) ++ flat_map (λ (id : ℕ). found_bytes_by (number_in l.numbers.order.keys) (slice_get l.machine.state.objects id)) (take l.id-index l.ids)
