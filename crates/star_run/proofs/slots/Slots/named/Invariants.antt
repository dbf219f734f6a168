use Rattle.std.proofs.Common.{◌≡◌, drop, map}
use Rattle.star_meaning.specs.Values.{named_in}
use Rattle.star_run.proofs.slots.Slots.named.Given as goal

abbrev pub invariant-loop-slot : goal.invariant-loop-slot
invariant-loop-slot l = named_in (map (λ slot. (slot.0.value, slot.1)) l.slot-items) l.name ≡ named_in (map (λ slot. (slot.0.value, slot.1)) (drop l.slot-index l.slot-items)) l.name
