use Rattle.std.proofs.Common.{◌≡◌, ◌++◌, ℕ, List, Option, drop, take, map}
use Rattle.star_meaning.specs.World.{bound_in}
use Rattle.star_value.specs.declared.value.Value.{Value}
use Rattle.star_run.proofs.slots.Slots.bind.Given as goal

abbrev pub invariant-loop-at : goal.invariant-loop-at
invariant-loop-at l =
    (map {B = List ℕ × Option Value} (λ slot. (slot.0.value, slot.1)) l.self-inside.slots.items ≡ map {B = List ℕ × Option Value} (λ slot. (slot.0.value, slot.1)) l.initial.self-inside.slots.items)
    × (bound_in (map {B = List ℕ × Option Value} (λ slot. (slot.0.value, slot.1)) l.self-inside.slots.items) l.name l.value ≡ map {B = List ℕ × Option Value} (λ slot. (slot.0.value, slot.1)) (take l.at l.self-inside.slots.items) ++ bound_in (map {B = List ℕ × Option Value} (λ slot. (slot.0.value, slot.1)) (drop l.at l.self-inside.slots.items)) l.name l.value)
