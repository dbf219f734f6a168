use Rattle.std.proofs.Common.{◌≡◌, take, map}
use Rattle.star_meaning.specs.World.{unbound}
use Rattle.star_run.proofs.slots.Slots.of.Given as goal

abbrev pub invariant-loop-name : goal.invariant-loop-name
invariant-loop-name l = map (λ slot. (slot.0.value, slot.1)) l.slots.items ≡ unbound (map (λ name. name.value) (take l.name-index l.name-items))
