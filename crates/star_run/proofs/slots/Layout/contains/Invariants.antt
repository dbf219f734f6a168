use Rattle.std.proofs.Common.{◌≡◌, drop, map}
use Rattle.star_meaning.specs.World.{is_among}
use Rattle.star_run.proofs.slots.Layout.contains.Given as goal

abbrev pub invariant-loop-held : goal.invariant-loop-held
invariant-loop-held l = is_among (map (λ name. name.value) l.held-items) l.name ≡ is_among (map (λ name. name.value) (drop l.held-index l.held-items)) l.name
