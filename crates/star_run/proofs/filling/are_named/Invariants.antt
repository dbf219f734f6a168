use Rattle.std.proofs.Common.{◌≡◌, drop, map}
use Rattle.std.specs.List.{list_all}
use Rattle.star_meaning.specs.World.{is_among}
use Rattle.star_run.specs.Filling.{seen}
use Rattle.star_run.proofs.filling.are_named.Given as goal

abbrev pub invariant-loop-entry : goal.invariant-loop-entry
invariant-loop-entry l = list_all (λ entry. is_among (map (λ p. p.0) (map seen l.parameters)) entry.0) l.named ≡ list_all (λ entry. is_among (map (λ p. p.0) (map seen l.parameters)) entry.0) (drop l.entry-index l.named)
