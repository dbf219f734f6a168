use Rattle.std.proofs.Common.{◌≡◌, drop, map}
use Rattle.star_meaning.specs.World.{is_among}
use Rattle.star_run.specs.Filling.{seen}
use Rattle.star_run.proofs.filling.is_parameter.Given as goal

abbrev pub invariant-loop-parameter : goal.invariant-loop-parameter
invariant-loop-parameter l = is_among (map (λ p. p.0) (map seen l.parameters)) l.name ≡ is_among (map (λ p. p.0) (map seen (drop l.parameter-index l.parameters))) l.name
