use Rattle.std.proofs.Common.{◌≡◌, map, take}
use Rattle.star_run.specs.Filling.{seen}
use Rattle.star_run.proofs.filling.with_body.Given as goal

abbrev pub invariant-loop-parameter : goal.invariant-loop-parameter
invariant-loop-parameter l = l.names ≡ map (λ p. p.0) (map seen (take l.parameter-index l.parameters))
