use Rattle.std.proofs.Common.{drop, map, reverse}
use Rattle.star_run.specs.Filling.{seen}
use Rattle.star_run.proofs.FillLemmas.{Progress}
use Rattle.star_run.proofs.filling.filled.Given as goal

abbrev pub invariant-loop-parameter : goal.invariant-loop-parameter
invariant-loop-parameter l = Progress (map seen l.parameters) (map seen (drop l.parameter-index l.parameters)) l.fn.positional (reverse l.waiting.items) l.named l.slots l.weight
