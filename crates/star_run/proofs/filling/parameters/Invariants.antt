use Rattle.std.proofs.Common.{◌≡◌, ◌++◌, drop, map, take}
use Rattle.star_meaning.specs.Statements.{default_names, parameters_of}
use Rattle.star_run.specs.Filling.{seen}
use Rattle.star_run.proofs.ArgumentLemmas.{bare}
use Rattle.star_run.proofs.filling.parameters.Given as goal

abbrev pub invariant-loop-name : goal.invariant-loop-name
invariant-loop-name l = map seen l.parameters.items ≡ map bare (take l.name-index l.name-items)

abbrev pub invariant-loop-place : goal.invariant-loop-place
invariant-loop-place l = map seen l.parameters.items ++ default_names (drop l.place l.def.defaults) (drop l.place l.defaults) ≡ parameters_of l.def l.defaults
