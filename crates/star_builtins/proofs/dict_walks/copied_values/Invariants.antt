use Rattle.std.proofs.Common.{◌≡◌, ◌++◌, drop}
use Rattle.star_meaning.specs.Methods.{pair_values}
use Rattle.star_builtins.proofs.dict_walks.copied_values.Given as goal

abbrev pub invariant-loop-place : goal.invariant-loop-place
invariant-loop-place l = l.copies ++ drop l.place (pair_values l.pairs) ≡ pair_values l.pairs
