use Rattle.std.proofs.Common.{◌≡◌, ◌++◌, drop}
use Rattle.star_builtins.proofs.dict_walks.copied_pairs.Given as goal

abbrev pub invariant-loop-place : goal.invariant-loop-place
invariant-loop-place l = l.copies.items ++ drop l.place l.pairs ≡ l.pairs
