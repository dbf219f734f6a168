use Rattle.std.proofs.Common.{◌≡◌, take}
use Rattle.star_builtins.proofs.functions.pairing.copied_pairs.Given as goal

abbrev pub invariant-loop-place : goal.invariant-loop-place
invariant-loop-place l = l.copies ≡ take l.place l.pairs
