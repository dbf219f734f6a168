use Rattle.std.proofs.Common.{◌≡◌, List, ℕ, ◌++◌}
use Rattle.star_builtins.specs.Numerals.{continued}
use Rattle.star_builtins.specs.declared.functions.numerals.Reading.TheVariants.{Nothing}
use Rattle.star_builtins.proofs.functions.numerals.read_int.Given as goal

abbrev pub invariant-loop-c : goal.invariant-loop-c
invariant-loop-c l = (more : List ℕ) → continued l.reading more ≡ continued Nothing (l.yielded ++ more)
