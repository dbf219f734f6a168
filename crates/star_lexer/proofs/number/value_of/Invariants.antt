use Rattle.std.proofs.Common.{◌≡◌, ◌≤◌, drop}
use Rattle.std.specs.Str.Parse.{digits_value_after, digits_value}
use Rattle.star_lexer.specs.Numbers.{widest}
use Rattle.star_lexer.proofs.number.value_of.Given as goal

abbrev pub invariant-loop-c : goal.invariant-loop-c
invariant-loop-c l = (digits_value_after l.radix l.value (drop l.c-index l.digits) ≡ digits_value l.radix l.digits) × (l.value ≤ widest)
