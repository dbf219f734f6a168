-- Integers of 128 bits.
use Rattle.std.proofs.Common.{◌≡◌, Option, Some, None, arith}
use Rattle.std.proofs.lemmas.Bool.Decides.{nat_tests}
use Rattle.std.specs.Prelude.{ℤ, pos, negsuc, SomeIff, FitsSigned}
use Rattle.std.specs.Int.{w128}
use Rattle.star_meaning.specs.Values.{in_range}

pub in_range_if : (z : ℤ) (r : Option ℤ) → SomeIff r (FitsSigned w128 z) z → r ≡ in_range z
unfolding in_range
in_range_if (pos n) (Some x) h = grind (arith, nat_tests)
in_range_if (pos n) None h = grind (arith, nat_tests)
in_range_if (negsuc n) (Some x) h = grind (arith, nat_tests)
in_range_if (negsuc n) None h = grind (arith, nat_tests)

pub in_range_fits : (z : ℤ) → FitsSigned w128 z → Some z ≡ in_range z
unfolding in_range
in_range_fits (pos n) h = grind (arith, nat_tests)
in_range_fits (negsuc n) h = grind (arith, nat_tests)
