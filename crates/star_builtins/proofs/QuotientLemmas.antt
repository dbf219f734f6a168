-- Division that rounds down, by the sizes of the two integers.
use Rattle.std.proofs.Common.{◌≡◌, ℕ, suc, zero, ◌-◌, ◌/◌, ◌%◌, false, arith, ℤ, pos, negsuc, ◌-ℤ◌, ◌*ℤ◌}
use Rattle.std.specs.Prelude.{neg_ℤ}
use Rattle.std.proofs.lemmas.Int.{ints}
use Rattle.star_meaning.specs.Values.{rest_of, is_zero}
use Rattle.star_builtins.specs.Quotients.{rest_size, signed_as}

up_up : (a b : ℕ) → pos a -ℤ (pos (suc b) *ℤ pos (a / suc b)) ≡ pos (a % suc b)
up_up a b = omega (arith, ints)

down_up : (a b : ℕ) → negsuc a -ℤ (pos (suc b) *ℤ negsuc (a / suc b)) ≡ pos (suc b - 1 - a % suc b)
down_up a b = omega (arith, ints)

up_down : (a b : ℕ) → pos (suc a) -ℤ (negsuc b *ℤ negsuc (a / suc b)) ≡ neg_ℤ (pos (b - a % suc b))
up_down a b = omega (arith, ints)

down_down : (a b : ℕ) → negsuc a -ℤ (negsuc b *ℤ pos (suc a / suc b)) ≡ neg_ℤ (pos (suc a % suc b))
down_down a b = omega (arith, ints)

zero_down : (b : ℕ) → pos 0 -ℤ (negsuc b *ℤ pos 0) ≡ pos 0
zero_down b = omega (arith, ints)

pub rest_is : (x y : ℤ) → is_zero y ≡ false → rest_of x y ≡ signed_as y (rest_size x y)
rest_is x (pos zero) h = absurd (cc)
rest_is (pos a) (pos (suc b)) h = up_up a b
rest_is (negsuc a) (pos (suc b)) h = down_up a b
rest_is (pos zero) (negsuc b) h = zero_down b
rest_is (pos (suc a)) (negsuc b) h = up_down a b
rest_is (negsuc a) (negsuc b) h = down_down a b
