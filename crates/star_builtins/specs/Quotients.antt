-- The size of what is left of a division that rounds down: it has the sign of the divisor.
use Rattle.std.specs.Prelude.{ℕ, zero, suc, ◌-◌, ◌%◌, ℤ, pos, negsuc, neg_ℤ}

abbrev pub rest_size : ℤ → ℤ → ℕ
rest_size (pos a) (pos b) = a % b
rest_size (negsuc a) (pos b) = b - 1 - a % b
rest_size (pos zero) (negsuc b) = 0
rest_size (pos (suc a)) (negsuc b) = b - a % suc b
rest_size (negsuc a) (negsuc b) = suc a % suc b

-- a size with the sign of an integer
abbrev pub signed_as : ℤ → ℕ → ℤ
signed_as (pos b) size = pos size
signed_as (negsuc b) size = neg_ℤ (pos size)
