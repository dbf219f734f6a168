-- How many blocks a snapshot can have.
use Rattle.std.proofs.Common.{◌≡◌, ℕ, zero, suc, ◌+◌, ◌-◌, ◌*◌, ◌^◌, ◌<◌, ◌≤◌, ◌⊎◌, inl, inr, arith, mul-le-mul_left}
use Rattle.std.specs.Int.{div_ceil}
use Rattle.std.proofs.lemmas.Grind.{div_ceil_times}

one_less : (c b : ℕ) → 1 ≤ c → c * b ≡ b + (c - 1) * b
one_less zero b some = absurd (omega arith)
one_less (suc c) b some = let e : suc c - 1 ≡ c = omega arith in rw e (times c b)
  where
    times : (c b : ℕ) → suc c * b ≡ b + c * b
    times c b = omega arith

-- bytes that fit 64 bits are at most 2 ^ 56 blocks
pub ceil_small : (a b : ℕ) → a < 2 ^ 64 → 256 ≤ b → div_ceil a b ≤ 2 ^ 56
ceil_small a b fits large = by (cases (div_ceil a b) (2 ^ 56))
  where
    cases : (c m : ℕ) → (c ≤ m) ⊎ (m < c)
    cases c m = grind arith

    by : (div_ceil a b ≤ 2 ^ 56) ⊎ (2 ^ 56 < div_ceil a b) → div_ceil a b ≤ 2 ^ 56
    by (inl le) = le
    by (inr more) =
        let t = (div_ceil_times a b (omega arith)).1 in
        let o = one_less (div_ceil a b) b (omega arith) in
        let m = mul-le-mul_left (div_ceil a b - 1) large in
        absurd (omega (arith, t, o, m))
