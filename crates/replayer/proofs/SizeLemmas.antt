-- Sizes of snapshots that take few blocks.
use Rattle.std.proofs.Common.{◌≡◌, ℕ, ◌+◌, ◌-◌, ◌*◌, ◌^◌, ◌<◌, ◌≤◌, min, arith}
use Rattle.std.specs.Int.{div_ceil}
use Rattle.std.proofs.lemmas.Grind.{div_ceil_times}
use Rattle.std.proofs.lemmas.Nat.{mul-le}

chain : (a b c : ℕ) → a ≤ b → b ≤ c → a ≤ c
chain a b c low high = omega (arith, low, high)

few_bytes : (size block most : ℕ) → div_ceil size block ≤ most → most ≤ 1024 → 1 ≤ block → block ≤ 1048576 → size ≤ 1024 * 1048576
few_bytes size block most fits few some large =
    let t = (div_ceil_times size block (omega arith)).0 in
    let m = mul-le (div_ceil size block) block 1024 1048576 (chain (div_ceil size block) most 1024 fits few) large in
    chain size (div_ceil size block * block) (1024 * 1048576) t m

-- where the size that is kept takes few blocks, it is that of the bytes
pub size_is : (count size block most : ℕ) → size ≡ min count (2 ^ 64 - 1) → div_ceil size block ≤ most → most ≤ 1024 → 1 ≤ block → block ≤ 1048576 → size ≡ count
size_is count size block most is fits few some large =
    let f = few_bytes size block most fits few some large in omega (arith, is, f)
