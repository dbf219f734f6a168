-- A range gives as many integers as come before its stop.
use Rattle.std.proofs.Common.{ℕ, zero, suc, ◌*◌, ◌/◌, ◌<◌, ◌≤◌, ℤ, pos, negsuc, ◌+ℤ◌, ◌-ℤ◌, ◌*ℤ◌, ◌<ℤ◌, arith}
use Rattle.std.specs.Prelude.{◌↔◌, neg_ℤ}
use Rattle.std.proofs.lemmas.Int.{ints}
use Rattle.std.proofs.Math.Nat.{le-div_iff_mul-le}
use Rattle.star_value.specs.declared.range.Range.{Range}
use Rattle.star_value.specs.Ranges.{steps_below, count_between, range_count, comes_before, IsGiven}

steps_below-is : (d : ℤ) (s k : ℕ) → 0 < s → (k < steps_below d s) ↔ (pos (k * s) <ℤ d)
steps_below-is (pos zero) s k some = (λ h. absurd (omega arith), λ h. absurd (omega (arith, ints)))
steps_below-is (pos (suc m)) s k some =
    let whole = le-div_iff_mul-le {k = s} {x = k} {y = m} some in (
      λ h. let low : k ≤ m / s = omega arith in let least = whole.0 low in omega (arith, ints),
      λ h. let low : k * s ≤ m = omega (arith, ints) in let least = whole.1 low in omega arith,
    )
steps_below-is (negsuc m) s k some = (λ h. absurd (omega arith), λ h. absurd (omega (arith, ints)))

ahead : (start stop : ℤ) (p : ℕ) → (pos p <ℤ (stop -ℤ start)) ↔ ((start +ℤ pos p) <ℤ stop)
ahead start stop p = (λ h. omega (arith, ints), λ h. omega (arith, ints))

behind : (start stop : ℤ) (p : ℕ) → (pos p <ℤ (start -ℤ stop)) ↔ (stop <ℤ (start +ℤ neg_ℤ (pos p)))
behind start stop p = (λ h. omega (arith, ints), λ h. omega (arith, ints))

count_between-is : (start stop step : ℤ) (place : ℕ) → (place < count_between start stop step) ↔ comes_before (start +ℤ pos place *ℤ step) stop step
count_between-is start stop (pos zero) place = (λ h. absurd (omega arith), λ h. absurd h)
count_between-is start stop (pos (suc n)) place =
    let steps = steps_below-is (stop -ℤ start) (suc n) place (omega arith) in
    let shift = ahead start stop (place * suc n) in
    (λ h. shift.0 (steps.0 h), λ h. steps.1 (shift.1 h))
count_between-is start stop (negsuc n) place =
    let steps = steps_below-is (start -ℤ stop) (suc n) place (omega arith) in
    let shift = behind start stop (place * suc n) in
    (λ h. shift.0 (steps.0 h), λ h. steps.1 (shift.1 h))

pub range_count_is : (r : Range) (place : ℕ) → (place < range_count r) ↔ IsGiven r place
range_count_is r place = count_between-is r.start r.stop r.step place
