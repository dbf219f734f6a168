-- The integers that ranges give at their places.
use Rattle.std.proofs.Common.{mul-zero, true, false, ◌≡◌, ℕ, suc, zero, ◌*◌, ◌<◌, ◌^◌, refl, ap, sym, ◌∙◌, arith, ℤ, pos, negsuc, ◌+ℤ◌, ◌-ℤ◌, ◌*ℤ◌, ◌<ℤ◌}
use Rattle.std.specs.Prelude.{neg_ℤ, unsigned_abs, FitsSigned}
use Rattle.std.specs.Int.{w128, saturate_signed}
use Rattle.std.proofs.lemmas.Int.{ints}
use Rattle.std.proofs.Math.Facts.{to_z-of_z}
use lib.Signed.{lt_z}
use mir.Val.{of_z, to_z}
use Rattle.star_value.specs.declared.range.Range.{Range}
use Rattle.star_value.specs.Ranges.{range_count, range_item, comes_before}
use Rattle.star_value.proofs.RangeLaws.{range_count_is}

-- how far a given integer lies from the start of its range, on the way up and on the way down
short_up : (start stop : ℤ) (p : ℕ) → FitsSigned w128 start → FitsSigned w128 stop → (start +ℤ pos p) <ℤ stop → p < 2 ^ 128
short_up start stop p a b h = omega (arith, ints)

short_down : (start stop : ℤ) (p : ℕ) → FitsSigned w128 start → FitsSigned w128 stop → stop <ℤ (start +ℤ neg_ℤ (pos p)) → p < 2 ^ 128
short_down start stop p a b h = omega (arith, ints)

fits_up : (start stop : ℤ) (p : ℕ) → FitsSigned w128 start → FitsSigned w128 stop → (start +ℤ pos p) <ℤ stop → FitsSigned w128 (start +ℤ pos p)
fits_up start stop p a b h = omega (arith, ints)

fits_down : (start stop : ℤ) (p : ℕ) → FitsSigned w128 start → FitsSigned w128 stop → stop <ℤ (start +ℤ neg_ℤ (pos p)) → FitsSigned w128 (start +ℤ neg_ℤ (pos p))
fits_down start stop p a b h = omega (arith, ints)

short_by : (start stop step : ℤ) (place : ℕ) → FitsSigned w128 start → FitsSigned w128 stop → comes_before (start +ℤ pos place *ℤ step) stop step → place * unsigned_abs step < 2 ^ 128
short_by start stop (pos zero) place a b h = absurd h
short_by start stop (pos (suc n)) place a b h = short_up start stop (place * suc n) a b h
short_by start stop (negsuc n) place a b h = short_down start stop (place * suc n) a b h

short : (r : Range) (place : ℕ) → FitsSigned w128 r.start → FitsSigned w128 r.stop → place < range_count r → place * unsigned_abs r.step < 2 ^ 128
short r place a b h = short_by r.start r.stop r.step place a b ((range_count_is r place).0 h)

saturated : (z : ℤ) → FitsSigned w128 z → saturate_signed w128 z ≡ z
saturated (pos n) h = grind arith
saturated (negsuc n) h = grind arith

item_up : (start stop : ℤ) (place n : ℕ) → FitsSigned w128 start → FitsSigned w128 stop → (start +ℤ pos place *ℤ pos (suc n)) <ℤ stop → FitsSigned w128 (start +ℤ pos place *ℤ pos (suc n))
item_up start stop place n a b h = fits_up start stop (place * suc n) a b h

item_down : (start stop : ℤ) (place n : ℕ) → FitsSigned w128 start → FitsSigned w128 stop → stop <ℤ (start +ℤ pos place *ℤ negsuc n) → FitsSigned w128 (start +ℤ pos place *ℤ negsuc n)
item_down start stop place n a b h = fits_down start stop (place * suc n) a b h

item_by : (start stop step : ℤ) (place : ℕ) → FitsSigned w128 start → FitsSigned w128 stop → comes_before (start +ℤ pos place *ℤ step) stop step → FitsSigned w128 (start +ℤ pos place *ℤ step)
item_by start stop (pos zero) place a b h = absurd h
item_by start stop (pos (suc n)) place a b h = item_up start stop place n a b h
item_by start stop (negsuc n) place a b h = item_down start stop place n a b h

-- what a range gives is an integer of 128 bits
pub given_fits : (r : Range) (place : ℕ) → FitsSigned w128 r.start → FitsSigned w128 r.stop → place < range_count r → FitsSigned w128 (range_item r place)
given_fits r place a b h = item_by r.start r.stop r.step place a b ((range_count_is r place).0 h)

moved_up : (start : ℤ) (step : ℤ) (place : ℕ) → pos 0 <ℤ step → start +ℤ pos (place * unsigned_abs step) ≡ start +ℤ pos place *ℤ step
moved_up start (pos n) place h = refl
moved_up start (negsuc n) place h = absurd (omega (arith, ints))

moved_down : (start : ℤ) (step : ℤ) (place : ℕ) → (pos 0 <ℤ step → ⊥) → start -ℤ pos (place * unsigned_abs step) ≡ start +ℤ pos place *ℤ step
moved_down start (pos zero) place h = simp (mul-zero) refl
moved_down start (pos (suc n)) place h = absurd (h (omega (arith, ints)))
moved_down start (negsuc n) place h = refl

item_above : (r : Range) (place : ℕ) → FitsSigned w128 r.start → FitsSigned w128 r.stop → place < range_count r → pos 0 <ℤ r.step → saturate_signed w128 (r.start +ℤ pos (place * unsigned_abs r.step)) ≡ range_item r place
item_above r place a b h up = ap (saturate_signed w128) (moved_up r.start r.step place up) ∙ saturated (range_item r place) (given_fits r place a b h)

item_below : (r : Range) (place : ℕ) → FitsSigned w128 r.start → FitsSigned w128 r.stop → place < range_count r → (pos 0 <ℤ r.step → ⊥) → saturate_signed w128 (r.start -ℤ pos (place * unsigned_abs r.step)) ≡ range_item r place
item_below r place a b h down = ap (saturate_signed w128) (moved_down r.start r.step place down) ∙ saturated (range_item r place) (given_fits r place a b h)

-- the same, as the code computes it
module _ (r : Range) (place size : ℕ) (a : FitsSigned w128 r.start) (b : FitsSigned w128 r.stop) (c : FitsSigned w128 r.step) (size_is : size ≡ unsigned_abs (to_z w128 (of_z w128 r.step))) (h : place < range_count r) where
  size_as : size ≡ unsigned_abs r.step
  size_as = size_is ∙ ap unsigned_abs (to_z-of_z c)

  pub distance_fits : place * size < 2 ^ 128
  distance_fits = rw size_as (short r place a b h)

  going_up : lt_z (pos 0) (to_z w128 (of_z w128 r.step)) ≡ true → pos 0 <ℤ r.step
  going_up up = let e : lt_z (pos 0) r.step ≡ true = ap (lt_z (pos 0)) (sym (to_z-of_z c)) ∙ up in grind (arith, ints)

  not_going_up : lt_z (pos 0) (to_z w128 (of_z w128 r.step)) ≡ false → pos 0 <ℤ r.step → ⊥
  not_going_up down up = let e : lt_z (pos 0) r.step ≡ false = ap (lt_z (pos 0)) (sym (to_z-of_z c)) ∙ down in grind (arith, ints)

  item_back : (z : ℤ) → z ≡ range_item r place → to_z w128 (of_z w128 z) ≡ range_item r place
  item_back z is = ap (λ y. to_z w128 (of_z w128 y)) is ∙ to_z-of_z (given_fits r place a b h)

  pub above_is : (z : ℤ) → z ≡ saturate_signed w128 (to_z w128 (of_z w128 r.start) +ℤ pos (place * size)) → lt_z (pos 0) (to_z w128 (of_z w128 r.step)) ≡ true → to_z w128 (of_z w128 z) ≡ range_item r place
  above_is z z_is up =
      item_back z (z_is ∙ ap (λ x. saturate_signed w128 (x +ℤ pos (place * size))) (to_z-of_z a) ∙ ap (λ k. saturate_signed w128 (r.start +ℤ pos (place * k))) size_as ∙ item_above r place a b h (going_up up))

  pub below_is : (z : ℤ) → z ≡ saturate_signed w128 (to_z w128 (of_z w128 r.start) -ℤ pos (place * size)) → lt_z (pos 0) (to_z w128 (of_z w128 r.step)) ≡ false → to_z w128 (of_z w128 z) ≡ range_item r place
  below_is z z_is down =
      item_back z (z_is ∙ ap (λ x. saturate_signed w128 (x -ℤ pos (place * size))) (to_z-of_z a) ∙ ap (λ k. saturate_signed w128 (r.start -ℤ pos (place * k))) size_as ∙ item_below r place a b h (not_going_up down))
