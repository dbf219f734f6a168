-- How many integers a range gives, and which.
use Rattle.std.specs.Prelude.{ℕ, zero, suc, ◌+◌, ◌/◌, ℤ, pos, negsuc, ◌+ℤ◌, ◌-ℤ◌, ◌*ℤ◌, ◌<ℤ◌}
use Rattle.star_value.specs.declared.range.Range.{Range}

-- how many multiples of a step from 0 on lie below a length
abbrev pub steps_below : ℤ → ℕ → ℕ
steps_below (pos zero) step = 0
steps_below (pos (suc n)) step = n / step + 1
steps_below (negsuc n) step = 0

-- a range goes up or down; one of step 0 gives nothing
abbrev pub count_between : ℤ → ℤ → ℤ → ℕ
count_between start stop (pos zero) = 0
count_between start stop (pos (suc n)) = steps_below (stop -ℤ start) (suc n)
count_between start stop (negsuc n) = steps_below (start -ℤ stop) (suc n)

abbrev pub range_count : Range → ℕ
range_count r = count_between r.start r.stop r.step

-- whether an integer comes before the stop: below it on the way up, above it on the way down
abbrev pub comes_before : ℤ → ℤ → ℤ → Type 0
comes_before z stop (pos zero) = ⊥
comes_before z stop (pos (suc n)) = z <ℤ stop
comes_before z stop (negsuc n) = stop <ℤ z

-- the integer of a range at a place, counted from 0
abbrev pub range_item : Range → ℕ → ℤ
range_item r place = r.start +ℤ (pos place *ℤ r.step)

-- whether a range gives an integer at this place
abbrev pub IsGiven : Range → ℕ → Type 0
IsGiven r place = comes_before (range_item r place) r.stop r.step
