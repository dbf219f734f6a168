-- What a slice has still to take, and what is answered for items that are charged first.
use Rattle.std.specs.Prelude.{◌≡◌, ℕ, ◌-◌, List, map, Result, Ok, Err}
use Rattle.std.specs.List.{filter_map, range_with_len}
use Rattle.star_value.specs.declared.range.Range.{Range}
use Rattle.star_value.specs.declared.failure.Failure.{Failure}
use Rattle.star_value.specs.declared.stop.Stop.{Stop}
use Rattle.star_value.specs.declared.stop.Stop.TheVariants as stop
use Rattle.star_meaning.specs.Operators.{at_int}
use Rattle.star_meaning.specs.Values.{range_item}

-- the items at the integers that a range gives from a place on
abbrev pub taken_from : {A : Type 0} → List A → Range → ℕ → ℕ → List A
taken_from xs r place count = filter_map (at_int xs) (map (range_item r) (range_with_len place (count - place)))

-- these items where their charge passes, and else the failure of the charge
abbrev pub GivesCharged : {A : Type 0} → Result (Unit {0}) Failure × ℕ → A → Result A Stop → ℕ → Type 0
GivesCharged paid items (Ok given) left = (paid ≡ (Ok tt, left)) × (given ≡ items)
GivesCharged paid items (Err (stop.Failure e)) left = paid ≡ (Err e, left)
GivesCharged paid items (Err stop.NoMemory) left = Unit {0}
