-- What a value gives when it is iterated, place by place.
use Rattle.std.specs.Prelude.{◌≡◌, ℕ, List, [], length, Option, Some, None, unwrap_or, slice_get, Result, Ok, Err}
use Rattle.star_value.specs.declared.failure.Failure.{Failure}
use Rattle.star_value.specs.declared.failure.Failure.TheVariants as failure
use Rattle.star_value.specs.declared.stop.Stop.{Stop}
use Rattle.star_value.specs.declared.stop.Stop.TheVariants as stop
use Rattle.star_value.specs.declared.value.Value.{Value}
use Rattle.star_value.specs.Charge.{charged}
use Rattle.star_value.specs.Weight.{weight}
use Rattle.star_meaning.specs.State.{State}
use Rattle.star_meaning.specs.Values.{items_in}

-- the items that a value gives; none where it cannot be iterated
unfoldable pub given : {C : Type 0} → State C → Value → List Value
given s v = unwrap_or (items_in s v) []

-- how many items a value gives; a value that cannot be iterated is of a wrong type
abbrev pub Counts : {C : Type 0} → State C → Value → Result ℕ Failure → Type 0
Counts s v (Ok count) = (items_in s v ≡ Some (given s v)) × (length (given s v) ≡ count)
Counts s v (Err e) = (items_in s v ≡ None) × (e ≡ failure.WrongType)

abbrev pub weight_of : Option Value → ℕ
weight_of None = 0
weight_of (Some v) = weight v

-- the weight of the item at a place
unfoldable pub weight_at : List Value → ℕ → ℕ
weight_at items place = weight_of (slice_get items place)

-- what a walk answers for the item at a place: the item, once its weight is charged, or the failure of that charge
abbrev pub GivesItem : List Value → ℕ → ℕ → Result Value Stop → ℕ → Type 0
GivesItem items place left (Ok v) rest = (slice_get items place ≡ Some v) × (charged left (weight v) ≡ (Ok tt, rest))
GivesItem items place left (Err (stop.Failure e)) rest = charged left (weight_at items place) ≡ (Err e, rest)
GivesItem items place left (Err stop.NoMemory) rest = Unit {0}
