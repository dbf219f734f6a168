-- Parts of what stores in several targets.
use Rattle.std.specs.Prelude.{ℕ, ◌==◌, if◌then◌else◌, List, length}
use Rattle.star_value.specs.declared.failure.Failure.TheVariants as failure
use Rattle.star_value.specs.declared.value.Value.{Value}
use Rattle.star_meaning.specs.Steps.{Action, pure, fail, ◌>>=◌, ◌>>◌}
use Rattle.star_meaning.specs.Values.{charge_items}

-- the charge of some items, and then whether there are so many
abbrev pub counted : {C : Type 0} → ℕ → List Value → Action C (Unit {0})
counted count items = charge_items items >> (if length items == count then pure tt else fail failure.BadUnpack)

-- the items themselves, where there are so many
abbrev pub unpacked_items : {C : Type 0} → ℕ → List Value → Action C (List Value)
unpacked_items count items = charge_items items >> (if length items == count then pure items else fail failure.BadUnpack)
