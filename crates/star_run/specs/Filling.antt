-- What a call gives to a function's parameters.
use Rattle.std.specs.Prelude.{◌≡◌, ◌-◌, ◌^◌, ◌++◌, if◌then◌else◌, ℕ, List, [], ◌∷◌, Option, Some, None, map, min, option_map, sum, IsTrue}
use Rattle.star_syntax.specs.declared.statement.Definition.{Definition}
use Rattle.star_syntax.specs.declared.statement.Statement.{Statement}
use Rattle.star_value.specs.declared.value.Value.{Value}
use Rattle.star_meaning.specs.Builtins.{ByName}
use Rattle.star_meaning.specs.Statements.{Filled, Parameter, default_weight, filled_by_name, given_by, local_block}
use Rattle.star_meaning.specs.Validity.{MachineState}
use Rattle.star_meaning.specs.Values.{is_empty}
use Rattle.star_run.specs.declared.filling.Filling.{Filling}
use Rattle.star_run.specs.declared.filling.Given.{Given}
use Rattle.star_run.specs.declared.filling.Given.TheVariants.{Never, Once, Often}
use Rattle.star_run.specs.declared.filling.Parameter.{Parameter as Held}
use Rattle.star_run.specs.Running.{block_fits}

-- a parameter of the code
abbrev pub seen : Held → Parameter
seen p = (p.name.value, option_map (λ v. v.now) p.default)

-- a parameter that a place fills, or none
abbrev pub filled_one : Parameter → Option Value → ByName → Option Filled
filled_one p (Some v) named = if is_empty (given_by named p.0) then Some (p.0, v, None) else None
filled_one p None named = filled_by_name p (given_by named p.0)

-- what was filled before stands in front
abbrev pub after_filled : List Filled → Option (List Filled) → Option (List Filled)
after_filled done None = None
after_filled done (Some more) = Some (done ++ more)

-- the value of a parameter, and the weight of its default where that is used, or the greatest number
abbrev pub FillsOne : Option Filled → Option (Value × ℕ) → Type 0
FillsOne None None = Unit {0}
FillsOne None (Some given) = ⊥
FillsOne (Some f) None = ⊥
FillsOne (Some f) (Some given) = (given.0 ≡ f.1) × (given.1 ≡ min (default_weight f) (2 ^ 64 - 1))

-- the block and the charge of parameters that are filled so
pub record IsFilling (def : Definition Statement) (all : List Filled) (filling : Filling) : Type 0 where
  pub slots : filling.slots ≡ local_block def all
  pub weight : filling.weight ≡ min (sum (map default_weight all)) (2 ^ 64 - 1)

-- nothing where the arguments are none of the function
abbrev pub Fills : Option (List Filled) → Definition Statement → Option Filling → Type 0
Fills filled def None = filled ≡ None
Fills filled def (Some filling) = (all : List Filled) × (filled ≡ Some all) × IsFilling def all filling

abbrev pub FillingFits : MachineState → Option Filling → Type 0
FillingFits m None = Unit {0}
FillingFits m (Some filling) = IsTrue (block_fits m filling.slots)

-- how often a value is given by a name
abbrev pub IsGiven : List Value → Given → Type 0
IsGiven values Never = values ≡ []
IsGiven values (Once v) = values ≡ v.now ∷ []
IsGiven values Often = (first : Value) × (second : Value) × (more : List Value) × (values ≡ first ∷ second ∷ more)

-- the slots of parameters that are filled, with the weight of the defaults that are used
pub record AreFilled (all : List Filled) (filling : Filling) : Type 0 where
  pub slots : filling.slots ≡ map (λ f. (f.0, Some f.1)) all
  pub weight : filling.weight ≡ min (sum (map default_weight all)) (2 ^ 64 - 1)

abbrev pub FillsSlots : Option (List Filled) → Option Filling → Type 0
FillsSlots filled None = filled ≡ None
FillsSlots filled (Some filling) = (all : List Filled) × (filled ≡ Some all) × AreFilled all filling
