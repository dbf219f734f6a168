-- When two input maps are alike for a cell.
use Rattle.std.specs.Prelude.{◌≡◌, ℕ, List}
use Rattle.std.specs.List.{All}
use Rattle.chex_base.specs.declared.input.Input.{Input}
use Rattle.chex_base.specs.Inputs.{value_of}

-- two input maps agree on names where each of them has one value in both, or none in both
abbrev pub Agree : List (List ℕ) → List (List ℕ × Input) → List (List ℕ × Input) → Type 0
Agree names one other = All (λ name. value_of one name ≡ value_of other name) names
