-- What the summary of a run counts.
use Rattle.std.specs.Prelude.{ℕ, List}
use Rattle.std.specs.List.{count_by, sum_by}
use Rattle.plan_type.specs.declared.costs.Costs.{Costs}
use Rattle.plan_type.specs.Costs.{is_reached, steps_of}

-- how many nodes versions come to
abbrev pub reached : Costs → ℕ
reached costs = count_by (λ row. is_reached row.end) costs.rows

-- the steps of these nodes, by their rows
abbrev pub steps_along : Costs → List ℕ → ℕ
steps_along costs way = sum_by (steps_of costs) way

-- the same of each way
abbrev pub steps_along_all : Costs → List (List ℕ) → ℕ
steps_along_all costs ways = sum_by (steps_along costs) ways
