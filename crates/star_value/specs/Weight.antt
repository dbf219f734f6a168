-- What it costs to make a value, and how deep tuples nest in it.
use Rattle.std.specs.Prelude.{ℕ, ◌+◌, List, [], ◌∷◌, length, map, max, sum}
use Rattle.star_value.specs.declared.value.Value.{Value, fold-Value}
use Rattle.star_value.specs.declared.value.Value.TheOpen.{Value-F}

-- the weight of a text is 1 and its code points, that of a tuple is 1 and the weights of its items, and that of any other
-- value is 1
abbrev pub weight_step : Value-F ℕ → ℕ
weight_step (Value-F.Text points) = length points + 1
weight_step (Value-F.Tuple weights) = sum weights + 1
weight_step _ = 1

abbrev pub weight : Value → ℕ
weight = fold-Value ℕ weight_step

abbrev pub sum_of_weights : List Value → ℕ
sum_of_weights values = sum (map weight values)

-- the greatest of some numbers, or 0
abbrev pub greatest : List ℕ → ℕ
greatest [] = 0
greatest (n ∷ ns) = max n (greatest ns)

-- a tuple nests one deeper than its deepest item, and no other value nests
abbrev pub depth_step : Value-F ℕ → ℕ
depth_step (Value-F.Tuple depths) = greatest depths + 1
depth_step _ = 0

abbrev pub depth : Value → ℕ
depth = fold-Value ℕ depth_step

abbrev pub greatest_depth : List Value → ℕ
greatest_depth values = greatest (map depth values)
