use Rattle.std.proofs.Common.{◌≡◌, ◌∷◌, [], drop, map}
use Rattle.star_value.specs.declared.value.Value.TheVariants as value
use Rattle.star_builtins.specs.Reached.{store}
use Rattle.star_builtins.specs.Sorting.{ordered_from}
use Rattle.star_builtins.specs.Walks.{given}
use Rattle.star_builtins.proofs.functions.sorting.numbers_in_order.Given as goal

abbrev pub invariant-loop-place : goal.invariant-loop-place
invariant-loop-place l = ordered_from l.back (value.Int l.fn.first) (map value.Int l.numbers.items) (drop l.place (given l.machine.state l.of)) (store l.machine l.meter.left)
    ≡ ordered_from l.back (value.Int l.fn.first) (value.Int l.fn.first ∷ []) (drop 1 (given l.machine.state l.of)) (store l.machine l.fn.meter.left)
