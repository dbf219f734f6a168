use Rattle.std.proofs.Common.{◌≡◌, ◌≤◌, drop, length}
use Rattle.std.specs.Cmp.Lexicographic.{slice_cmp}
use Rattle.star_value.specs.KeyOrder.{key_cmp}
use Rattle.star_value.proofs.key_order.+order.Given as goal

abbrev pub invariant-order_of_parts-loop-at : goal.invariant-order_of_parts-loop-at
invariant-order_of_parts-loop-at l =
    (l.at ≤ length l.others) × (slice_cmp key_cmp (drop l.at l.keys) (drop l.at l.others) ≡ slice_cmp key_cmp l.keys l.others)
