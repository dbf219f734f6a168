use Rattle.std.proofs.Common.{◌≡◌, map, drop, length}
use Rattle.star_value.specs.KeyOrder.{all_hold, same_key}
use Rattle.star_value.proofs.key_order.+same.Given as goal

abbrev pub invariant-same_parts-loop-at : goal.invariant-same_parts-loop-at
invariant-same_parts-loop-at l =
    (length l.keys ≡ length l.others) × (all_hold (map same_key (drop l.at l.keys)) (drop l.at l.others) ≡ all_hold (map same_key l.keys) l.others)
