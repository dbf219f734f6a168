use Rattle.std.proofs.Common.{◌≡◌, drop, length}
use Rattle.std.specs.Cmp.Lexicographic.{pointwise}
use Rattle.exec_tree.specs.Keys.{same_item}
use Rattle.exec_tree.proofs.same.are_same_items.Given as goal

abbrev pub invariant-loop-place : goal.invariant-loop-place
invariant-loop-place l =
    (length l.items ≡ length l.others) × (pointwise same_item (drop l.place l.items) (drop l.place l.others) ≡ pointwise same_item l.items l.others)
