use Rattle.std.proofs.Common.{◌≡◌, map, drop, length}
use Rattle.std.specs.Cmp.Lexicographic.{pointwise}
use Rattle.exec_tree.specs.Keys.{named, same_named}
use Rattle.exec_tree.proofs.same.are_same_values.Given as goal

abbrev pub invariant-loop-place : goal.invariant-loop-place
invariant-loop-place l =
    (length l.names ≡ length l.other_names) × (pointwise same_named (map (named l.inputs) (drop l.place l.names)) (map (named l.others) (drop l.place l.other_names)) ≡ pointwise same_named (map (named l.inputs) l.names) (map (named l.others) l.other_names))
