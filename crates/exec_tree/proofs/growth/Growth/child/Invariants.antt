use Rattle.std.proofs.Common.{◌≡◌, ℕ, ◌<◌, false, get_or}
use Rattle.exec_tree.specs.Keys.{key_of, same_key}
use Rattle.exec_tree.specs.Growths.{key_at}
use Rattle.exec_tree.proofs.growth.Growth.child.Given as goal

abbrev pub invariant-loop-child : goal.invariant-loop-child
invariant-loop-child l = (q : ℕ) → q < l.child-index → same_key (key_at l.self.nodes.items (get_or l.children q 0)) (key_of l.inputs l.cell) ≡ false
