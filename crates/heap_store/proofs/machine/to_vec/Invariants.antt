use Rattle.std.proofs.Common.{◌≡◌, ◌++◌, length, reverse}
use Rattle.heap_store.proofs.machine.to_vec.Given as goal

abbrev pub invariant-loop-item : goal.invariant-loop-item
invariant-loop-item l = l.items ++ reverse l.vec.items ≡ l.fn.items

abbrev pub decreases-loop-item : goal.decreases-loop-item
decreases-loop-item l = length l.items
