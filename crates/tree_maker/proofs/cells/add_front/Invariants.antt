use Rattle.std.proofs.Common.{◌≡◌, ◌++◌, take}
use Rattle.tree_maker.proofs.cells.add_front.Given as goal

abbrev pub invariant-loop-text : goal.invariant-loop-text
invariant-loop-text l = l.sources ≡ l.fn.sources ++ take l.text-index l.text-items
