use Rattle.star_builtins.specs.Reached.{AllFit}
use Rattle.star_meaning.specs.Validity.{MachineState}
use Rattle.call_tests.proofs.trees.integers.Given as goal

abbrev pub invariant-loop-tree : goal.invariant-loop-tree
invariant-loop-tree l = (m : MachineState) → AllFit m l.items
