use Rattle.std.proofs.Common.{IsTrue, map}
use Rattle.call_tests.specs.Growth.{Grows}
use Rattle.star_builtins.specs.Reached.{AllFit}
use Rattle.star_meaning.specs.Validity.{all_in, is_proper}
use Rattle.call_tests.proofs.trees.named_values.Given as goal

abbrev pub invariant-loop-tree : goal.invariant-loop-tree
invariant-loop-tree l = record {
  fit : AllFit l.machine (map (λ entry. entry.1) l.named);
  grows : Grows l.fn.machine l.machine;
  held : IsTrue (all_in is_proper l.machine.state);
}
