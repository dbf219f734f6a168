use Rattle.std.proofs.Common.{IsTrue}
use Rattle.call_tests.specs.Growth.{Grows}
use Rattle.star_builtins.specs.Reached.{AllFit, Fits}
use Rattle.star_meaning.specs.Validity.{all_in, is_proper}
use Rattle.call_tests.proofs.trees.+trees.Given as goal

abbrev pub invariant-dict-loop-pair : goal.invariant-dict-loop-pair
invariant-dict-loop-pair l = record {
  dict : Fits l.machine l.dict;
  grows : Grows l.fn.machine l.machine;
  held : IsTrue (all_in is_proper l.machine.state);
}

abbrev pub invariant-values-loop-tree : goal.invariant-values-loop-tree
invariant-values-loop-tree l = record {
  fit : AllFit l.machine l.items;
  grows : Grows l.fn.machine l.machine;
  held : IsTrue (all_in is_proper l.machine.state);
}
