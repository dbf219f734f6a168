use Rattle.call_tests.specs.Growth.{Grows}
use Rattle.star_builtins.specs.Reached.{Fits}
use Rattle.call_tests.proofs.objects.nested_list.Given as goal

abbrev pub invariant-loop-time : goal.invariant-loop-time
invariant-loop-time l = record {
  fits : Fits l.machine l.list;
  grows : Grows l.fn.machine l.machine;
}
