use Rattle.star_builtins.specs.Reached.{Fits}
use Rattle.star_meaning.specs.Validity.{MachineState}
use Rattle.call_tests.proofs.objects.nested_tuple.Given as goal

abbrev pub invariant-loop-time : goal.invariant-loop-time
invariant-loop-time l = (m : MachineState) → Fits m l.tuple
