use Rattle.star_builtins.specs.Reached.{AllFit}
use Rattle.star_meaning.specs.Validity.{MachineState}
use Rattle.machine_bench.proofs.measures.integers.Given as goal

abbrev pub invariant-loop-number : goal.invariant-loop-number
invariant-loop-number l = (m : MachineState) → AllFit m l.values
