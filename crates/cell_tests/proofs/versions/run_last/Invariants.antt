use Rattle.star_meaning.specs.Validity.{IsValid}
use Rattle.cell_tests.proofs.versions.run_last.Given as goal

abbrev pub invariant-loop-place : goal.invariant-loop-place
invariant-loop-place l = IsValid l.program l.machine
