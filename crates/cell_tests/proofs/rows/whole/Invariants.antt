use Rattle.star_meaning.specs.Validity.{IsValid}
use Rattle.cell_tests.proofs.rows.whole.Given as goal

abbrev pub invariant-loop-cell : goal.invariant-loop-cell
invariant-loop-cell l = IsValid l.program l.machine
