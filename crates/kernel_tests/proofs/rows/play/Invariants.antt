use Rattle.std.proofs.Common.{◌≡◌, length}
use Rattle.kernel_tests.proofs.rows.play.Given as goal

abbrev pub invariant-loop-line : goal.invariant-loop-line
invariant-loop-line g l = length (g.K.Kernel.loaded l.kernel).cells ≡ l.cells
