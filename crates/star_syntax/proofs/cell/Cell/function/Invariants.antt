use Rattle.std.proofs.Common.{◌≡◌, drop}
use Rattle.std.specs.List.{slice_get}
use Rattle.star_syntax.specs.Cells.{functions_of}
use Rattle.star_syntax.proofs.cell.Cell.function.Given as goal

abbrev pub invariant-loop-statement : goal.invariant-loop-statement
invariant-loop-statement l =
    slice_get (functions_of l.self.«module».statements) l.number ≡ slice_get (functions_of (drop l.statement-index l.statement-items)) l.left
