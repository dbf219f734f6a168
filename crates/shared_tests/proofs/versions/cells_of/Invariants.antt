use Rattle.std.proofs.Common.{◌≡◌, length}
use Rattle.std.specs.List.{All}
use Rattle.cell_reader.specs.Cells.{IsRead}
use Rattle.shared_tests.proofs.versions.cells_of.Given as goal

abbrev pub invariant-loop-source : goal.invariant-loop-source
invariant-loop-source l = record {
  many : length l.cells.items ≡ l.source-index;
  read : All IsRead l.cells.items;
}
