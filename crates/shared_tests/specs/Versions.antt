-- Versions that can be run together.
use Rattle.std.specs.Prelude.{◌≤◌, length}
use Rattle.std.specs.List.{All}
use Rattle.exec_tree.specs.declared.checked.Checked.{Checked}
use Rattle.cell_reader.specs.Cells.{IsRead}

-- it has at most 64 cells, each read from its source
pub record IsFit (version : Checked) : Type 0 where
  pub few : length version.cells ≤ 64
  pub read : All IsRead version.cells
