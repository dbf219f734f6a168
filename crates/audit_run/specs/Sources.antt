-- What is asked of the cells of versions: each is the cell of its source.
use Rattle.std.specs.Prelude.{◌≡◌, List}
use Rattle.std.specs.List.{Contains}
use Rattle.star_syntax.specs.CellParts.{CellParts}
use Rattle.star_meaning.specs.Laws.{HasItsNames}
use Rattle.exec_tree.specs.declared.checked.Checked.{Checked}

-- Cells with one source are one cell, as where each was read from its source. Versions are merged by sources, and only then does
-- the cell of a node stand for those of all versions through it.
abbrev pub HaveTheirSources : List Checked → Type 0
HaveTheirSources versions =
    (v w : Checked) (c d : CellParts) → Contains versions v → Contains versions w → Contains v.cells c → Contains w.cells d → c.source ≡ d.source → c ≡ d

-- Each cell has the names of the inputs that it reads.
abbrev pub HaveTheirNames : List Checked → Type 0
HaveTheirNames versions = (v : Checked) (c : CellParts) → Contains versions v → Contains v.cells c → HasItsNames c
