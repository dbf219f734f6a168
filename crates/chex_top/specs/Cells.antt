-- The cells of sources that were looked at.
use Rattle.std.specs.Prelude.{ℕ, List}
use Rattle.std.specs.List.{AllByRecursion}
use Rattle.star_syntax.specs.CellParts.{CellParts}
use Rattle.cell_reader.specs.Cells.{IsCellOf}

-- the cells of these sources
abbrev pub AreKnown : List (List ℕ × CellParts) → Type 0
AreKnown entries = AllByRecursion (λ entry. IsCellOf entry.0 entry.1) entries
