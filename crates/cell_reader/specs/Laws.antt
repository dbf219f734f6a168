-- Laws of what sources give.
use Rattle.std.specs.Prelude.{◌≡◌, ℕ, List}
use Rattle.star_syntax.specs.CellParts.{CellParts}
use Rattle.star_syntax.specs.Placement.{AreInputNames}
use Rattle.cell_reader.specs.declared.cell.Reason.{Reason}
use Rattle.cell_reader.specs.Cells.{IsCellOf, IsRead, IsWrong}

-- a source gives one cell at most
abbrev pub OneCell : Type 0
OneCell = (source : List ℕ) (one other : CellParts) → IsCellOf source one → IsCellOf source other → one ≡ other

-- a source that gives a cell is not wrong
abbrev pub NeverBoth : Type 0
NeverBoth = (source : List ℕ) (cell : CellParts) (why : Reason) (line : ℕ) → IsCellOf source cell → IsWrong source why line → ⊥

-- one thing at most is wrong with a source, on one line
abbrev pub OneFault : Type 0
OneFault = (source : List ℕ) (one other : Reason) (m n : ℕ) → IsWrong source one m → IsWrong source other n → (one ≡ other) × (m ≡ n)

-- a cell that was read from its source has the names of the inputs that it reads
abbrev pub HaveTheirNames : Type 0
HaveTheirNames = (cell : CellParts) → IsRead cell → AreInputNames cell.module cell.inputs

-- of cells that were read from their sources, those with one source are one cell
abbrev pub AreOneBySource : Type 0
AreOneBySource = (one other : CellParts) → IsRead one → IsRead other → one.source ≡ other.source → one ≡ other
