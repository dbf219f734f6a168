-- What the source of a cell gives: its cell, or what is wrong with it. The rules stand in docs/LANGUAGE.md.
use Rattle.std.specs.Prelude.{◌≡◌, ℕ, List, Some, option_map}
use Rattle.std.specs.List.{slice_get}
use Rattle.star_syntax.specs.declared.token.Spanned.{Spanned}
use Rattle.star_syntax.specs.declared.statement.Module.{Module}
use Rattle.star_syntax.specs.CellParts.{CellParts}
use Rattle.star_syntax.specs.Placement.{IsPlaced, AreInputNames}
use Rattle.star_lexer.specs.Tokens.{Tokens, FirstFault}
use Rattle.star_parser.specs.Reading.{kinds}
use Rattle.star_parser.specs.Trees.{IsTree, IsLeast}
use Rattle.star_resolver.specs.declared.error.ResolveKind.{ResolveKind}
use Rattle.star_resolver.specs.declared.error.ResolveFault.TheVariants as broken
use Rattle.star_resolver.specs.Resolved.{IsFirstBreach}
use Rattle.cell_reader.specs.declared.cell.Reason.{Reason}
use Rattle.cell_reader.specs.declared.cell.Reason.TheVariants as reason
use Rattle.cell_reader.specs.declared.cell.CellFault.{CellFault}
use Rattle.cell_reader.specs.declared.cell.CellFault.TheVariants.{Bad, NoMemory}

-- the source's tokens are the spelling of the cell's tree, which breaks no rule of placement, and the cell has the tree's input names
pub record IsCellOf (source : List ℕ) (cell : CellParts) : Type 0 where
  pub list : List Spanned
  pub tokens : Tokens source list
  pub tree : IsTree cell.module list
  pub placed : IsPlaced cell.module
  pub names : AreInputNames cell.module cell.inputs
  pub kept : cell.source ≡ source

-- the cell is that of its source
abbrev pub IsRead : CellParts → Type 0
IsRead cell = IsCellOf cell.source cell

-- a token of this line is the first with which no tree goes on
pub record IsUnexpectedAt (list : List Spanned) (line : ℕ) : Type 0 where
  pub place : ℕ
  pub least : IsLeast place (kinds list)
  pub here : option_map (λ s. s.line) (slice_get list place) ≡ Some line

-- The source has no tokens, and this is their first fault;
-- or it has tokens and they are no tree's spelling;
-- or they are, and the tree breaks a rule of placement.
abbrev pub IsWrong : List ℕ → Reason → ℕ → Type 0
IsWrong source (reason.Token kind) line = FirstFault source kind line
IsWrong source reason.Unexpected line = (list : List Spanned) × Tokens source list × IsUnexpectedAt list line
IsWrong source (reason.Placement kind) line = (list : List Spanned) × (tree : Module) × Tokens source list × IsTree tree list × IsFirstBreach tree (broken.Bad kind line)

-- ---- what a function says of a fault; of want of memory it says nothing

abbrev pub IsFaultOf : List ℕ → CellFault → Type 0
IsFaultOf source (Bad why line) = IsWrong source why line
IsFaultOf source NoMemory = Unit {0}

abbrev pub IsUnexpectedIn : List Spanned → CellFault → Type 0
IsUnexpectedIn list (Bad why line) = (why ≡ reason.Unexpected) × IsUnexpectedAt list line
IsUnexpectedIn list NoMemory = Unit {0}

abbrev pub IsMisplacedIn : Module → CellFault → Type 0
IsMisplacedIn tree (Bad why line) = (kind : ResolveKind) × (why ≡ reason.Placement kind) × IsFirstBreach tree (broken.Bad kind line)
IsMisplacedIn tree NoMemory = Unit {0}
