-- What contracts see of a cell.
use Rattle.std.specs.Prelude.{ℕ, List}
use Rattle.star_syntax.specs.declared.statement.Module.{Module}

-- its source, the tree of its statements, and the names of its `input` literals
pub record CellParts : Type 0 where
  pub source : List ℕ
  pub «module» : Module
  pub inputs : List (List ℕ)
