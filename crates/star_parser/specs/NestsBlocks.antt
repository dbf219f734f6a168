-- A function value that reads statements to a depth.
use Rattle.std.specs.Prelude.{ℕ, Result}
use Rattle.std.specs.declared.alloc.Global.{Global}
use denote.Ref.{MutBor}
use Rattle.star_syntax.specs.declared.statement.Statement.{Statement}
use Rattle.star_parser.specs.declared.fault.Fault.{Fault}
use Rattle.star_parser.specs.declared.cursor.Cursor.{Cursor}
use Rattle.star_parser.specs.Readers.{expr}
use Rattle.star_parser.specs.StatementReaders.{statement}
use Rattle.star_parser.specs.Verdict.{Reads}

-- It may be called at these depths of expressions and blocks, and gives what the reader of statements gives there.
pub record NestsBlocks (terms depth : ℕ) (pre : Global → MutBor Cursor → ℕ → ℕ → Type 0)
    (post : Global → MutBor Cursor → ℕ → ℕ → Result Statement Fault → MutBor Cursor → Type 0) : Type 0 where
  pub callable : (alloc : Global) (old : MutBor Cursor) → pre alloc old terms depth
  pub reads : (alloc : Global) (old new : MutBor Cursor) (r : Result Statement Fault) → post alloc old terms depth r new
      → Reads (statement (expr terms) depth old.now.rest.now) r new.now.rest.now
