-- A function value that reads expressions to a depth.
use Rattle.std.specs.Prelude.{ℕ, Result}
use Rattle.std.specs.declared.alloc.Global.{Global}
use denote.Ref.{MutBor}
use Rattle.star_syntax.specs.declared.expression.Expr.{Expr}
use Rattle.star_parser.specs.declared.fault.Fault.{Fault}
use Rattle.star_parser.specs.declared.level.Level.{Level}
use Rattle.star_parser.specs.declared.cursor.Cursor.{Cursor}
use Rattle.star_parser.specs.Readers.{expr}
use Rattle.star_parser.specs.Verdict.{Reads}

-- It may be called at this depth, and gives what the reader of expressions gives there.
pub record Nests (depth : ℕ) (pre : Global → MutBor Cursor → ℕ → Level → Type 0)
    (post : Global → MutBor Cursor → ℕ → Level → Result Expr Fault → MutBor Cursor → Type 0) : Type 0 where
  pub callable : (alloc : Global) (old : MutBor Cursor) (level : Level) → pre alloc old depth level
  pub reads : (alloc : Global) (old new : MutBor Cursor) (level : Level) (r : Result Expr Fault) → post alloc old depth level r new
      → Reads (expr depth level old.now.rest.now) r new.now.rest.now
