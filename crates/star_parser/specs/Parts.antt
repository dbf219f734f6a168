-- Parts of the rules for expressions, as readers of their own.
use Rattle.std.specs.Prelude.{ℕ, if◌then◌else◌, List, [], length, Option, Some, None}
use Rattle.star_syntax.specs.declared.token.Mark.{Mark}
use Rattle.star_syntax.specs.declared.token.Mark.TheVariants as m
use Rattle.star_syntax.specs.declared.expression.Clause.{Clause}
use Rattle.star_syntax.specs.declared.expression.Expr.{Expr}
use Rattle.star_parser.specs.declared.level.Level.{Level}
use Rattle.star_parser.specs.declared.level.Level.TheVariants as level
use Rattle.star_parser.specs.declared.grammar.arguments.Argument.{Argument}
use Rattle.star_parser.specs.declared.grammar.arguments.Argument.TheVariants as a
use Rattle.star_parser.specs.Reading.{Reader, ◌>>=◌, ◌>>◌, pure, peek}
use Rattle.star_parser.specs.Tables.{is_mark, eat, expect}
use Rattle.star_parser.specs.Readers.{bound, clauses_from, name_of}

-- an argument that is this name, or no name
abbrev pub argument_by : Expr → Option (List ℕ) → Reader Argument
argument_by item None = pure (a.Positional item)
argument_by item (Some name) = do
  is_named ← eat m.Assign
  if is_named then pure (a.Named name) else pure (a.Positional item)

module _ (expr : Level → Reader Expr) where
  -- ---- comprehensions

  -- the clauses up to a closing bracket
  unfoldable pub closed_clauses : Mark → Reader (List (Clause Expr))
  closed_clauses close = do
    found ← (λ ts. clauses_from expr (length ts) [] ts)
    expect close
    pure found

  -- ---- slices

  -- what stands after a second colon, which may be nothing
  abbrev pub last_bound : Reader (Option Expr)
  last_bound = do
    token ← peek
    if is_mark m.CloseSquare token then pure None else (do x ← expr level.Test; pure (Some x))

  -- the second colon, if it stands, what stands after it, and `]`
  unfoldable pub slice_step : Reader (Option (Option Expr))
  slice_step = do
    stepped ← eat m.Colon
    if stepped then (do
      step ← last_bound
      expect m.CloseSquare
      pure (Some step)) else (do
        expect m.CloseSquare
        pure None)

  -- the second bound, the step, and `]`
  unfoldable pub slice_end : Reader (Option Expr × Option (Option Expr))
  slice_end = do
    stop ← bound expr
    step ← slice_step
    pure (stop, step)

  -- ---- arguments

  -- a positional argument, or the name of a named one with the `=` after it
  unfoldable pub argument : Reader Argument
  argument = do
    item ← expr level.Test
    argument_by item (name_of item)
