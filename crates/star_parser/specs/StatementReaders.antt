-- The rules of the grammar for statements, as readers over readers of expressions and of nested statements.
use Rattle.std.specs.Prelude.{ℕ, zero, suc, Bool, true, false, ◌&&◌, if◌then◌else◌, List, [], ◌∷◌, ◌++◌, length, Option, Some, None}
use Rattle.star_syntax.specs.declared.token.Token.{Token}
use Rattle.star_syntax.specs.declared.token.Keyword.TheVariants as w
use Rattle.star_syntax.specs.declared.token.Mark.TheVariants as m
use Rattle.star_syntax.specs.declared.operator.BinaryOp.{BinaryOp}
use Rattle.star_syntax.specs.declared.expression.Named.{Named}
use Rattle.star_syntax.specs.declared.expression.Expr.{Expr}
use Rattle.star_syntax.specs.declared.statement.Small.{Small}
use Rattle.star_syntax.specs.declared.statement.SmallKind.{SmallKind}
use Rattle.star_syntax.specs.declared.statement.SmallKind.TheVariants.{Return, Break, Continue, Pass, Assign, Augmented, Tests}
use Rattle.star_syntax.specs.declared.statement.Line.{Line}
use Rattle.star_syntax.specs.declared.statement.Block.{Block}
use Rattle.star_syntax.specs.declared.statement.Block.TheVariants.{Inline, Indented}
use Rattle.star_syntax.specs.declared.statement.Branch.{Branch}
use Rattle.star_syntax.specs.declared.statement.Statement.{Statement}
use Rattle.star_syntax.specs.declared.statement.Statement.TheVariants as s
use Rattle.star_syntax.specs.declared.statement.Module.{Module}
use Rattle.star_syntax.specs.Levels.{is_target, is_place}
use Rattle.star_parser.specs.declared.level.Level.{Level}
use Rattle.star_parser.specs.declared.level.Level.TheVariants as level
use Rattle.star_parser.specs.Reading.{Reader, ◌>>=◌, ◌>>◌, pure, refuse, peek, skip}
use Rattle.star_parser.specs.Tables.{is_mark, eat, expect, eat_word, expect_word, expect_name}
use Rattle.star_parser.specs.StatementTables.{augmented_op, ends_small, here, eat_newline, expect_newline, expect_indent, eat_dedent, eat_end, finish}
use Rattle.star_parser.specs.Readers as readers

-- each of them may stand before `=`
abbrev pub are_targets : List Expr → Bool
are_targets [] = true
are_targets (x ∷ xs) = is_target x && are_targets xs

-- the operator of a mark such as `+=`, where what stands before it is a place
abbrev pub place_op : Expr → Option Token → Option BinaryOp
place_op x token = if is_place x then augmented_op token else None

-- a line of small statements, and whether a semicolon stands at its end
abbrev pub line_of : List Small → Bool → Line
line_of smalls semicolon = record { smalls = smalls; semicolon = semicolon }

module _ (expr : Level → Reader Expr) where
  -- ---- tests

  -- The tests after those found, each after a comma. The number bounds the turns, as in all that follows.
  unfoldable pub tests_after : ℕ → List Expr → Reader (List Expr)
  tests_after zero found = pure found
  tests_after (suc n) found = do
    more ← eat m.Comma
    if more then (do x ← expr level.Test; tests_after n (found ++ x ∷ [])) else pure found

  -- at least one test
  unfoldable pub tests : Reader (List Expr)
  tests = do
    first ← expr level.Test
    (λ ts. tests_after (length ts) (first ∷ []) ts)

  -- ---- small statements

  -- after `return`
  unfoldable pub returned : Reader SmallKind
  returned = do
    token ← peek
    if ends_small token then pure (Return []) else (do values ← tests; pure (Return values))

  -- after targets and `=`
  unfoldable pub assigned : List Expr → Reader SmallKind
  assigned targets = do
    values ← tests
    pure (Assign targets values)

  -- after a place and a mark such as `+=`
  unfoldable pub augmented : Expr → BinaryOp → Reader SmallKind
  augmented target o = do
    values ← tests
    pure (Augmented target o values)

  -- after tests: what is assigned, if they are targets and `=` comes next
  abbrev pub assigned_by : List Expr → Bool → Reader SmallKind
  assigned_by found true = skip >> assigned found
  assigned_by found false = pure (Tests found)

  -- After a test: further ones, and where all are targets perhaps `=` and values. Where they are none, `=` is left, and refused by what follows.
  unfoldable pub listed : Expr → Reader SmallKind
  listed first = do
    found ← (λ ts. tests_after (length ts) (first ∷ []) ts)
    token ← peek
    assigned_by found (is_mark m.Assign token && are_targets found)

  -- after a test: what is stored in it by the operator, or further tests
  abbrev pub phrase_by : Expr → Option BinaryOp → Reader SmallKind
  phrase_by first (Some o) = skip >> augmented first o
  phrase_by first None = listed first

  -- a small statement that begins with a test: after a place perhaps a mark such as `+=`
  unfoldable pub phrase : Reader SmallKind
  phrase = do
    first ← expr level.Test
    token ← peek
    phrase_by first (place_op first token)

  -- a small statement without its line, by the word that it begins with
  unfoldable pub small_kind : Reader SmallKind
  small_kind = do
    returns ← eat_word w.Return
    if returns then returned else (do
      breaks ← eat_word w.Break
      if breaks then pure Break else (do
        continues ← eat_word w.Continue
        if continues then pure Continue else (do
          passes ← eat_word w.Pass
          if passes then pure Pass else phrase)))

  -- a small statement, with the line of its first token
  unfoldable pub small : Reader Small
  small = do
    at ← here
    kind ← small_kind
    pure (record { line = at; kind = kind })

  -- ---- lines

  -- small statements up to the end of the line, after those found
  unfoldable pub smalls_from : ℕ → List Small → Reader Line
  smalls_from zero found = refuse
  smalls_from (suc n) found = do
    x ← small
    more ← eat m.Semicolon
    if more then (do
      ended ← eat_newline
      if ended then pure (line_of (found ++ x ∷ []) true) else smalls_from n (found ++ x ∷ [])) else (do
        expect_newline
        pure (line_of (found ++ x ∷ []) false))

  -- small statements and the end of their line
  unfoldable pub line : Reader Line
  line = λ ts. smalls_from (length ts) [] ts

  -- ---- parameters of functions

  -- The parameters up to `)`, after those found, which have no default: those without a default, those with one, and whether a comma stands at the end.
  -- Parameters with defaults are read as named arguments are.
  unfoldable pub parameters_from : ℕ → List (List ℕ) → Reader (List (List ℕ) × List (Named Expr) × Bool)
  parameters_from zero found = refuse
  parameters_from (suc n) found = do
    name ← expect_name
    valued ← eat m.Assign
    if valued then (do
      given ← (λ ts. readers.named_from expr (length ts) [] [] name ts)
      pure (found, given.named, given.comma)) else (do
        ended ← eat m.CloseRound
        if ended then pure (found ++ name ∷ [], [], false) else (do
          expect m.Comma
          closed ← eat m.CloseRound
          if closed then pure (found ++ name ∷ [], [], true) else parameters_from n (found ++ name ∷ [])))

  -- after `(`
  unfoldable pub parameters : Reader (List (List ℕ) × List (Named Expr) × Bool)
  parameters = do
    closed ← eat m.CloseRound
    if closed then pure ([], [], false) else (λ ts. parameters_from (length ts) [] ts)

  module _ (statement : Reader Statement) where
    -- ---- blocks

    -- the statements up to Dedent, after those found
    unfoldable pub statements_from : ℕ → List Statement → Reader (List Statement)
    statements_from zero found = refuse
    statements_from (suc n) found = do
      x ← statement
      ended ← eat_dedent
      if ended then pure (found ++ x ∷ []) else statements_from n (found ++ x ∷ [])

    -- after the colon of a header
    unfoldable pub block : Reader (Block Statement)
    block = do
      indented ← eat_newline
      if indented then (do
        expect_indent
        found ← (λ ts. statements_from (length ts) [] ts)
        pure (Indented found)) else (do x ← line; pure (Inline x))

    -- ---- statements that hold others

    -- after `if` or `elif`
    unfoldable pub branch : Reader (Branch Statement)
    branch = do
      condition ← expr level.Test
      expect m.Colon
      body ← block
      pure (record { condition = condition; body = body })

    -- branches after `elif`, after those found
    unfoldable pub branches_from : ℕ → List (Branch Statement) → Reader (List (Branch Statement))
    branches_from zero found = pure found
    branches_from (suc n) found = do
      more ← eat_word w.Elif
      if more then (do x ← branch; branches_from n (found ++ x ∷ [])) else pure found

    -- `else` and its block, if it comes next
    unfoldable pub otherwise : Reader (Option (Block Statement))
    otherwise = do
      more ← eat_word w.Else
      if more then (do
        expect m.Colon
        body ← block
        pure (Some body)) else pure None

    -- after the `if` of a statement that begins on this line
    unfoldable pub if_after : ℕ → Reader Statement
    if_after at = do
      first ← branch
      more ← (λ ts. branches_from (length ts) [] ts)
      other ← otherwise
      pure (s.If at first more other)

    -- after the `for` of a statement that begins on this line
    unfoldable pub for_after : ℕ → Reader Statement
    for_after at = do
      targets ← (λ ts. readers.targets_from expr (length ts) [] ts)
      expect_word w.In
      over ← tests
      expect m.Colon
      body ← block
      pure (s.For at targets over body)

    -- after the `def` of a statement that begins on this line
    unfoldable pub def_after : ℕ → Reader Statement
    def_after at = do
      name ← expect_name
      expect m.OpenRound
      given ← parameters
      expect m.Colon
      body ← block
      pure (s.Def at (record { name = name; required = given.0; defaults = given.1; comma = given.2; body = body }))

    -- a statement, over a reader of the statements in its blocks
    unfoldable pub one : Reader Statement
    one = do
      at ← here
      is_if ← eat_word w.If
      if is_if then if_after at else (do
        is_for ← eat_word w.For
        if is_for then for_after at else (do
          is_def ← eat_word w.Def
          if is_def then def_after at else (do x ← line; pure (s.Line x))))

    -- ---- cells

    -- the statements up to End, after those found
    unfoldable pub cell_from : ℕ → List Statement → Reader (List Statement)
    cell_from zero found = refuse
    cell_from (suc n) found = do
      ended ← eat_end
      if ended then pure found else (do x ← statement; cell_from n (found ++ x ∷ []))

    -- all tokens of a cell
    unfoldable pub cell : Reader Module
    cell = do
      found ← (λ ts. cell_from (length ts) [] ts)
      finish
      pure (record { statements = found })

  -- with blocks nested no deeper than the number
  unfoldable pub statement : ℕ → Reader Statement
  statement zero = refuse
  statement (suc depth) = one (statement depth)

-- a whole cell, with expressions and blocks nested no deeper than the numbers
unfoldable pub whole : ℕ → ℕ → Reader Module
whole terms depth = cell (readers.expr terms) (statement (readers.expr terms) depth)
