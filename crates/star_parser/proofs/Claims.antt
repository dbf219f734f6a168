-- The tokens of a tree, each with the line that it must stand on, if one is claimed: the form of the spelling that the proofs go over.
use Rattle.std.specs.Prelude.{◌≡◌, ℕ, List, [], ◌∷◌, ◌++◌, map, Option, Some, None}
use Rattle.std.specs.List.{flat_map}
use Rattle.star_syntax.specs.declared.token.Token.{Token}
use Rattle.star_syntax.specs.declared.token.Token.TheVariants as t
use Rattle.star_syntax.specs.declared.token.Keyword.{Keyword}
use Rattle.star_syntax.specs.declared.token.Keyword.TheVariants as w
use Rattle.star_syntax.specs.declared.token.Mark.TheVariants as m
use Rattle.star_syntax.specs.declared.token.Spanned.{Spanned}
use Rattle.star_syntax.specs.declared.expression.Expr.{Expr}
use Rattle.star_syntax.specs.declared.statement.Small.{Small}
use Rattle.star_syntax.specs.declared.statement.Line.{Line}
use Rattle.star_syntax.specs.declared.statement.Block.{Block}
use Rattle.star_syntax.specs.declared.statement.Block.TheVariants.{Inline, Indented}
use Rattle.star_syntax.specs.declared.statement.Branch.{Branch}
use Rattle.star_syntax.specs.declared.statement.Definition.{Definition}
use Rattle.star_syntax.specs.declared.statement.Statement.{Statement, fold-Statement}
use Rattle.star_syntax.specs.declared.statement.Statement.TheOpen.{Statement-F}
use Rattle.star_syntax.specs.declared.statement.Module.{Module}
use Rattle.star_syntax.specs.Spelling.{Tokens, expr_spelling, tests_spelling, small_spelling, parameters_spelling, if_written}
use Rattle.star_syntax.specs.Levels.{WellLevelled}
use Rattle.star_parser.specs.Lines.{OnLine}
use Rattle.star_parser.specs.Reading.{Input}

-- ---- tokens with lines

-- a token, and the line that it must stand on, if one is claimed
abbrev pub Claim : Type 0
Claim = Token × Option ℕ

abbrev pub Claims : Type 0
Claims = List Claim

-- a token on any line
abbrev pub free : Token → Claim
free k = (k, None)

abbrev pub plain : Tokens → Claims
plain = map free

-- the first of them on this line
abbrev pub first_claimed : ℕ → Claims → Claims
first_claimed line [] = []
first_claimed line (k ∷ ks) = (k.0, Some line) ∷ ks

abbrev pub small_claims : Small → Claims
small_claims small = first_claimed small.line (plain (small_spelling small))

-- small statements with semicolons between
abbrev pub smalls_claims : List Small → Claims
smalls_claims [] = []
smalls_claims (x ∷ more) = small_claims x ++ flat_map (λ y. free (t.Mark m.Semicolon) ∷ small_claims y) more

unfoldable pub line_claims : Line → Claims
line_claims line = smalls_claims line.smalls ++ plain (if_written line.semicolon m.Semicolon ++ t.Newline ∷ [])

-- ---- statements, over the tokens of the statements in their blocks

abbrev pub block_claims : Block Claims → Claims
block_claims (Inline line) = line_claims line
block_claims (Indented statements) = plain (t.Newline ∷ t.Indent ∷ []) ++ (flat_map (λ s. s) statements ++ plain (t.Dedent ∷ []))

-- `if ..:` or `elif ..:`
abbrev pub branch_header : Keyword → Expr → Tokens
branch_header word condition = t.Word word ∷ (expr_spelling condition ++ t.Mark m.Colon ∷ [])

abbrev pub branch_claims : Keyword → Branch Claims → Claims
branch_claims word branch = plain (branch_header word branch.condition) ++ block_claims branch.body

abbrev pub else_header : Tokens
else_header = t.Word w.Else ∷ t.Mark m.Colon ∷ []

abbrev pub else_claims : Option (Block Claims) → Claims
else_claims None = []
else_claims (Some body) = plain else_header ++ block_claims body

-- `for .. in ..:`
abbrev pub for_header : List Expr → List Expr → Tokens
for_header targets over = t.Word w.For ∷ (tests_spelling targets ++ t.Word w.In ∷ (tests_spelling over ++ t.Mark m.Colon ∷ []))

-- `def name(..):`
abbrev pub def_header : {X : Type 0} → Definition X → Tokens
def_header def =
    t.Word w.Def ∷ t.Name def.name ∷ t.Mark m.OpenRound
    ∷ (parameters_spelling def.required def.defaults ++ (if_written def.comma m.Comma ++ t.Mark m.CloseRound ∷ t.Mark m.Colon ∷ []))

abbrev pub statement_layer_claims : Statement-F Claims → Claims
statement_layer_claims (Statement-F.Line line) = line_claims line
statement_layer_claims (Statement-F.If at first more other) =
    first_claimed at (branch_claims w.If first ++ (flat_map (branch_claims w.Elif) more ++ else_claims other))
statement_layer_claims (Statement-F.For at targets over body) =
    first_claimed at (plain (for_header targets over) ++ block_claims body)
statement_layer_claims (Statement-F.Def at def) = first_claimed at (plain (def_header def) ++ block_claims def.body)

unfoldable pub statement_claims : Statement → Claims
statement_claims = fold-Statement Claims statement_layer_claims

unfoldable pub module_claims : Module → Claims
module_claims cell = flat_map statement_claims cell.statements ++ plain (t.End ∷ [])

-- ---- tokens as they were read

-- the tokens are these, on the lines that are claimed
abbrev pub Matches : List Spanned → Claims → Type 0
Matches [] [] = Unit {0}
Matches (s ∷ c) (k ∷ ks) = (s.token ≡ k.0) × OnLine k.1 s.line × Matches c ks
Matches _ _ = ⊥

-- the tree is well-levelled, and these are its tokens on the lines that it claims
abbrev pub IsClaimed : Module → Input → Type 0
IsClaimed cell tokens = WellLevelled cell × Matches tokens (module_claims cell)
