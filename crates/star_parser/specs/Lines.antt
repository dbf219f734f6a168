-- The lines of a tree's statements, beside the tokens of its spelling; and trees without their lines.
use Rattle.std.specs.Prelude.{◌≡◌, ℕ, List, [], ◌∷◌, ◌++◌, map, Option, Some, None}
use Rattle.std.specs.List.{flat_map}
use Rattle.star_syntax.specs.declared.token.Mark.TheVariants as m
use Rattle.star_syntax.specs.declared.token.Spanned.{Spanned}
use Rattle.star_syntax.specs.declared.statement.Small.{Small}
use Rattle.star_syntax.specs.declared.statement.Line.{Line}
use Rattle.star_syntax.specs.declared.statement.Block.{Block}
use Rattle.star_syntax.specs.declared.statement.Block.TheVariants.{Inline, Indented}
use Rattle.star_syntax.specs.declared.statement.Branch.{Branch}
use Rattle.star_syntax.specs.declared.statement.Definition.{Definition}
use Rattle.star_syntax.specs.declared.statement.Statement.{Statement, fold-Statement, roll-Statement}
use Rattle.star_syntax.specs.declared.statement.Statement.TheOpen.{Statement-F}
use Rattle.star_syntax.specs.declared.statement.Module.{Module}
use Rattle.star_syntax.specs.Spelling.{Tokens, expr_spelling, tests_spelling, small_spelling, parameters_spelling, if_written}

-- ---- the lines of first tokens

-- for each token of a spelling, the line of the statement whose first token it is, if it is one's
abbrev pub Lines : Type 0
Lines = List (Option ℕ)

-- tokens that are no statement's first
abbrev pub inner : Tokens → Lines
inner = map (λ _. None)

-- the first of them is the first token of a statement with this line
abbrev pub begun : ℕ → Lines → Lines
begun line [] = []
begun line (_ ∷ more) = Some line ∷ more

abbrev pub lines_of_small : Small → Lines
lines_of_small small = begun small.line (inner (small_spelling small))

-- small statements with semicolons between
abbrev pub lines_of_smalls : List Small → Lines
lines_of_smalls [] = []
lines_of_smalls (x ∷ more) = lines_of_small x ++ flat_map (λ y. None ∷ lines_of_small y) more

-- at the end perhaps a semicolon, and Newline
unfoldable pub lines_of_line : Line → Lines
lines_of_line line = lines_of_smalls line.smalls ++ (inner (if_written line.semicolon m.Semicolon) ++ None ∷ [])

-- Newline, Indent, the statements, Dedent
abbrev pub lines_of_block : Block Lines → Lines
lines_of_block (Inline line) = lines_of_line line
lines_of_block (Indented statements) = None ∷ None ∷ (flat_map (λ s. s) statements ++ None ∷ [])

-- `if` or `elif`, the condition, the colon, the block
abbrev pub lines_of_branch : Branch Lines → Lines
lines_of_branch branch = None ∷ (inner (expr_spelling branch.condition) ++ None ∷ lines_of_block branch.body)

-- `else`, the colon, the block
abbrev pub lines_of_else : Option (Block Lines) → Lines
lines_of_else None = []
lines_of_else (Some body) = None ∷ None ∷ lines_of_block body

-- `for`, the targets, `in`, the tests, the colon, the block
abbrev pub lines_of_for : Tokens → Tokens → Lines → Lines
lines_of_for targets over body = None ∷ (inner targets ++ None ∷ (inner over ++ None ∷ body))

-- `def`, the name, `(`, the parameters, perhaps a comma, `)`, the colon, the block
abbrev pub lines_of_def : Tokens → Tokens → Lines → Lines
lines_of_def parameters comma body = None ∷ None ∷ None ∷ (inner parameters ++ (inner comma ++ None ∷ None ∷ body))

abbrev pub lines_of_layer : Statement-F Lines → Lines
lines_of_layer (Statement-F.Line line) = lines_of_line line
lines_of_layer (Statement-F.If at first more other) = begun at (lines_of_branch first ++ (flat_map lines_of_branch more ++ lines_of_else other))
lines_of_layer (Statement-F.For at targets over body) = begun at (lines_of_for (tests_spelling targets) (tests_spelling over) (lines_of_block body))
lines_of_layer (Statement-F.Def at def) =
    begun at (lines_of_def (parameters_spelling def.required def.defaults) (if_written def.comma m.Comma) (lines_of_block def.body))

unfoldable pub lines_of_statement : Statement → Lines
lines_of_statement = fold-Statement Lines lines_of_layer

-- the statements, and End
unfoldable pub lines_of : Module → Lines
lines_of cell = flat_map lines_of_statement cell.statements ++ None ∷ []

abbrev pub OnLine : Option ℕ → ℕ → Type 0
OnLine None line = Unit {0}
OnLine (Some first) line = first ≡ line

-- as many tokens as lines, each token on its line, if there is one for it
abbrev pub StandOn : Lines → List Spanned → Type 0
StandOn [] [] = Unit {0}
StandOn (x ∷ more) (s ∷ tokens) = OnLine x s.line × StandOn more tokens
StandOn _ _ = ⊥

-- ---- trees without their lines

abbrev pub unlined_small : Small → Small
unlined_small small = record { line = 0; kind = small.kind }

abbrev pub unlined_line : Line → Line
unlined_line line = record { smalls = map unlined_small line.smalls; semicolon = line.semicolon }

-- a block of statements that have no lines
abbrev pub unlined_block : Block Statement → Block Statement
unlined_block (Inline line) = Inline (unlined_line line)
unlined_block (Indented statements) = Indented statements

abbrev pub unlined_branch : Branch Statement → Branch Statement
unlined_branch branch = record { condition = branch.condition; body = unlined_block branch.body }

abbrev pub unlined_else : Option (Block Statement) → Option (Block Statement)
unlined_else None = None
unlined_else (Some body) = Some (unlined_block body)

abbrev pub unlined_definition : Definition Statement → Definition Statement
unlined_definition def =
    record { name = def.name; required = def.required; defaults = def.defaults; comma = def.comma; body = unlined_block def.body }

abbrev pub unlined_layer : Statement-F Statement → Statement-F Statement
unlined_layer (Statement-F.Line line) = Statement-F.Line (unlined_line line)
unlined_layer (Statement-F.If at first more other) = Statement-F.If 0 (unlined_branch first) (map unlined_branch more) (unlined_else other)
unlined_layer (Statement-F.For at targets over body) = Statement-F.For 0 targets over (unlined_block body)
unlined_layer (Statement-F.Def at def) = Statement-F.Def 0 (unlined_definition def)

-- the statement with 0 for each line
unfoldable pub unlined_statement : Statement → Statement
unlined_statement = fold-Statement Statement (λ layer. roll-Statement (unlined_layer layer))

-- the tree with 0 for each line
unfoldable pub unlined : Module → Module
unlined cell = record { statements = map unlined_statement cell.statements }
