-- The tokens that a tree is spelled with, by one case for each line of the grammar of docs/LANGUAGE.md.
use Rattle.std.specs.Prelude.{ℕ, Bool, List, [], ◌∷◌, ◌++◌, replicate, map, Option, Some, None, if◌then◌else◌}
use Rattle.std.specs.List.{flat_map}
use Rattle.star_syntax.specs.declared.token.Token.{Token}
use Rattle.star_syntax.specs.declared.token.Token.TheVariants as t
use Rattle.star_syntax.specs.declared.token.Keyword.{Keyword}
use Rattle.star_syntax.specs.declared.token.Keyword.TheVariants as w
use Rattle.star_syntax.specs.declared.token.Mark.{Mark}
use Rattle.star_syntax.specs.declared.token.Mark.TheVariants as m
use Rattle.star_syntax.specs.declared.operator.BinaryOp.{BinaryOp}
use Rattle.star_syntax.specs.declared.operator.BinaryOp.TheVariants as op
use Rattle.star_syntax.specs.declared.operator.UnaryOp.{UnaryOp}
use Rattle.star_syntax.specs.declared.operator.UnaryOp.TheVariants as sign
use Rattle.star_syntax.specs.declared.operator.CompareOp.{CompareOp}
use Rattle.star_syntax.specs.declared.operator.CompareOp.TheVariants as cmp
use Rattle.star_syntax.specs.declared.expression.ChainOp.{ChainOp}
use Rattle.star_syntax.specs.declared.expression.ChainOp.TheVariants as chain
use Rattle.star_syntax.specs.declared.expression.Link.{Link}
use Rattle.star_syntax.specs.declared.expression.Arm.{Arm}
use Rattle.star_syntax.specs.declared.expression.Named.{Named}
use Rattle.star_syntax.specs.declared.expression.Pair.{Pair}
use Rattle.star_syntax.specs.declared.expression.Arguments.{Arguments}
use Rattle.star_syntax.specs.declared.expression.Suffix.{Suffix}
use Rattle.star_syntax.specs.declared.expression.Suffix.TheVariants.{Index, Slice, Call, Method}
use Rattle.star_syntax.specs.declared.expression.Clause.{Clause}
use Rattle.star_syntax.specs.declared.expression.Clause.TheVariants.{For, If}
use Rattle.star_syntax.specs.declared.expression.Expr.{Expr, fold-Expr}
use Rattle.star_syntax.specs.declared.expression.Expr.TheOpen.{Expr-F}
use Rattle.star_syntax.specs.declared.statement.Small.{Small}
use Rattle.star_syntax.specs.declared.statement.SmallKind.{SmallKind}
use Rattle.star_syntax.specs.declared.statement.SmallKind.TheVariants.{Return, Break, Continue, Pass, Assign, Augmented, Tests}
use Rattle.star_syntax.specs.declared.statement.Line.{Line}
use Rattle.star_syntax.specs.declared.statement.Block.{Block}
use Rattle.star_syntax.specs.declared.statement.Block.TheVariants.{Inline, Indented}
use Rattle.star_syntax.specs.declared.statement.Branch.{Branch}
use Rattle.star_syntax.specs.declared.statement.Definition.{Definition}
use Rattle.star_syntax.specs.declared.statement.Statement.{Statement, fold-Statement}
use Rattle.star_syntax.specs.declared.statement.Statement.TheOpen.{Statement-F}
use Rattle.star_syntax.specs.declared.statement.Module.{Module}

abbrev pub Tokens : Type 0
Tokens = List Token

-- ---- single tokens

-- the mark of an operator between two operands
abbrev pub binary_mark : BinaryOp → Mark
binary_mark op.Add = m.Plus
binary_mark op.Sub = m.Minus
binary_mark op.Mul = m.Star
binary_mark op.Floor = m.FloorDivide
binary_mark op.Mod = m.Percent
binary_mark op.And = m.Ampersand
binary_mark op.Or = m.Bar
binary_mark op.Xor = m.Caret

-- the mark of an operator that stores its result in its left operand
abbrev pub augmented_mark : BinaryOp → Mark
augmented_mark op.Add = m.PlusAssign
augmented_mark op.Sub = m.MinusAssign
augmented_mark op.Mul = m.StarAssign
augmented_mark op.Floor = m.FloorAssign
augmented_mark op.Mod = m.PercentAssign
augmented_mark op.And = m.AmpersandAssign
augmented_mark op.Or = m.BarAssign
augmented_mark op.Xor = m.CaretAssign

abbrev pub chain_token : ChainOp → Token
chain_token chain.Or = t.Word w.Or
chain_token chain.And = t.Word w.And
chain_token (chain.Binary o) = t.Mark (binary_mark o)

abbrev pub sign_token : UnaryOp → Token
sign_token sign.Plus = t.Mark m.Plus
sign_token sign.Minus = t.Mark m.Minus
sign_token sign.Invert = t.Mark m.Tilde

-- a comparison; one of them is two words
abbrev pub compare_tokens : CompareOp → Tokens
compare_tokens cmp.Equal = t.Mark m.Equal ∷ []
compare_tokens cmp.NotEqual = t.Mark m.NotEqual ∷ []
compare_tokens cmp.Less = t.Mark m.Less ∷ []
compare_tokens cmp.Greater = t.Mark m.Greater ∷ []
compare_tokens cmp.AtMost = t.Mark m.AtMost ∷ []
compare_tokens cmp.AtLeast = t.Mark m.AtLeast ∷ []
compare_tokens cmp.Within = t.Word w.In ∷ []
compare_tokens cmp.NotWithin = t.Word w.Not ∷ t.Word w.In ∷ []

-- a mark, if it is written
abbrev pub if_written : Bool → Mark → Tokens
if_written written mark = if written then t.Mark mark ∷ [] else []

-- what may be left out
abbrev pub optional : Option Tokens → Tokens
optional None = []
optional (Some x) = x

-- phrases with a mark between each two
abbrev pub separated : Mark → List Tokens → Tokens
separated mark [] = []
separated mark (x ∷ more) = x ++ flat_map (λ y. t.Mark mark ∷ y) more

-- `x, y, z`
abbrev pub listed : List Tokens → Tokens
listed = separated m.Comma

-- ---- expressions, over the spellings of their parts

-- `name = value`
abbrev pub named_spelling : Named Tokens → Tokens
named_spelling named = t.Name named.name ∷ t.Mark m.Assign ∷ named.value

-- `key: value`
abbrev pub pair_spelling : Pair Tokens → Tokens
pair_spelling pair = pair.key ++ t.Mark m.Colon ∷ pair.value

-- `(..)`, the positional arguments first
abbrev pub arguments_spelling : Arguments Tokens → Tokens
arguments_spelling given =
    t.Mark m.OpenRound ∷ listed (given.positional ++ map named_spelling given.named) ++ if_written given.comma m.Comma ++ t.Mark m.CloseRound ∷ []

-- the second colon of a slice, and what stands after it
abbrev pub step_spelling : Option (Option Tokens) → Tokens
step_spelling None = []
step_spelling (Some step) = t.Mark m.Colon ∷ optional step

abbrev pub suffix_spelling : Suffix Tokens → Tokens
suffix_spelling (Index at) = t.Mark m.OpenSquare ∷ at ++ t.Mark m.CloseSquare ∷ []
suffix_spelling (Slice start stop step) =
    t.Mark m.OpenSquare ∷ optional start ++ t.Mark m.Colon ∷ optional stop ++ step_spelling step ++ t.Mark m.CloseSquare ∷ []
suffix_spelling (Call given) = arguments_spelling given
suffix_spelling (Method name given) = t.Mark m.Dot ∷ t.Name name ∷ arguments_spelling given

abbrev pub clause_spelling : Clause Tokens → Tokens
clause_spelling (For targets over) = t.Word w.For ∷ listed targets ++ t.Word w.In ∷ over
clause_spelling (If condition) = t.Word w.If ∷ condition

-- an operator, and the operand after it
abbrev pub link_spelling : Link Tokens → Tokens
link_spelling link = chain_token link.op ∷ link.operand

-- `value if condition else`
abbrev pub arm_spelling : Arm Tokens → Tokens
arm_spelling arm = arm.value ++ t.Word w.If ∷ arm.condition ++ t.Word w.Else ∷ []

abbrev pub layer_spelling : Expr-F Tokens → Tokens
layer_spelling (Expr-F.Name name) = t.Name name ∷ []
layer_spelling (Expr-F.Int number) = t.Int number ∷ []
layer_spelling (Expr-F.Text text) = t.Text text ∷ []
layer_spelling Expr-F.None = t.Word w.None ∷ []
layer_spelling Expr-F.True = t.Word w.True ∷ []
layer_spelling Expr-F.False = t.Word w.False ∷ []
layer_spelling (Expr-F.Paren inner) = t.Mark m.OpenRound ∷ inner ++ t.Mark m.CloseRound ∷ []
layer_spelling (Expr-F.Tuple items comma) =
    t.Mark m.OpenRound ∷ listed items ++ if_written comma m.Comma ++ t.Mark m.CloseRound ∷ []
layer_spelling (Expr-F.List items comma) =
    t.Mark m.OpenSquare ∷ listed items ++ if_written comma m.Comma ++ t.Mark m.CloseSquare ∷ []
layer_spelling (Expr-F.ListOver item clauses) =
    t.Mark m.OpenSquare ∷ item ++ flat_map clause_spelling clauses ++ t.Mark m.CloseSquare ∷ []
layer_spelling (Expr-F.Dict pairs comma) =
    t.Mark m.OpenCurly ∷ listed (map pair_spelling pairs) ++ if_written comma m.Comma ++ t.Mark m.CloseCurly ∷ []
layer_spelling (Expr-F.DictOver key value clauses) =
    t.Mark m.OpenCurly ∷ key ++ t.Mark m.Colon ∷ value ++ flat_map clause_spelling clauses ++ t.Mark m.CloseCurly ∷ []
layer_spelling (Expr-F.Primary head suffixes) = head ++ flat_map suffix_spelling suffixes
layer_spelling (Expr-F.Signed signs operand) = map sign_token signs ++ operand
layer_spelling (Expr-F.Chain level first links) = first ++ flat_map link_spelling links
layer_spelling (Expr-F.Compare left o right) = left ++ compare_tokens o ++ right
layer_spelling (Expr-F.Not count operand) = replicate count (t.Word w.Not) ++ operand
layer_spelling (Expr-F.Conditional arms last) = flat_map arm_spelling arms ++ last

unfoldable pub expr_spelling : Expr → Tokens
expr_spelling = fold-Expr Tokens layer_spelling

-- ---- small statements and lines

-- tests or targets with commas between
abbrev pub tests_spelling : List Expr → Tokens
tests_spelling tests = listed (map expr_spelling tests)

abbrev pub kind_spelling : SmallKind → Tokens
kind_spelling (Return tests) = t.Word w.Return ∷ tests_spelling tests
kind_spelling Break = t.Word w.Break ∷ []
kind_spelling Continue = t.Word w.Continue ∷ []
kind_spelling Pass = t.Word w.Pass ∷ []
kind_spelling (Assign targets tests) = tests_spelling targets ++ t.Mark m.Assign ∷ tests_spelling tests
kind_spelling (Augmented target o tests) = expr_spelling target ++ t.Mark (augmented_mark o) ∷ tests_spelling tests
kind_spelling (Tests tests) = tests_spelling tests

unfoldable pub small_spelling : Small → Tokens
small_spelling small = kind_spelling small.kind

unfoldable pub line_spelling : Line → Tokens
line_spelling line = separated m.Semicolon (map small_spelling line.smalls) ++ if_written line.semicolon m.Semicolon ++ t.Newline ∷ []

-- ---- statements, over the spellings of the statements in their blocks

-- what stands after the colon of a header
abbrev pub block_spelling : Block Tokens → Tokens
block_spelling (Inline line) = line_spelling line
block_spelling (Indented statements) = t.Newline ∷ t.Indent ∷ flat_map (λ s. s) statements ++ t.Dedent ∷ []

-- `if` or `elif`, its condition and its block
abbrev pub branch_spelling : Keyword → Branch Tokens → Tokens
branch_spelling word branch = t.Word word ∷ expr_spelling branch.condition ++ t.Mark m.Colon ∷ block_spelling branch.body

abbrev pub else_spelling : Option (Block Tokens) → Tokens
else_spelling None = []
else_spelling (Some body) = t.Word w.Else ∷ t.Mark m.Colon ∷ block_spelling body

-- a parameter with its default
abbrev pub default_spelling : Named Expr → Tokens
default_spelling named = t.Name named.name ∷ t.Mark m.Assign ∷ expr_spelling named.value

-- the parameters of a `def`, those without a default first
abbrev pub parameters_spelling : List (List ℕ) → List (Named Expr) → Tokens
parameters_spelling required defaults = listed (map (λ name. t.Name name ∷ []) required ++ map default_spelling defaults)

abbrev pub definition_spelling : Definition Tokens → Tokens
definition_spelling def =
    t.Word w.Def ∷ t.Name def.name ∷ t.Mark m.OpenRound ∷ parameters_spelling def.required def.defaults
    ++ if_written def.comma m.Comma ++ t.Mark m.CloseRound ∷ t.Mark m.Colon ∷ block_spelling def.body

abbrev pub statement_layer_spelling : Statement-F Tokens → Tokens
statement_layer_spelling (Statement-F.Line line) = line_spelling line
statement_layer_spelling (Statement-F.If at first more other) =
    branch_spelling w.If first ++ flat_map (branch_spelling w.Elif) more ++ else_spelling other
statement_layer_spelling (Statement-F.For at targets over body) =
    t.Word w.For ∷ tests_spelling targets ++ t.Word w.In ∷ tests_spelling over ++ t.Mark m.Colon ∷ block_spelling body
statement_layer_spelling (Statement-F.Def at def) = definition_spelling def

unfoldable pub statement_spelling : Statement → Tokens
statement_spelling = fold-Statement Tokens statement_layer_spelling

-- the tokens of a cell; the lines of its statements are no part of them
unfoldable pub spelling : Module → Tokens
spelling cell = flat_map statement_spelling cell.statements ++ t.End ∷ []
