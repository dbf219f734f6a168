-- The spellings of the parts of a tree, where the parts are trees and not yet spelled.
use Rattle.std.specs.Prelude.{ℕ, zero, suc, List, [], ◌∷◌, ◌++◌, map, replicate, Option, Some, None}
use Rattle.std.specs.List.{flat_map}
use Rattle.star_syntax.specs.declared.token.Keyword.{Keyword}
use Rattle.star_syntax.specs.declared.token.Keyword.TheVariants as w
use Rattle.star_syntax.specs.declared.token.Token.TheVariants as t
use Rattle.star_syntax.specs.declared.token.Mark.{Mark}
use Rattle.star_syntax.specs.declared.token.Mark.TheVariants as m
use Rattle.star_syntax.specs.declared.expression.Link.{Link}
use Rattle.star_syntax.specs.declared.expression.Arm.{Arm}
use Rattle.star_syntax.specs.declared.expression.Named.{Named}
use Rattle.star_syntax.specs.declared.expression.Pair.{Pair}
use Rattle.star_syntax.specs.declared.expression.Arguments.{Arguments}
use Rattle.star_syntax.specs.declared.expression.Suffix.{Suffix}
use Rattle.star_syntax.specs.declared.expression.Suffix.TheVariants.{Index, Slice, Call, Method}
use Rattle.star_syntax.specs.declared.expression.Clause.{Clause}
use Rattle.star_syntax.specs.declared.expression.Clause.TheVariants.{For, If}
use Rattle.star_syntax.specs.declared.expression.Expr.{Expr}
use Rattle.star_syntax.specs.declared.expression.Expr.TheOpen.{Expr-F}
use Rattle.star_syntax.specs.declared.statement.Block.{Block}
use Rattle.star_syntax.specs.declared.statement.Block.TheVariants.{Inline, Indented}
use Rattle.star_syntax.specs.declared.statement.Branch.{Branch}
use Rattle.star_syntax.specs.declared.statement.Definition.{Definition}
use Rattle.star_syntax.specs.declared.statement.Statement.{Statement}
use Rattle.star_syntax.specs.declared.statement.Statement.TheOpen.{Statement-F}
use Rattle.star_syntax.specs.Spelling.{Tokens, expr_spelling, tests_spelling, line_spelling, statement_spelling, default_spelling, parameters_spelling, listed, if_written, chain_token, sign_token, compare_tokens}

-- ---- lists with marks between

-- the mark between two phrases, before the phrase at this place
abbrev pub after : ℕ → Mark → Tokens
after zero mark = []
after (suc n) mark = t.Mark mark ∷ []

-- phrases with commas between, after so many phrases of the same list
abbrev pub listed_after : ℕ → List Tokens → Tokens
listed_after zero phrases = listed phrases
listed_after (suc n) phrases = flat_map (λ y. t.Mark m.Comma ∷ y) phrases

abbrev pub name_token : List ℕ → Tokens
name_token name = t.Name name ∷ []

-- ---- expressions

abbrev pub expr_pair_spelling : Pair Expr → Tokens
expr_pair_spelling pair = expr_spelling pair.key ++ t.Mark m.Colon ∷ expr_spelling pair.value

abbrev pub listed_arguments : List Expr → List (Named Expr) → Tokens
listed_arguments positional named = listed (map expr_spelling positional ++ map default_spelling named)

abbrev pub expr_arguments_spelling : Arguments Expr → Tokens
expr_arguments_spelling given =
    t.Mark m.OpenRound ∷ (listed_arguments given.positional given.named ++ (if_written given.comma m.Comma ++ t.Mark m.CloseRound ∷ []))

abbrev pub optional_spelling : Option Expr → Tokens
optional_spelling None = []
optional_spelling (Some x) = expr_spelling x

abbrev pub expr_step_spelling : Option (Option Expr) → Tokens
expr_step_spelling None = []
expr_step_spelling (Some step) = t.Mark m.Colon ∷ optional_spelling step

abbrev pub expr_suffix_spelling : Suffix Expr → Tokens
expr_suffix_spelling (Index at) = t.Mark m.OpenSquare ∷ (expr_spelling at ++ t.Mark m.CloseSquare ∷ [])
expr_suffix_spelling (Slice start stop step) =
    t.Mark m.OpenSquare ∷ (optional_spelling start ++ t.Mark m.Colon ∷ (optional_spelling stop ++ (expr_step_spelling step ++ t.Mark m.CloseSquare ∷ [])))
expr_suffix_spelling (Call given) = expr_arguments_spelling given
expr_suffix_spelling (Method name given) = t.Mark m.Dot ∷ t.Name name ∷ expr_arguments_spelling given

abbrev pub expr_clause_spelling : Clause Expr → Tokens
expr_clause_spelling (For targets over) = t.Word w.For ∷ (tests_spelling targets ++ t.Word w.In ∷ expr_spelling over)
expr_clause_spelling (If condition) = t.Word w.If ∷ expr_spelling condition

abbrev pub expr_link_spelling : Link Expr → Tokens
expr_link_spelling link = chain_token link.op ∷ expr_spelling link.operand

abbrev pub expr_arm_spelling : Arm Expr → Tokens
expr_arm_spelling arm = expr_spelling arm.value ++ t.Word w.If ∷ (expr_spelling arm.condition ++ t.Word w.Else ∷ [])

-- what a node spells, over its parts
abbrev pub parts_spelling : Expr-F Expr → Tokens
parts_spelling (Expr-F.Name name) = t.Name name ∷ []
parts_spelling (Expr-F.Int number) = t.Int number ∷ []
parts_spelling (Expr-F.Text text) = t.Text text ∷ []
parts_spelling Expr-F.None = t.Word w.None ∷ []
parts_spelling Expr-F.True = t.Word w.True ∷ []
parts_spelling Expr-F.False = t.Word w.False ∷ []
parts_spelling (Expr-F.Paren inner) = t.Mark m.OpenRound ∷ (expr_spelling inner ++ t.Mark m.CloseRound ∷ [])
parts_spelling (Expr-F.Tuple items comma) =
    t.Mark m.OpenRound ∷ (tests_spelling items ++ (if_written comma m.Comma ++ t.Mark m.CloseRound ∷ []))
parts_spelling (Expr-F.List items comma) =
    t.Mark m.OpenSquare ∷ (tests_spelling items ++ (if_written comma m.Comma ++ t.Mark m.CloseSquare ∷ []))
parts_spelling (Expr-F.ListOver item clauses) =
    t.Mark m.OpenSquare ∷ (expr_spelling item ++ (flat_map expr_clause_spelling clauses ++ t.Mark m.CloseSquare ∷ []))
parts_spelling (Expr-F.Dict pairs comma) =
    t.Mark m.OpenCurly ∷ (listed (map expr_pair_spelling pairs) ++ (if_written comma m.Comma ++ t.Mark m.CloseCurly ∷ []))
parts_spelling (Expr-F.DictOver key value clauses) =
    t.Mark m.OpenCurly ∷ (expr_spelling key ++ t.Mark m.Colon ∷ (expr_spelling value ++ (flat_map expr_clause_spelling clauses ++ t.Mark m.CloseCurly ∷ [])))
parts_spelling (Expr-F.Primary head suffixes) = expr_spelling head ++ flat_map expr_suffix_spelling suffixes
parts_spelling (Expr-F.Signed signs operand) = map sign_token signs ++ expr_spelling operand
parts_spelling (Expr-F.Chain level first links) = expr_spelling first ++ flat_map expr_link_spelling links
parts_spelling (Expr-F.Compare left o right) = expr_spelling left ++ (compare_tokens o ++ expr_spelling right)
parts_spelling (Expr-F.Not count operand) = replicate count (t.Word w.Not) ++ expr_spelling operand
parts_spelling (Expr-F.Conditional arms last) = flat_map expr_arm_spelling arms ++ expr_spelling last

-- ---- statements

abbrev pub body_spelling : Block Statement → Tokens
body_spelling (Inline line) = line_spelling line
body_spelling (Indented statements) = t.Newline ∷ t.Indent ∷ (flat_map statement_spelling statements ++ t.Dedent ∷ [])

abbrev pub case_spelling : Keyword → Branch Statement → Tokens
case_spelling word branch = t.Word word ∷ (expr_spelling branch.condition ++ t.Mark m.Colon ∷ body_spelling branch.body)

abbrev pub otherwise_spelling : Option (Block Statement) → Tokens
otherwise_spelling None = []
otherwise_spelling (Some body) = t.Word w.Else ∷ t.Mark m.Colon ∷ body_spelling body

abbrev pub def_spelling : Definition Statement → Tokens
def_spelling def =
    t.Word w.Def ∷ t.Name def.name ∷ t.Mark m.OpenRound ∷ (parameters_spelling def.required def.defaults
    ++ (if_written def.comma m.Comma ++ t.Mark m.CloseRound ∷ t.Mark m.Colon ∷ body_spelling def.body))

-- what a statement spells, over the statements in its blocks
abbrev pub statement_parts_spelling : Statement-F Statement → Tokens
statement_parts_spelling (Statement-F.Line line) = line_spelling line
statement_parts_spelling (Statement-F.If at first more other) =
    case_spelling w.If first ++ (flat_map (case_spelling w.Elif) more ++ otherwise_spelling other)
statement_parts_spelling (Statement-F.For at targets over body) =
    t.Word w.For ∷ (tests_spelling targets ++ t.Word w.In ∷ (tests_spelling over ++ t.Mark m.Colon ∷ body_spelling body))
statement_parts_spelling (Statement-F.Def at def) = def_spelling def
