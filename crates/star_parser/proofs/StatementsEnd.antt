-- The token End stands in no statement, so it ends a cell.
use Rattle.std.proofs.Common.{◌≢◌, ℕ, Bool, true, false, List, [], ◌∷◌, ◌++◌, map, Option, Some, None, refl, sym, subst}
use Rattle.std.specs.List.{flat_map, AllByRecursion}
use Rattle.star_syntax.specs.declared.token.Token.TheVariants as t
use Rattle.star_syntax.specs.declared.token.Keyword.{Keyword}
use Rattle.star_syntax.specs.declared.token.Keyword.TheVariants as w
use Rattle.star_syntax.specs.declared.token.Mark.{Mark}
use Rattle.star_syntax.specs.declared.token.Mark.TheVariants as m
use Rattle.star_syntax.specs.declared.expression.Expr.{Expr}
use Rattle.star_syntax.specs.declared.expression.Named.{Named}
use Rattle.star_syntax.specs.declared.statement.Small.{Small}
use Rattle.star_syntax.specs.declared.statement.SmallKind.{SmallKind}
use Rattle.star_syntax.specs.declared.statement.SmallKind.TheVariants.{Return, Break, Continue, Pass, Assign, Augmented, Tests}
use Rattle.star_syntax.specs.declared.statement.Line.{Line}
use Rattle.star_syntax.specs.declared.statement.Block.{Block}
use Rattle.star_syntax.specs.declared.statement.Block.TheVariants.{Inline, Indented}
use Rattle.star_syntax.specs.declared.statement.Branch.{Branch}
use Rattle.star_syntax.specs.declared.statement.Statement.{Statement}
use Rattle.star_syntax.specs.declared.statement.Statement.TheOpen.{Statement-F}
use Rattle.star_syntax.specs.Spelling.{Tokens, expr_spelling, tests_spelling, kind_spelling, small_spelling, line_spelling, statement_spelling, default_spelling, parameters_spelling, separated, if_written, augmented_mark}
use Rattle.star_syntax.specs.SpellingOfParts.{body_spelling, case_spelling, otherwise_spelling, statement_parts_spelling}
use Rattle.star_syntax.proofs.StatementLemmas.{statement_spells}
use Rattle.star_parser.proofs.NoEnd.{Without, all_joined, without, expr_without, tests_within}
use Rattle.star_parser.proofs.StatementParts.{EachBlock, EachBranch, EachElse, EachPart, induct_statement}

-- End is none of the tokens
abbrev pub NoEnd : Tokens → Type 0
NoEnd = Without t.End

joined : (a b : Tokens) → NoEnd a → NoEnd b → NoEnd (a ++ b)
joined a b = all_joined (λ k. k ≢ t.End) a b

flat : {A : Type 0} (f : A → Tokens) (P : A → Type 0) → ((a : A) → P a → NoEnd (f a)) → (xs : List A) → AllByRecursion P xs → NoEnd (flat_map f xs)
flat f P each [] h = tt
flat f P each (x ∷ xs) h = joined (f x) (flat_map f xs) (each x h.0) (flat f P each xs h.1)

mark : (k : Mark) → t.Mark k ≢ t.End
mark k e = cc

word : (k : Keyword) → t.Word k ≢ t.End
word k e = cc

written : (b : Bool) (k : Mark) → NoEnd (if_written b k)
written true k = (mark k, tt)
written false k = tt

tests : (xs : List Expr) → NoEnd (tests_spelling xs)
tests xs = without t.End refl (tests_spelling xs) (tests_within xs)

expression : (x : Expr) → NoEnd (expr_spelling x)
expression x = expr_without t.End refl x

-- phrases with a mark between each two
phrases : (k : Mark) (xs : List Tokens) → AllByRecursion NoEnd xs → NoEnd (separated k xs)
phrases k [] h = tt
phrases k (x ∷ xs) h = joined x _ h.0 (flat (λ y. t.Mark k ∷ y) NoEnd (λ y held. (mark k, held)) xs h.1)

small : (kind : SmallKind) → NoEnd (kind_spelling kind)
small (Return xs) = (word w.Return, tests xs)
small Break = (word w.Break, tt)
small Continue = (word w.Continue, tt)
small Pass = (word w.Pass, tt)
small (Assign targets xs) = joined (tests_spelling targets) _ (tests targets) (mark m.Assign, tests xs)
small (Augmented target o xs) = joined (expr_spelling target) _ (expression target) (mark (augmented_mark o), tests xs)
small (Tests xs) = tests xs

smalls : (xs : List Small) → AllByRecursion NoEnd (map small_spelling xs)
unfolding small_spelling
smalls [] = tt
smalls (x ∷ xs) = (small x.kind, smalls xs)

newline : t.Newline ≢ t.End
newline e = cc

line : (x : Line) → NoEnd (line_spelling x)
unfolding line_spelling
line x = joined (separated m.Semicolon (map small_spelling x.smalls) ++ if_written x.semicolon m.Semicolon) _
    (joined (separated m.Semicolon (map small_spelling x.smalls)) _ (phrases m.Semicolon (map small_spelling x.smalls) (smalls x.smalls)) (written x.semicolon m.Semicolon)) (newline, tt)

Clean : Statement → Type 0
Clean x = NoEnd (statement_spelling x)

body : (b : Block Statement) → EachBlock Clean b → NoEnd (body_spelling b)
unfolding Clean
body (Inline x) each = line x
body (Indented xs) each =
    (newline, ((λ e. cc), joined (flat_map statement_spelling xs) _ (flat statement_spelling (λ x. NoEnd (statement_spelling x)) (λ x held. held) xs each) ((λ e. cc), tt)))

branch : (k : Keyword) (x : Branch Statement) → EachBranch Clean x → NoEnd (case_spelling k x)
branch k x each = (word k, joined (expr_spelling x.condition) _ (expression x.condition) (mark m.Colon, body x.body each))

otherwise : (other : Option (Block Statement)) → EachElse Clean other → NoEnd (otherwise_spelling other)
otherwise None each = tt
otherwise (Some b) each = (word w.Else, (mark m.Colon, body b each))

names : (xs : List (List ℕ)) (ys : List Tokens) → AllByRecursion NoEnd ys → AllByRecursion NoEnd (map (λ name. t.Name name ∷ []) xs ++ ys)
names [] ys h = h
names (x ∷ xs) ys h = (((λ e. cc), tt), names xs ys h)

defaults : (xs : List (Named Expr)) → AllByRecursion NoEnd (map default_spelling xs)
defaults [] = tt
defaults (x ∷ xs) = (((λ e. cc), (mark m.Assign, expression x.value)), defaults xs)

node : (d : Statement-F Statement) → EachPart Clean d → NoEnd (statement_parts_spelling d)
node (Statement-F.Line x) each = line x
node (Statement-F.If at first more other) each =
    joined (case_spelling w.If first) _ (branch w.If first each.0)
    (joined (flat_map (case_spelling w.Elif) more) _ (flat (case_spelling w.Elif) (EachBranch Clean) (branch w.Elif) more each.1) (otherwise other each.2))
node (Statement-F.For at targets over b) each =
    (word w.For, joined (tests_spelling targets) _ (tests targets) (word w.In, joined (tests_spelling over) _ (tests over) (mark m.Colon, body b each)))
node (Statement-F.Def at def) each =
    let rest : NoEnd (if_written def.comma m.Comma ++ t.Mark m.CloseRound ∷ t.Mark m.Colon ∷ body_spelling def.body) =
    joined (if_written def.comma m.Comma) _ (written def.comma m.Comma) (mark m.CloseRound, (mark m.Colon, body def.body each)) in
    let given : NoEnd (parameters_spelling def.required def.defaults) = phrases m.Comma _ (names def.required (map default_spelling def.defaults) (defaults def.defaults)) in
    (word w.Def, ((λ e. cc), (mark m.OpenRound, joined (parameters_spelling def.required def.defaults) _ given rest)))

pub statement_clean : (x : Statement) → NoEnd (statement_spelling x)
unfolding Clean
statement_clean = induct_statement Clean (λ d each. subst NoEnd (sym (statement_spells d)) (node d each))

pub statements_clean : (xs : List Statement) → NoEnd (flat_map statement_spelling xs)
statements_clean [] = tt
statements_clean (x ∷ xs) = joined (statement_spelling x) _ (statement_clean x) (statements_clean xs)
