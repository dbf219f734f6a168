-- The first token of a line and of a statement.
use Rattle.std.proofs.Common.{◌≡◌, ◌≢◌, ◌∙◌, ℕ, ◌<◌, List, [], ◌∷◌, ◌++◌, map, Some, refl, sym, ap, subst, arith}
use Rattle.std.specs.List.{AllByRecursion}
use Rattle.star_syntax.specs.declared.token.Token.{Token}
use Rattle.star_syntax.specs.declared.token.Token.TheVariants as t
use Rattle.star_syntax.specs.declared.token.Keyword.TheVariants as w
use Rattle.star_syntax.specs.declared.token.Mark.TheVariants as m
use Rattle.star_syntax.specs.declared.token.Spanned.{Spanned}
use Rattle.star_syntax.specs.declared.expression.Expr.{Expr}
use Rattle.star_syntax.specs.declared.statement.Small.{Small}
use Rattle.star_syntax.specs.declared.statement.SmallKind.{SmallKind}
use Rattle.star_syntax.specs.declared.statement.SmallKind.TheVariants.{Return, Break, Continue, Pass, Assign, Augmented, Tests}
use Rattle.star_syntax.specs.declared.statement.Line.{Line}
use Rattle.star_syntax.specs.declared.statement.Statement.{Statement, out-Statement, roll-Statement, roll-out-Statement}
use Rattle.star_syntax.specs.declared.statement.Statement.TheOpen.{Statement-F}
use Rattle.star_syntax.specs.Spelling.{Tokens, expr_spelling, tests_spelling, kind_spelling, small_spelling, line_spelling, separated, if_written}
use Rattle.star_syntax.specs.Levels.{IsLevelled, KindFits, LineFits, IsStatement}
use Rattle.star_parser.specs.Reading.{Input}
use Rattle.star_parser.specs.Starts.{starts}
use Rattle.star_parser.proofs.Claims.{Claims, line_claims, statement_claims, Matches}
use Rattle.star_parser.proofs.Rules.{kinds_cons}
use Rattle.star_parser.proofs.First.{expr_starts}
use Rattle.star_parser.proofs.StatementParts.{statement_parts}
use Rattle.star_parser.proofs.ClaimLemmas.{claims_of_parts, tokens_line, matched_kinds, matched_line}

-- a line may begin with this token, so it is none of those that stand between statements
pub record Opens (k : Token) : Type 0 where
  pub no_elif : k ≢ t.Word w.Elif
  pub no_else : k ≢ t.Word w.Else
  pub no_newline : k ≢ t.Newline
  pub no_indent : k ≢ t.Indent
  pub no_dedent : k ≢ t.Dedent
  pub no_end : k ≢ t.End

-- a line's first token begins no statement that holds others
pub record OpensLine (k : Token) : Type 0 where
  pub opens : Opens k
  pub no_if : k ≢ t.Word w.If
  pub no_for : k ≢ t.Word w.For
  pub no_def : k ≢ t.Word w.Def

no_start : (k q : Token) → 0 < starts k → starts q ≡ 0 → k ≢ q
no_start k q some none is = let a : starts k ≡ 0 = ap starts is ∙ none in omega arith

started : (k : Token) → 0 < starts k → OpensLine k
started k some = record {
  opens = record {
    no_elif = no_start k _ some refl;
    no_else = no_start k _ some refl;
    no_newline = no_start k _ some refl;
    no_indent = no_start k _ some refl;
    no_dedent = no_start k _ some refl;
    no_end = no_start k _ some refl;
  };
  no_if = no_start k _ some refl;
  no_for = no_start k _ some refl;
  no_def = no_start k _ some refl;
}

-- ---- what begins with such a token

pub record Begun (P : Token → Type 0) (ks : Tokens) : Type 0 where
  pub first : Token
  pub others : Tokens
  pub whole : ks ≡ first ∷ others
  pub opens : P first

begun_on : {P : Token → Type 0} (a b : Tokens) → Begun P a → Begun P (a ++ b)
begun_on a b s = record { first = s.first; others = s.others ++ b; whole = ap (λ v. v ++ b) s.whole; opens = s.opens }

expr_begun : (x : Expr) → IsLevelled x → Begun OpensLine (expr_spelling x)
expr_begun x levelled = let s = expr_starts x levelled in record { first = s.first; others = s.others; whole = s.whole; opens = started s.first (omega (arith, s.starts_it)) }

tests_begun : (xs : List Expr) → xs ≢ [] → AllByRecursion IsLevelled xs → Begun OpensLine (tests_spelling xs)
tests_begun [] some levelled = absurd (some refl)
tests_begun (x ∷ xs) some levelled = begun_on (expr_spelling x) _ (expr_begun x levelled.0)

kind_begun : (kind : SmallKind) → KindFits kind → Begun OpensLine (kind_spelling kind)
kind_begun (Return tests) fits = record {
  first = t.Word w.Return;
  others = _;
  whole = refl;
  opens = record { opens = record { no_elif = λ e. cc; no_else = λ e. cc; no_newline = λ e. cc; no_indent = λ e. cc; no_dedent = λ e. cc; no_end = λ e. cc }; no_if = λ e. cc; no_for = λ e. cc; no_def = λ e. cc };
}
kind_begun Break fits = record {
  first = t.Word w.Break;
  others = _;
  whole = refl;
  opens = record { opens = record { no_elif = λ e. cc; no_else = λ e. cc; no_newline = λ e. cc; no_indent = λ e. cc; no_dedent = λ e. cc; no_end = λ e. cc }; no_if = λ e. cc; no_for = λ e. cc; no_def = λ e. cc };
}
kind_begun Continue fits = record {
  first = t.Word w.Continue;
  others = _;
  whole = refl;
  opens = record { opens = record { no_elif = λ e. cc; no_else = λ e. cc; no_newline = λ e. cc; no_indent = λ e. cc; no_dedent = λ e. cc; no_end = λ e. cc }; no_if = λ e. cc; no_for = λ e. cc; no_def = λ e. cc };
}
kind_begun Pass fits = record {
  first = t.Word w.Pass;
  others = _;
  whole = refl;
  opens = record { opens = record { no_elif = λ e. cc; no_else = λ e. cc; no_newline = λ e. cc; no_indent = λ e. cc; no_dedent = λ e. cc; no_end = λ e. cc }; no_if = λ e. cc; no_for = λ e. cc; no_def = λ e. cc };
}
kind_begun (Assign targets tests) fits = begun_on (tests_spelling targets) _ (tests_begun targets fits.0.0 fits.1)
kind_begun (Augmented target o tests) fits = begun_on (expr_spelling target) _ (expr_begun target fits.1)
kind_begun (Tests tests) fits = tests_begun tests fits.0 fits.1

smalls_begun : (xs : List Small) → xs ≢ [] → AllByRecursion (λ small. KindFits small.kind) xs → Begun OpensLine (separated m.Semicolon (map small_spelling xs))
unfolding small_spelling
smalls_begun [] some fits = absurd (some refl)
smalls_begun (x ∷ xs) some fits = begun_on (kind_spelling x.kind) _ (kind_begun x.kind fits.0)

pub line_begun : (line : Line) → LineFits line → Begun OpensLine (line_spelling line)
unfolding line_spelling
line_begun line fits = begun_on (separated m.Semicolon (map small_spelling line.smalls) ++ if_written line.semicolon m.Semicolon) _
    (begun_on (separated m.Semicolon (map small_spelling line.smalls)) _ (smalls_begun line.smalls fits.0 fits.1))

pub line_first : (line : Line) (c : Input) → LineFits line → Matches c (line_claims line) → (s : Spanned) × (c' : Input) × (c ≡ s ∷ c') × OpensLine s.token
line_first line c fits spelt =
    let b = line_begun line fits in
    let (s, c', split, is, _) = kinds_cons c b.first b.others (matched_kinds c (line_claims line) spelt ∙ tokens_line line ∙ b.whole) in
    (s, c', split, subst OpensLine (sym is) b.opens)

-- ---- statements

header_first : (c : Input) (at : ℕ) (k : Token) (x : Claims) → Opens k → Matches c ((k, Some at) ∷ x) → (s : Spanned) × (c' : Input) × (c ≡ s ∷ c') × Opens s.token
header_first c at k x opens h = let (s, c', split, is, _, _) = matched_line c at k x h in (s, c', split, subst Opens (sym is) opens)

node_first : (d : Statement-F Statement) (c : Input) → IsStatement (roll-Statement d) → Matches c (statement_claims (roll-Statement d)) → (s : Spanned) × (c' : Input) × (c ≡ s ∷ c') × Opens s.token
node_first (Statement-F.Line line) c levelled spelt =
    let (s, c', split, opens) = line_first line c (statement_parts (Statement-F.Line line) levelled).0 (subst (Matches c) (claims_of_parts (Statement-F.Line line)) spelt) in (s, c', split, opens.opens)
node_first (Statement-F.If at first more other) c levelled spelt =
    header_first c at (t.Word w.If) _ (record { no_elif = λ e. cc; no_else = λ e. cc; no_newline = λ e. cc; no_indent = λ e. cc; no_dedent = λ e. cc; no_end = λ e. cc })
    (subst (Matches c) (claims_of_parts (Statement-F.If at first more other)) spelt)
node_first (Statement-F.For at targets over body) c levelled spelt =
    header_first c at (t.Word w.For) _ (record { no_elif = λ e. cc; no_else = λ e. cc; no_newline = λ e. cc; no_indent = λ e. cc; no_dedent = λ e. cc; no_end = λ e. cc })
    (subst (Matches c) (claims_of_parts (Statement-F.For at targets over body)) spelt)
node_first (Statement-F.Def at def) c levelled spelt =
    header_first c at (t.Word w.Def) _ (record { no_elif = λ e. cc; no_else = λ e. cc; no_newline = λ e. cc; no_indent = λ e. cc; no_dedent = λ e. cc; no_end = λ e. cc })
    (subst (Matches c) (claims_of_parts (Statement-F.Def at def)) spelt)

pub statement_first : (x : Statement) (c : Input) → IsStatement x → Matches c (statement_claims x) → (s : Spanned) × (c' : Input) × (c ≡ s ∷ c') × Opens s.token
statement_first x c levelled spelt = node_first (out-Statement x) c (subst IsStatement (sym (roll-out-Statement x)) levelled) (subst (λ v. Matches c (statement_claims v)) (sym (roll-out-Statement x)) spelt)
