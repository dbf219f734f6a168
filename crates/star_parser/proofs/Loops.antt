-- The headers of `for` and `def`, with their blocks, are read exactly.
use Rattle.std.proofs.Common.{◌≡◌, ◌∙◌, ℕ, ◌≤◌, ◌<◌, List, [], ◌∷◌, ◌++◌, Some, Ok, refl, sym, ap, subst, arith, append_assoc, length}
use Rattle.star_syntax.specs.declared.token.Token.TheVariants as t
use Rattle.star_syntax.specs.declared.token.Keyword.TheVariants as w
use Rattle.star_syntax.specs.declared.token.Mark.TheVariants as m
use Rattle.star_syntax.specs.declared.expression.Expr.{Expr}
use Rattle.star_syntax.specs.declared.statement.Block.{Block}
use Rattle.star_syntax.specs.declared.statement.Definition.{Definition}
use Rattle.star_syntax.specs.declared.statement.Statement.{Statement, roll-Statement}
use Rattle.star_syntax.specs.declared.statement.Statement.TheOpen.{Statement-F}
use Rattle.star_syntax.specs.declared.statement.Statement.TheVariants as tree
use Rattle.star_syntax.specs.Spelling.{Tokens, tests_spelling, parameters_spelling, if_written}
use Rattle.star_syntax.specs.Levels.{StatementFits, IsStatement}
use Rattle.star_parser.specs.declared.level.Level.{Level}
use Rattle.star_parser.specs.declared.level.Level.TheVariants as level
use Rattle.star_parser.specs.Reading.{Input, Reader, ◌>>=◌, pure, next, rest}
use Rattle.star_parser.specs.Tables.{expect, expect_word}
use Rattle.star_parser.specs.Readers.{targets_from}
use Rattle.star_parser.specs.Ends.{reach, Ends}
use Rattle.star_parser.specs.StatementTables.{first_line}
use Rattle.star_parser.specs.StatementReaders.{tests, line, parameters, block, for_after, def_after}
use Rattle.star_parser.proofs.Claims.{plain, Matches}
use Rattle.star_parser.proofs.Exact.{Exact, Then, Just, exact_then, exact_ends}
use Rattle.star_parser.proofs.Steps.{Tok, some_token, exact_expected_then, token_next}
use Rattle.star_parser.proofs.Rules.{length_after, length_less}
use Rattle.star_parser.proofs.Words.{NameToken, exact_word_then, exact_name_then}
use Rattle.star_parser.proofs.Bracketed.{Any, Inside}
use Rattle.star_parser.proofs.Clauses.{EndsTargets, SpelledTargets, targets_whole, targets_spelled, some_targets, targets_exact}
use Rattle.star_parser.proofs.TestLists.{IsTests, EndsTests, some_tests, tests_exact}
use Rattle.star_parser.proofs.LineRules.{IsLine}
use Rattle.star_parser.proofs.Parameters.{Parameters, IsParameters, some_given, parameters_exact}
use Rattle.star_parser.proofs.StatementParts.{EachPart}
use Rattle.star_parser.proofs.ClaimLemmas.{body_claims, parts_claims, matched_cons, matched_line}
use Rattle.star_parser.proofs.Openings.{line_first}
use Rattle.star_parser.proofs.Blocks.{IsSpelled, EndsStatement, IsBlock}
use Rattle.star_parser.proofs.Headers.{fronted, front_split, matched_token, TokAt, exact_tok_at, ColonBlock, colon_there, colon_back, some_colon, colon_exact, node_of, of_node}
use Rattle.star_parser.proofs.Branches.{header_next}

-- ---- `for`

abbrev made_for : ℕ → List Expr → List Expr → Block Statement → Statement
made_for at targets over body = tree.For at targets over body

-- what stands after the `in` of a `for`
abbrev AfterIn : ℕ → List Expr → Statement → Input → Type 0
AfterIn at targets = Then IsTests (λ over. ColonBlock (made_for at targets over))

-- what stands after the targets of a `for`
abbrev AfterTargets : ℕ → List Expr → Statement → Input → Type 0
AfterTargets at targets = Then (Tok (t.Word w.In)) (λ _. AfterIn at targets)

-- what stands after `for` on this line
abbrev ForRest : ℕ → Statement → Input → Type 0
ForRest at = Then (SpelledTargets []) (AfterTargets at)

-- `for` with its line, and what follows it
abbrev pub IsFor : Statement → Input → Type 0
IsFor = Then (TokAt (t.Word w.For)) ForRest

-- the tokens between the targets and the block
abbrev over_rest : List Expr → Tokens
over_rest over = tests_spelling over ++ t.Mark m.Colon ∷ []

pub for_there : (x : Statement) (c : Input) → IsFor x c → IsSpelled x c
for_there x c (at, c1, c2, (s, is, at_is, one), (targets, c3, c4, r1, (u, c5, c6, (s2, is2, one2), (over, c7, c8, r2, last, split4), split3), split2), split) =
    let (body, b, x_is) = colon_there (made_for at targets over) x c8 last in
    let (are, levelled, spelt) = targets_whole targets c3 r1 in
    let m6 : Matches c6 (plain (over_rest over) ++ body_claims body) = fronted c6 c7 c8 (tests_spelling over) (t.Mark m.Colon ∷ []) (body_claims body) split4 r2.spelt b.spelt in
    let m4 : Matches c4 (plain (t.Word w.In ∷ over_rest over) ++ body_claims body) = matched_token c4 c5 c6 (t.Word w.In) s2 (plain (over_rest over) ++ body_claims body) split3 one2 is2 m6 in
    let m2 : Matches c2 (plain (tests_spelling targets ++ t.Word w.In ∷ over_rest over) ++ body_claims body) =
    fronted c2 c3 c4 (tests_spelling targets) (t.Word w.In ∷ over_rest over) (body_claims body) split2 spelt m4 in
    of_node (Statement-F.For at targets over body) x c (tree.rolls-For at targets over body ∙ sym x_is) (are, levelled, r2.fits, b.fits) b.each
    (subst (λ v. Matches v (parts_claims (Statement-F.For at targets over body))) (sym (split ∙ ap (λ v. v ++ c2) one)) (is, at_is, m2))

for_by : (x : Statement) (c more : Input) (d : Statement-F Statement) → roll-Statement d ≡ x → StatementFits d → EachPart IsStatement d → Matches c (parts_claims d)
    → next (c ++ more) ≡ Some (t.Word w.For) → IsFor x c
for_by x c more (Statement-F.Line l) is fits each spelt look =
    let (s, c', split, opens) = line_first l c fits spelt in
    absurd (opens.no_for (let a : Some s.token ≡ Some (t.Word w.For) = ap (λ v. next (v ++ more)) (sym split) ∙ look in cc))
for_by x c more (Statement-F.If at first others other) is fits each spelt look =
    absurd (let a : Some (t.Word w.If) ≡ Some (t.Word w.For) = sym (header_next c more at (t.Word w.If) _ spelt) ∙ look in cc)
for_by x c more (Statement-F.For at targets over body) is fits each spelt look =
    let (s, c2, split, s_is, at_is, m2) = matched_line c at (t.Word w.For) (plain (tests_spelling targets ++ t.Word w.In ∷ over_rest over) ++ body_claims body) spelt in
    let (c3, c4, split2, is3, m4) = front_split c2 (tests_spelling targets) (t.Word w.In ∷ over_rest over) (body_claims body) m2 in
    let (s2, c6, split3, is2, m6) = matched_cons c4 (t.Word w.In) (plain (over_rest over) ++ body_claims body) m4 in
    let (c7, c8, split4, is7, m8) = front_split c6 (tests_spelling over) (t.Mark m.Colon ∷ []) (body_claims body) m6 in (
      at,
      s ∷ [],
      c2,
      (s, s_is, at_is, refl),
      (
        targets,
        c3,
        c4,
        targets_spelled targets c3 fits.0 fits.1 is3,
        (
          tt,
          s2 ∷ [],
          c6,
          (s2, is2, refl),
          (
            over,
            c7,
            c8,
            record { fits = fits.2; spelt = is7 },
            colon_back (made_for at targets over) x c8 body (record { fits = fits.3; each = each; spelt = m8 }) (sym is ∙ tree.rolls-For at targets over body),
            split4,
          ),
          split3,
        ),
        split2,
      ),
      split,
    )
for_by x c more (Statement-F.Def at def) is fits each spelt look =
    absurd (let a : Some (t.Word w.Def) ≡ Some (t.Word w.For) = sym (header_next c more at (t.Word w.Def) _ spelt) ∙ look in cc)

pub for_back : (x : Statement) (c more : Input) → IsSpelled x c → next (c ++ more) ≡ Some (t.Word w.For) → IsFor x c
for_back x c more h look = let n = node_of x c h in for_by x c more n.layer n.whole n.fits n.each n.spelt look

some_after_in : (at : ℕ) (targets : List Expr) → (x : Statement) × (c : Input) × AfterIn at targets x c
some_after_in at targets = let (over, c, r) = some_tests in let (x, d, q) = some_colon (made_for at targets over) in (x, c ++ d, (over, c, d, r, q, refl))

some_after_targets : (at : ℕ) (targets : List Expr) → (x : Statement) × (c : Input) × AfterTargets at targets x c
some_after_targets at targets =
    let (x, c, r) = some_after_in at targets in let s = some_token (t.Word w.In) in (x, s ∷ c, (tt, s ∷ [], c, (s, refl, refl), r, refl))

some_for : (at : ℕ) → (x : Statement) × (c : Input) × ForRest at x c
some_for at = let (targets, c, r) = some_targets [] in let (x, d, q) = some_after_targets at targets in (x, c ++ d, (targets, c, d, r, q, refl))

-- ---- `def`

abbrev made_def : ℕ → List ℕ → Parameters → Block Statement → Statement
made_def at name given body = tree.Def at (record { name = name; required = given.0; defaults = given.1; comma = given.2; body = body })

-- what stands after `def name(`
abbrev AfterOpen : ℕ → List ℕ → Statement → Input → Type 0
AfterOpen at name = Then IsParameters (λ given. ColonBlock (made_def at name given))

-- what stands after `def name`
abbrev AfterName : ℕ → List ℕ → Statement → Input → Type 0
AfterName at name = Then (Tok (t.Mark m.OpenRound)) (λ _. AfterOpen at name)

-- what stands after `def` on this line
abbrev DefRest : ℕ → Statement → Input → Type 0
DefRest at = Then NameToken (AfterName at)

-- `def` with its line, and what follows it
abbrev pub IsDef : Statement → Input → Type 0
IsDef = Then (TokAt (t.Word w.Def)) DefRest

-- the tokens in the brackets, and the closing one
abbrev given_spelling : Parameters → Tokens
given_spelling given = parameters_spelling given.0 given.1 ++ (if_written given.2 m.Comma ++ t.Mark m.CloseRound ∷ [])

-- and the colon
abbrev given_rest : Parameters → Tokens
given_rest given = parameters_spelling given.0 given.1 ++ (if_written given.2 m.Comma ++ t.Mark m.CloseRound ∷ t.Mark m.Colon ∷ [])

rest_joined : (a b : Tokens) → (a ++ (b ++ t.Mark m.CloseRound ∷ [])) ++ t.Mark m.Colon ∷ [] ≡ a ++ (b ++ t.Mark m.CloseRound ∷ t.Mark m.Colon ∷ [])
rest_joined a b = simp append_assoc

given_joined : (given : Parameters) → given_spelling given ++ t.Mark m.Colon ∷ [] ≡ given_rest given
given_joined given = rest_joined (parameters_spelling given.0 given.1) (if_written given.2 m.Comma)

pub def_there : (x : Statement) (c : Input) → IsDef x c → IsSpelled x c
def_there x c (at, c1, c2, (s, is, at_is, one), (name, c3, c4, (s2, is2, one2), (u, c5, c6, (s3, is3, one3), (given, c7, c8, r, last, split4), split3), split2), split) =
    let (body, b, x_is) = colon_there (made_def at name given) x c8 last in
    let def : Definition Statement = record { name = name; required = given.0; defaults = given.1; comma = given.2; body = body } in
    let m6 : Matches c6 (plain (given_rest given) ++ body_claims body) = subst (λ v. Matches c6 (plain v ++ body_claims body)) (given_joined given)
    (fronted c6 c7 c8 (given_spelling given) (t.Mark m.Colon ∷ []) (body_claims body) split4 r.spelt b.spelt) in
    let m4 : Matches c4 (plain (t.Mark m.OpenRound ∷ given_rest given) ++ body_claims body) = matched_token c4 c5 c6 (t.Mark m.OpenRound) s3 (plain (given_rest given) ++ body_claims body) split3 one3 is3 m6 in
    let m2 : Matches c2 (plain (t.Name name ∷ t.Mark m.OpenRound ∷ given_rest given) ++ body_claims body) =
    matched_token c2 c3 c4 (t.Name name) s2 (plain (t.Mark m.OpenRound ∷ given_rest given) ++ body_claims body) split2 one2 is2 m4 in
    of_node (Statement-F.Def at def) x c (tree.rolls-Def at def ∙ sym x_is) (r.levelled, r.comma_fits, b.fits) b.each
    (subst (λ v. Matches v (parts_claims (Statement-F.Def at def))) (sym (split ∙ ap (λ v. v ++ c2) one)) (is, at_is, m2))

def_by : (x : Statement) (c more : Input) (d : Statement-F Statement) → roll-Statement d ≡ x → StatementFits d → EachPart IsStatement d → Matches c (parts_claims d)
    → next (c ++ more) ≡ Some (t.Word w.Def) → IsDef x c
def_by x c more (Statement-F.Line l) is fits each spelt look =
    let (s, c', split, opens) = line_first l c fits spelt in
    absurd (opens.no_def (let a : Some s.token ≡ Some (t.Word w.Def) = ap (λ v. next (v ++ more)) (sym split) ∙ look in cc))
def_by x c more (Statement-F.If at first others other) is fits each spelt look =
    absurd (let a : Some (t.Word w.If) ≡ Some (t.Word w.Def) = sym (header_next c more at (t.Word w.If) _ spelt) ∙ look in cc)
def_by x c more (Statement-F.For at targets over body) is fits each spelt look =
    absurd (let a : Some (t.Word w.For) ≡ Some (t.Word w.Def) = sym (header_next c more at (t.Word w.For) _ spelt) ∙ look in cc)
def_by x c more (Statement-F.Def at def) is fits each spelt look =
    let given : Parameters = (def.required, def.defaults, def.comma) in
    let (s, c2, split, s_is, at_is, m2) = matched_line c at (t.Word w.Def) (plain (t.Name def.name ∷ t.Mark m.OpenRound ∷ given_rest given) ++ body_claims def.body) spelt in
    let (s2, c4, split2, is2, m4) = matched_cons c2 (t.Name def.name) (plain (t.Mark m.OpenRound ∷ given_rest given) ++ body_claims def.body) m2 in
    let (s3, c6, split3, is3, m6) = matched_cons c4 (t.Mark m.OpenRound) (plain (given_rest given) ++ body_claims def.body) m4 in
    let (c7, c8, split4, is7, m8) = front_split c6 (given_spelling given) (t.Mark m.Colon ∷ []) (body_claims def.body)
    (subst (λ v. Matches c6 (plain v ++ body_claims def.body)) (sym (given_joined given)) m6) in (
      at,
      s ∷ [],
      c2,
      (s, s_is, at_is, refl),
      (
        def.name,
        s2 ∷ [],
        c4,
        (s2, is2, refl),
        (
          tt,
          s3 ∷ [],
          c6,
          (s3, is3, refl),
          (
            given,
            c7,
            c8,
            record { comma_fits = fits.1; levelled = fits.0; spelt = is7 },
            colon_back (made_def at def.name given) x c8 def.body (record { fits = fits.2; each = each; spelt = m8 }) (sym is ∙ tree.rolls-Def at def),
            split4,
          ),
          split3,
        ),
        split2,
      ),
      split,
    )

pub def_back : (x : Statement) (c more : Input) → IsSpelled x c → next (c ++ more) ≡ Some (t.Word w.Def) → IsDef x c
def_back x c more h look = let n = node_of x c h in def_by x c more n.layer n.whole n.fits n.each n.spelt look

some_after_open : (at : ℕ) (name : List ℕ) → (x : Statement) × (c : Input) × AfterOpen at name x c
some_after_open at name = let (given, c, r) = some_given in let (x, d, q) = some_colon (made_def at name given) in (x, c ++ d, (given, c, d, r, q, refl))

some_after_name : (at : ℕ) (name : List ℕ) → (x : Statement) × (c : Input) × AfterName at name x c
some_after_name at name =
    let (x, c, r) = some_after_open at name in let s = some_token (t.Mark m.OpenRound) in (x, s ∷ c, (tt, s ∷ [], c, (s, refl, refl), r, refl))

some_def : (at : ℕ) → (x : Statement) × (c : Input) × DefRest at x c
some_def at = let s = some_token (t.Name []) in let (x, c, r) = some_after_name at [] in (x, s ∷ c, ([], s ∷ [], c, (s, refl, refl), r, refl))

-- ---- the readers

module _ (expr : Level → Reader Expr) (statement : Reader Statement) (bound : ℕ) (inside : Inside expr bound)
    (lines : (ts : Input) → length ts < bound → Exact IsLine Any ts (line expr ts))
    (exact : (ts : Input) → length ts < bound → Exact IsSpelled EndsStatement ts (statement ts)) where
  -- a header's colon and block, where what follows is a statement's end
  block_after : (make : Block Statement → Statement) (ts : Input) → length ts < bound
      → Exact (ColonBlock make) EndsStatement ts ((expect m.Colon >>= λ _. block expr statement >>= λ body. pure (make body)) ts)
  block_after make ts few = exact_ends (ColonBlock make) Any EndsStatement (λ _ _. tt) ts _ (colon_exact expr statement bound lines exact make ts few)

  for_rest_exact : (at : ℕ) (ts : Input) → length ts < bound → Exact (ForRest at) EndsStatement ts (for_after expr statement at ts)
  unfolding for_after Ends
  for_rest_exact at ts few =
      exact_then (SpelledTargets []) (AfterTargets at) EndsTargets EndsStatement
      (λ targets x c1 c2 more _ rule _. let here = token_next (t.Word w.In) (AfterIn at targets) x c2 more rule in
      record {
        level = (let a : reach (next (c2 ++ more)) ≡ 5 = ap reach here in omega arith);
        no_comma = λ e. (let a : Some (t.Word w.In) ≡ Some (t.Mark m.Comma) = sym here ∙ e in cc);
      })
      (λ targets c r. some_after_targets at targets)
      ts (targets_from expr (length ts) [] ts)
      (λ targets. expect_word w.In >>= λ _. tests expr >>= λ over. expect m.Colon >>= λ _. block expr statement >>= λ body. pure (made_for at targets over body))
      (targets_exact expr bound (inside level.Primary) (length ts) [] ts (omega arith) few)
      (λ targets left taken split r. let a = length_after ts taken left split in
      exact_word_then (AfterIn at targets) EndsStatement (some_after_in at targets) left
      (tests expr >>= λ over. expect m.Colon >>= λ _. block expr statement >>= λ body. pure (made_for at targets over body))
      (λ left2 less. exact_then IsTests (λ over. ColonBlock (made_for at targets over)) EndsTests EndsStatement
      (λ over x c1 c2 more _ rule _. let here = token_next (t.Mark m.Colon) (Then IsBlock (λ body. Just (made_for at targets over body))) x c2 more rule in
      record {
        level = (let b : reach (next (c2 ++ more)) ≡ 0 = ap reach here in omega arith);
        no_comma = λ e. (let b : Some (t.Mark m.Colon) ≡ Some (t.Mark m.Comma) = sym here ∙ e in cc);
      })
      (λ over c r2. some_colon (made_for at targets over))
      left2 (tests expr left2) (λ over. expect m.Colon >>= λ _. block expr statement >>= λ body. pure (made_for at targets over body))
      (tests_exact expr bound inside left2 (omega arith))
      (λ over left3 taken3 split3 r3. let b = length_after left2 taken3 left3 split3 in block_after (made_for at targets over) left3 (omega arith))) w.In)

  pub for_exact : (ts : Input) → length ts ≤ bound → next ts ≡ Some (t.Word w.For) → Exact IsFor EndsStatement ts (for_after expr statement (first_line ts) (rest ts))
  for_exact ts few here =
      exact_then (TokAt (t.Word w.For)) ForRest Any EndsStatement (λ _ _ _ _ _ _ _ _. tt) (λ at c r. some_for at)
      ts (Ok (first_line ts, rest ts)) (for_after expr statement) (exact_tok_at (t.Word w.For) Any ts here)
      (λ at left taken split (s, is, at_is, one). for_rest_exact at left (let a = length_less ts taken left split (λ none. let b : [] ≡ s ∷ [] = sym none ∙ one in cc) in omega arith))

  def_rest_exact : (at : ℕ) (ts : Input) → length ts < bound → Exact (DefRest at) EndsStatement ts (def_after expr statement at ts)
  unfolding def_after
  def_rest_exact at ts few =
      exact_name_then (AfterName at) EndsStatement (some_after_name at) ts
      (λ name. expect m.OpenRound >>= λ _. parameters expr >>= λ given. expect m.Colon >>= λ _. block expr statement >>= λ body. pure (made_def at name given body))
      (λ name left less. exact_expected_then (AfterOpen at name) EndsStatement (some_after_open at name) left
      (parameters expr >>= λ given. expect m.Colon >>= λ _. block expr statement >>= λ body. pure (made_def at name given body))
      (λ left2 less2. exact_then IsParameters (λ given. ColonBlock (made_def at name given)) Any EndsStatement (λ _ _ _ _ _ _ _ _. tt)
      (λ given c r. some_colon (made_def at name given))
      left2 (parameters expr left2) (λ given. expect m.Colon >>= λ _. block expr statement >>= λ body. pure (made_def at name given body))
      (parameters_exact expr bound inside left2 (omega arith))
      (λ given left3 taken split r. let a = length_after left2 taken left3 split in block_after (made_def at name given) left3 (omega arith))) m.OpenRound)

  pub def_exact : (ts : Input) → length ts ≤ bound → next ts ≡ Some (t.Word w.Def) → Exact IsDef EndsStatement ts (def_after expr statement (first_line ts) (rest ts))
  def_exact ts few here =
      exact_then (TokAt (t.Word w.Def)) DefRest Any EndsStatement (λ _ _ _ _ _ _ _ _. tt) (λ at c r. some_def at)
      ts (Ok (first_line ts, rest ts)) (def_after expr statement) (exact_tok_at (t.Word w.Def) Any ts here)
      (λ at left taken split (s, is, at_is, one). def_rest_exact at left (let a = length_less ts taken left split (λ none. let b : [] ≡ s ∷ [] = sym none ∙ one in cc) in omega arith))
