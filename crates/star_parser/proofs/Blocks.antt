-- A block is read exactly, where lines and the statements in it are.
use Rattle.std.proofs.Common.{◌≡◌, ◌≢◌, ◌∙◌, ◌⊎◌, inl, inr, ℕ, zero, suc, ◌≤◌, ◌<◌, List, [], ◌∷◌, ◌++◌, Some, None, refl, sym, ap, subst, arith, append_assoc, length}
use Rattle.std.proofs.lemmas.List.{append-nil}
use Rattle.std.specs.Prelude.{if◌then◌else◌}
use Rattle.std.specs.List.{flat_map, AllByRecursion}
use Rattle.star_syntax.specs.declared.token.Token.{Token}
use Rattle.star_syntax.specs.declared.token.Token.TheVariants as t
use Rattle.star_syntax.specs.declared.token.Keyword.TheVariants as w
use Rattle.star_syntax.specs.declared.expression.Expr.{Expr}
use Rattle.star_syntax.specs.declared.statement.Block.{Block}
use Rattle.star_syntax.specs.declared.statement.Block.TheVariants.{Inline, Indented}
use Rattle.star_syntax.specs.declared.statement.Statement.{Statement, roll-Statement}
use Rattle.star_syntax.specs.declared.statement.Statement.TheOpen.{Statement-F}
use Rattle.star_syntax.specs.Levels.{BlockFits, IsStatement}
use Rattle.star_parser.specs.declared.level.Level.{Level}
use Rattle.star_parser.specs.Reading.{Input, Reader, and_then, ◌>>=◌, pure, next}
use Rattle.star_parser.specs.StatementTables.{is_newline, is_indent, is_dedent, expect_indent, eat_dedent}
use Rattle.star_parser.specs.StatementReaders.{line, statements_from, block}
use Rattle.star_parser.proofs.Claims.{Claims, free, plain, statement_claims, Matches}
use Rattle.star_parser.proofs.Exact.{Exact, Then, Just, exact_refuse, exact_then, exact_by, exact_same}
use Rattle.star_parser.proofs.Steps.{Tok, some_token, exact_token_then, exact_last, token_next}
use Rattle.star_parser.proofs.Rules.{length_less}
use Rattle.star_parser.proofs.First.{last_there, last_back}
use Rattle.star_parser.proofs.Bracketed.{Any}
use Rattle.star_parser.proofs.LayoutSteps.{Closed, closed_there, closed_back, closed_exact, some_closed, newline_is, indent_is, dedent_is, exact_eat_by, exact_expect_by_then}
use Rattle.star_parser.proofs.LineMatches.{matches_split, matches_plain, plain_matches}
use Rattle.star_parser.proofs.LineRules.{IsLine, some_line}
use Rattle.star_parser.proofs.StatementParts.{EachBlock, statement_made}
use Rattle.star_parser.proofs.ClaimLemmas.{body_claims, claims_of_parts, matched_joined, matched_cons}
use Rattle.star_parser.proofs.Openings.{Opens, line_first, statement_first}

-- the tokens are those of the statement, on its lines
pub record IsSpelled (x : Statement) (c : Input) : Type 0 where
  pub levelled : IsStatement x
  pub spelt : Matches c (statement_claims x)

-- the tokens don't go on with a statement
pub record EndsStatement (more : Input) : Type 0 where
  pub no_elif : next more ≢ Some (t.Word w.Elif)
  pub no_else : next more ≢ Some (t.Word w.Else)

-- some statement, as it is spelled
pub some_spelled : (x : Statement) × (c : Input) × IsSpelled x c
some_spelled =
    let (x, c, r) = some_line in (
      roll-Statement (Statement-F.Line x),
      c,
      record { levelled = statement_made (Statement-F.Line x) r.0 tt; spelt = subst (Matches c) (sym (claims_of_parts (Statement-F.Line x))) r.1 },
    )

-- ---- the statements of a block

-- what was found, and after it statements up to Dedent, at least one
pub record AreStatements (found all : List Statement) (c : Input) : Type 0 where
  pub first : Statement
  pub others : List Statement
  pub whole : all ≡ found ++ first ∷ others
  pub levelled : AllByRecursion IsStatement (first ∷ others)
  pub spelt : Matches c (flat_map statement_claims (first ∷ others) ++ plain (t.Dedent ∷ []))

-- Dedent, or more statements and Dedent
abbrev DedentOr : List Statement → List Statement → Input → Type 0
DedentOr found all c = Closed t.Dedent found all c ⊎ AreStatements found all c

-- a statement, and what follows it in a block
abbrev OneAndMore : List Statement → List Statement → Input → Type 0
OneAndMore found = Then IsSpelled (λ x. DedentOr (found ++ x ∷ []))

statements_there : (found all : List Statement) (c : Input) → OneAndMore found all c → AreStatements found all c
statements_there found all c (x, c1, c2, r, inl closed, split) =
    let (is, k) = closed_there t.Dedent (found ++ x ∷ []) all c2 closed in
    record {
      first = x;
      others = [];
      whole = is;
      levelled = (r.levelled, tt);
      spelt = matched_joined c c1 c2 (statement_claims x ++ []) (plain (t.Dedent ∷ [])) split (subst (Matches c1) (sym (append-nil (statement_claims x))) r.spelt) (matches_plain c2 (t.Dedent ∷ []) k);
    }
statements_there found all c (x, c1, c2, r, inr more, split) = record {
  first = x;
  others = more.first ∷ more.others;
  whole = more.whole ∙ append_assoc found (x ∷ []) (more.first ∷ more.others);
  levelled = (r.levelled, more.levelled);
  spelt = subst (Matches c) (sym (append_assoc (statement_claims x) (flat_map statement_claims (more.first ∷ more.others)) (plain (t.Dedent ∷ []))))
      (matched_joined c c1 c2 (statement_claims x) (flat_map statement_claims (more.first ∷ more.others) ++ plain (t.Dedent ∷ [])) split r.spelt more.spelt);
}

statements_by : (found all : List Statement) (c : Input) (x : Statement) (others : List Statement) → all ≡ found ++ x ∷ others → AllByRecursion IsStatement (x ∷ others)
    → Matches c (flat_map statement_claims (x ∷ others) ++ plain (t.Dedent ∷ [])) → OneAndMore found all c
statements_by found all c x [] is levelled spelt =
    let (c1, c2, split, is1, is2) = matches_split c (statement_claims x) (plain (t.Dedent ∷ [])) (subst (λ v. Matches c (v ++ plain (t.Dedent ∷ []))) (append-nil (statement_claims x)) spelt) in
    (x, c1, c2, record { levelled = levelled.0; spelt = is1 }, inl (closed_back t.Dedent (found ++ x ∷ []) all c2 is (plain_matches c2 (t.Dedent ∷ []) is2)), split)
statements_by found all c x (y ∷ ys) is levelled spelt =
    let rest : Claims = flat_map statement_claims (y ∷ ys) ++ plain (t.Dedent ∷ []) in
    let (c1, c2, split, is1, is2) = matches_split c (statement_claims x) rest
    (subst (Matches c) (append_assoc (statement_claims x) (flat_map statement_claims (y ∷ ys)) (plain (t.Dedent ∷ []))) spelt) in (
      x,
      c1,
      c2,
      record { levelled = levelled.0; spelt = is1 },
      inr (record { first = y; others = ys; whole = is ∙ sym (append_assoc found (x ∷ []) (y ∷ ys)); levelled = levelled.1; spelt = is2 }),
      split,
    )

statements_back : (found all : List Statement) (c : Input) → AreStatements found all c → OneAndMore found all c
statements_back found all c h = statements_by found all c h.first h.others h.whole h.levelled h.spelt

-- a statement has a first token, with which a line may begin
pub spelled_some : (x : Statement) (c : Input) → IsSpelled x c → c ≢ []
spelled_some x c h none = let (s, c', split, opens) = statement_first x c h.levelled h.spelt in let a : [] ≡ s ∷ c' = sym none ∙ split in cc

pub spelled_first : (x : Statement) (c more : Input) → IsSpelled x c → (k : Token) × (next (c ++ more) ≡ Some k) × Opens k
spelled_first x c more h = let (s, c', split, opens) = statement_first x c h.levelled h.spelt in (s.token, ap (λ v. next (v ++ more)) split, opens)

pub statements_first : (found all : List Statement) (c more : Input) → AreStatements found all c → (k : Token) × (next (c ++ more) ≡ Some k) × Opens k
statements_first found all c more h =
    let (x, c1, c2, r, tail, split) = statements_back found all c h in
    let (k, is, opens) = spelled_first x c1 (c2 ++ more) r in
    (k, ap next (ap (λ v. v ++ more) split ∙ append_assoc c1 c2 more) ∙ is, opens)

some_statements : (found : List Statement) → (all : List Statement) × (c : Input) × AreStatements found all c
some_statements found =
    let (x, c, r) = some_spelled in
    let (y, d, q) = some_closed t.Dedent (found ++ x ∷ []) in
    (y, c ++ d, statements_there found y (c ++ d) (x, c, d, r, inl q, refl))

-- what a statement begins with does not go on with the one before it
pub opening_ends : (more : Input) (k : Token) → next more ≡ Some k → Opens k → EndsStatement more
opening_ends more k is opens = record {
  no_elif = λ e. opens.no_elif (let a : Some k ≡ Some (t.Word w.Elif) = sym is ∙ e in cc);
  no_else = λ e. opens.no_else (let a : Some k ≡ Some (t.Word w.Else) = sym is ∙ e in cc);
}

dedent_ends : (found all : List Statement) (c more : Input) → DedentOr found all c → EndsStatement (c ++ more)
dedent_ends found all c more (inl closed) =
    let is = token_next t.Dedent (Just found) all c more closed in
    record {
      no_elif = λ e. (let a : Some t.Dedent ≡ Some (t.Word w.Elif) = sym is ∙ e in cc);
      no_else = λ e. (let a : Some t.Dedent ≡ Some (t.Word w.Else) = sym is ∙ e in cc);
    }
dedent_ends found all c more (inr later) = let (k, is, opens) = statements_first found all c more later in opening_ends (c ++ more) k is opens

module _ (expr : Level → Reader Expr) (statement : Reader Statement) (bound : ℕ) (exact : (ts : Input) → length ts < bound → Exact IsSpelled EndsStatement ts (statement ts)) where
  -- after a statement
  dedent_exact : (found : List Statement) (p : Reader (List Statement)) (ts : Input) → Exact (AreStatements found) Any ts (p ts)
      → Exact (DedentOr found) Any ts (and_then (eat_dedent ts) (λ ended. if ended then pure found else p))
  dedent_exact found p ts later =
      exact_eat_by (DedentOr found) Any (pure found) p ts is_dedent t.Dedent dedent_is refl
      (λ here. exact_by (Closed t.Dedent found) (DedentOr found) Any ts (λ all c j. inl j)
      (λ all c more rule _ look. elim rule [
        | inl j ↦ j
        | inr items ↦ (let (k, is, opens) = statements_first found all c more items in absurd (opens.no_dedent (let a : Some k ≡ Some t.Dedent = sym is ∙ look ∙ here in cc)))
      ])
      _ (closed_exact t.Dedent found ts here))
      (λ other. exact_by (AreStatements found) (DedentOr found) Any ts (λ all c j. inr j)
      (λ all c more rule _ look. elim rule [ inl j ↦ absurd (other (sym look ∙ token_next t.Dedent (Just found) all c more j)) | inr items ↦ items ])
      _ later)

  pub statements_exact : (n : ℕ) (found : List Statement) (ts : Input) → length ts ≤ n → length ts < bound → Exact (AreStatements found) Any ts (statements_from expr statement n found ts)
  unfolding statements_from
  statements_exact zero found [] few small = exact_refuse (AreStatements found) Any [] (some_statements found)
      (λ all c more h _ look. let (k, is, opens) = statements_first found all c more h in absurd (let a : Some k ≡ None = sym is ∙ look in cc))
  statements_exact zero found (s ∷ ts) few small = absurd (omega arith)
  statements_exact (suc n) found ts few small =
      exact_same (OneAndMore found) (AreStatements found) Any (statements_there found) (statements_back found) ts _
      (exact_then IsSpelled (λ x. DedentOr (found ++ x ∷ [])) EndsStatement Any
      (λ x all c1 c2 more _ tail _. dedent_ends (found ++ x ∷ []) all c2 more tail)
      (λ x c r. let (y, d, q) = some_closed t.Dedent (found ++ x ∷ []) in (y, d, inl q))
      ts (statement ts) (λ x. eat_dedent >>= λ ended. if ended then pure (found ++ x ∷ []) else statements_from expr statement n (found ++ x ∷ []))
      (exact ts small)
      (λ x left taken split r. let less = length_less ts taken left split (spelled_some x taken r) in
      dedent_exact (found ++ x ∷ []) (statements_from expr statement n (found ++ x ∷ [])) left (statements_exact n (found ++ x ∷ []) left (omega arith) (omega arith))))

-- ---- blocks

-- the tokens are those of the block, on its lines
pub record IsBlock (body : Block Statement) (c : Input) : Type 0 where
  pub fits : BlockFits body
  pub each : EachBlock IsStatement body
  pub spelt : Matches c (body_claims body)

-- Indent, and the statements up to Dedent
abbrev InnerLines : Block Statement → Input → Type 0
InnerLines = Then (Tok t.Indent) (λ _. Then (AreStatements []) (λ found. Just (Indented found)))

-- a block on lines of its own
abbrev IsIndented : Block Statement → Input → Type 0
IsIndented = Then (Tok t.Newline) (λ _. InnerLines)

-- a block on the line of its header
abbrev IsInline : Block Statement → Input → Type 0
IsInline = Then IsLine (λ x. Just (Inline x))

indented_there : (body : Block Statement) (c : Input) → IsIndented body c → IsBlock body c
indented_there body c (u, c1, c2, (s, is, one), (u', c3, c4, (s2, is2, one2), last, split2), split) =
    let (found, r, body_is) = last_there (AreStatements []) (λ found. let p : Block Statement = Indented found in p) body c4 last in
    let all : c ≡ s ∷ s2 ∷ c4 = split ∙ ap (λ v. v ++ c2) one ∙ ap (λ v. s ∷ v) (split2 ∙ ap (λ v. v ++ c4) one2) in
    let whole : IsBlock (Indented (r.first ∷ r.others)) c = record {
      fits = λ none. cc;
      each = r.levelled;
      spelt = subst (λ v. Matches v (body_claims (Indented (r.first ∷ r.others)))) (sym all) (is, tt, (is2, tt, r.spelt));
    } in
    subst (λ v. IsBlock v c) (sym (body_is ∙ ap (λ v. let p : Block Statement = Indented v in p) r.whole)) whole

inline_there : (body : Block Statement) (c : Input) → IsInline body c → IsBlock body c
inline_there body c h =
    let (x, r, body_is) = last_there IsLine (λ x. let p : Block Statement = Inline x in p) body c h in
    let whole : IsBlock (Inline x) c = record { fits = r.0; each = tt; spelt = r.1 } in
    subst (λ v. IsBlock v c) (sym body_is) whole

indented_back : (body : Block Statement) (c more : Input) → IsBlock body c → next (c ++ more) ≡ Some t.Newline → IsIndented body c
indented_back (Inline x) c more h look =
    let (s, c', split, opens) = line_first x c h.fits h.spelt in
    absurd (opens.opens.no_newline (let a : Some s.token ≡ Some t.Newline = ap (λ v. next (v ++ more)) (sym split) ∙ look in cc))
indented_back (Indented []) c more h look = absurd (h.fits refl)
indented_back (Indented (x ∷ xs)) c more h look =
    let rest : Claims = flat_map statement_claims (x ∷ xs) ++ plain (t.Dedent ∷ []) in
    let (s, c2, split, is, m1) = matched_cons c t.Newline (free t.Indent ∷ rest) h.spelt in
    let (s2, c4, split2, is2, m2) = matched_cons c2 t.Indent rest m1 in (
      tt,
      s ∷ [],
      c2,
      (s, is, refl),
      (
        tt,
        s2 ∷ [],
        c4,
        (s2, is2, refl),
        last_back (AreStatements []) (λ found. let p : Block Statement = Indented found in p) (Indented (x ∷ xs)) c4 (x ∷ xs)
            (record { first = x; others = xs; whole = refl; levelled = h.each; spelt = m2 }) refl,
        split2,
      ),
      split,
    )

inline_back : (body : Block Statement) (c more : Input) → IsBlock body c → next (c ++ more) ≢ Some t.Newline → IsInline body c
inline_back (Inline x) c more h look = last_back IsLine (λ x. let p : Block Statement = Inline x in p) (Inline x) c x (h.fits, h.spelt) refl
inline_back (Indented xs) c more h look =
    let (s, c2, split, is, m1) = matched_cons c t.Newline (free t.Indent ∷ (flat_map statement_claims xs ++ plain (t.Dedent ∷ []))) h.spelt in
    absurd (look (ap (λ v. next (v ++ more)) split ∙ ap Some is))

some_inner : (body : Block Statement) × (c : Input) × InnerLines body c
some_inner =
    let (found, c, r) = some_statements [] in
    let s = some_token t.Indent in
    (Indented found, s ∷ c, (tt, s ∷ [], c, (s, refl, refl), last_back (AreStatements []) (λ found. let p : Block Statement = Indented found in p) (Indented found) c found r refl, refl))

pub some_block : (body : Block Statement) × (c : Input) × IsBlock body c
some_block = let (x, c, r) = some_line in (Inline x, c, record { fits = r.0; each = tt; spelt = r.1 })

module _ (expr : Level → Reader Expr) (statement : Reader Statement) (bound : ℕ)
    (lines : (ts : Input) → length ts < bound → Exact IsLine Any ts (line expr ts))
    (exact : (ts : Input) → length ts < bound → Exact IsSpelled EndsStatement ts (statement ts)) where
  pub block_exact : (ts : Input) → length ts < bound → Exact IsBlock Any ts (block expr statement ts)
  unfolding block
  block_exact ts few =
      exact_eat_by IsBlock Any (expect_indent >>= λ _. (λ ts. statements_from expr statement (length ts) [] ts) >>= λ found. pure (Indented found)) (line expr >>= λ x. pure (Inline x))
      ts is_newline t.Newline newline_is refl
      (λ here. exact_by IsIndented IsBlock Any ts indented_there (λ body c more h _ look. indented_back body c more h (look ∙ here))
      _ (exact_token_then t.Newline InnerLines Any some_inner ts (expect_indent >>= λ _. (λ ts. statements_from expr statement (length ts) [] ts) >>= λ found. pure (Indented found))
      (λ left less. exact_expect_by_then (Then (AreStatements []) (λ found. Just (Indented found))) Any
      (let (found, c, r) = some_statements [] in (Indented found, c, last_back (AreStatements []) (λ found. let p : Block Statement = Indented found in p) (Indented found) c found r refl))
      left ((λ ts. statements_from expr statement (length ts) [] ts) >>= λ found. pure (Indented found))
      (λ left2 less2. exact_last (AreStatements []) Any Any (λ more ends. ends) (λ found. let p : Block Statement = Indented found in p) left2 (statements_from expr statement (length left2) [] left2)
      (statements_exact expr statement bound exact (length left2) [] left2 (omega arith) (omega arith)))
      is_indent t.Indent indent_is refl) here))
      (λ other. exact_by IsInline IsBlock Any ts inline_there (λ body c more h _ look. inline_back body c more h (λ e. other (sym look ∙ e)))
      _ (exact_last IsLine Any Any (λ more ends. ends) (λ x. let p : Block Statement = Inline x in p) ts (line expr ts) (lines ts few)))
