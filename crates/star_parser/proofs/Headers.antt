-- Headers of statements: their first token with its line, and the colon and the block at their end.
use Rattle.std.proofs.Common.{◌≡◌, ◌∙◌, ℕ, ◌<◌, [], ◌∷◌, ◌++◌, Some, Ok, refl, sym, ap, subst, arith, append_assoc, length}
use Rattle.std.proofs.lemmas.List.{map-append}
use Rattle.star_syntax.specs.declared.token.Token.{Token}
use Rattle.star_syntax.specs.declared.token.Token.TheVariants as t
use Rattle.star_syntax.specs.declared.token.Mark.TheVariants as m
use Rattle.star_syntax.specs.declared.token.Spanned.{Spanned}
use Rattle.star_syntax.specs.declared.expression.Expr.{Expr}
use Rattle.star_syntax.specs.declared.statement.Block.{Block}
use Rattle.star_syntax.specs.declared.statement.Statement.{Statement, out-Statement, roll-Statement, roll-out-Statement}
use Rattle.star_syntax.specs.declared.statement.Statement.TheOpen.{Statement-F}
use Rattle.star_syntax.specs.Spelling.{Tokens}
use Rattle.star_syntax.specs.Levels.{BlockFits, StatementFits, IsStatement}
use Rattle.star_parser.specs.declared.level.Level.{Level}
use Rattle.star_parser.specs.Reading.{Input, Reader, ◌>>=◌, pure, next, rest, kinds}
use Rattle.star_parser.specs.Tables.{expect}
use Rattle.star_parser.specs.StatementTables.{first_line}
use Rattle.star_parser.specs.StatementReaders.{line, block}
use Rattle.star_parser.proofs.Claims.{Claims, free, plain, statement_claims, Matches}
use Rattle.star_parser.proofs.Exact.{Exact, Then, Just}
use Rattle.star_parser.proofs.Steps.{Tok, some_token, exact_expected_then, exact_last}
use Rattle.star_parser.proofs.First.{last_there, last_back}
use Rattle.star_parser.proofs.Bracketed.{Any}
use Rattle.star_parser.proofs.LineMatches.{matches_split, matches_plain, plain_matches}
use Rattle.star_parser.proofs.LineRules.{IsLine}
use Rattle.star_parser.proofs.StatementParts.{EachBlock, EachPart, statement_parts, statement_made}
use Rattle.star_parser.proofs.ClaimLemmas.{body_claims, parts_claims, claims_of_parts, matched_joined, matched_cons}
use Rattle.star_parser.proofs.Blocks.{IsSpelled, EndsStatement, IsBlock, some_block, block_exact}

-- ---- tokens without lines before others

plain_joined : (y x : Tokens) (k : Claims) → plain (y ++ x) ++ k ≡ plain y ++ (plain x ++ k)
plain_joined y x k = ap (λ v. v ++ k) (map-append free y x) ∙ append_assoc (plain y) (plain x) k

pub fronted : (c a b : Input) (y x : Tokens) (k : Claims) → c ≡ a ++ b → kinds a ≡ y → Matches b (plain x ++ k) → Matches c (plain (y ++ x) ++ k)
fronted c a b y x k split is h = subst (Matches c) (sym (plain_joined y x k)) (matched_joined c a b (plain y) (plain x ++ k) split (matches_plain a y is) h)

pub front_split : (c : Input) (y x : Tokens) (k : Claims) → Matches c (plain (y ++ x) ++ k) → (a : Input) × (b : Input) × (c ≡ a ++ b) × (kinds a ≡ y) × Matches b (plain x ++ k)
front_split c y x k h =
    let (a, b, split, m1, m2) = matches_split c (plain y) (plain x ++ k) (subst (Matches c) (plain_joined y x k) h) in
    (a, b, split, plain_matches a y m1, m2)

pub matched_token : (c c1 c2 : Input) (k : Token) (s : Spanned) (x : Claims) → c ≡ c1 ++ c2 → c1 ≡ s ∷ [] → s.token ≡ k → Matches c2 x → Matches c (free k ∷ x)
matched_token c c1 c2 k s x split one is h = subst (λ v. Matches v (free k ∷ x)) (sym (split ∙ ap (λ v. v ++ c2) one)) (is, tt, h)

-- ---- a token and its line

-- one token of this kind, on this line
abbrev pub TokAt : Token → ℕ → Input → Type 0
TokAt k at c = (s : Spanned) × (s.token ≡ k) × (at ≡ s.line) × (c ≡ s ∷ [])

pub exact_tok_at : (k : Token) (Ends : Input → Type 0) (ts : Input) → next ts ≡ Some k → Exact (TokAt k) Ends ts (Ok (first_line ts, rest ts))
unfolding Exact
exact_tok_at k Ends [] h = absurd cc
exact_tok_at k Ends (s ∷ ts) h = record {
  taken = s ∷ [];
  whole = refl;
  spelt = (s, cc, refl, refl);
  only = λ at c more w (s', is, at_is, e) ends same look.
      let same' : s' ∷ more ≡ s ∷ w = ap (λ x. x ++ more) (sym e) ∙ same in
      let one : s' ≡ s = cc in
      (at_is ∙ ap (λ v. v.line) one, e ∙ ap (λ v. v ∷ []) one);
}

-- ---- a colon and a block

abbrev pub ColonBlock : {T : Type 0} → (Block Statement → T) → T → Input → Type 0
ColonBlock make = Then (Tok (t.Mark m.Colon)) (λ _. Then IsBlock (λ body. Just (make body)))

-- a block whose tokens follow a colon
pub record IsColoned (body : Block Statement) (c : Input) : Type 0 where
  pub fits : BlockFits body
  pub each : EachBlock IsStatement body
  pub spelt : Matches c (free (t.Mark m.Colon) ∷ body_claims body)

pub colon_there : {T : Type 0} (make : Block Statement → T) (x : T) (c : Input) → ColonBlock make x c → (body : Block Statement) × IsColoned body c × (x ≡ make body)
colon_there make x c (u, c1, c2, (s, is, one), last, split) =
    let (body, b, x_is) = last_there IsBlock make x c2 last in
    (body, record { fits = b.fits; each = b.each; spelt = matched_token c c1 c2 (t.Mark m.Colon) s (body_claims body) split one is b.spelt }, x_is)

pub colon_back : {T : Type 0} (make : Block Statement → T) (x : T) (c : Input) (body : Block Statement) → IsColoned body c → x ≡ make body → ColonBlock make x c
colon_back make x c body h x_is =
    let (s, c2, split, is, found) = matched_cons c (t.Mark m.Colon) (body_claims body) h.spelt in
    (tt, s ∷ [], c2, (s, is, refl), last_back IsBlock make x c2 body (record { fits = h.fits; each = h.each; spelt = found }) x_is, split)

pub some_colon : {T : Type 0} (make : Block Statement → T) → (x : T) × (c : Input) × ColonBlock make x c
some_colon make =
    let (body, c, r) = some_block in
    let s = some_token (t.Mark m.Colon) in
    (make body, s ∷ c, (tt, s ∷ [], c, (s, refl, refl), last_back IsBlock make (make body) c body r refl, refl))

module _ (expr : Level → Reader Expr) (statement : Reader Statement) (bound : ℕ)
    (lines : (ts : Input) → length ts < bound → Exact IsLine Any ts (line expr ts))
    (exact : (ts : Input) → length ts < bound → Exact IsSpelled EndsStatement ts (statement ts)) where
  pub colon_exact : {T : Type 0} (make : Block Statement → T) (ts : Input) → length ts < bound
      → Exact (ColonBlock make) Any ts ((expect m.Colon >>= λ _. block expr statement >>= λ body. pure (make body)) ts)
  colon_exact make ts few =
      exact_expected_then (Then IsBlock (λ body. Just (make body))) Any
      (let (body, c, r) = some_block in (make body, c, last_back IsBlock make (make body) c body r refl))
      ts (block expr statement >>= λ body. pure (make body))
      (λ left less. exact_last IsBlock Any Any (λ more ends. ends) make left (block expr statement left) (block_exact expr statement bound lines exact left (omega arith))) m.Colon

-- ---- nodes

-- a node and its parts
pub record IsNode (x : Statement) (c : Input) : Type 0 where
  pub layer : Statement-F Statement
  pub whole : roll-Statement layer ≡ x
  pub fits : StatementFits layer
  pub each : EachPart IsStatement layer
  pub spelt : Matches c (parts_claims layer)

pub node_of : (x : Statement) (c : Input) → IsSpelled x c → IsNode x c
node_of x c h =
    let is = roll-out-Statement x in
    let (fits, each) = statement_parts (out-Statement x) (subst IsStatement (sym is) h.levelled) in
    record { layer = out-Statement x; whole = is; fits = fits; each = each; spelt = subst (Matches c) (ap statement_claims (sym is) ∙ claims_of_parts (out-Statement x)) h.spelt }

pub of_node : (d : Statement-F Statement) (x : Statement) (c : Input) → roll-Statement d ≡ x → StatementFits d → EachPart IsStatement d → Matches c (parts_claims d) → IsSpelled x c
of_node d x c is fits each spelt = record { levelled = subst IsStatement is (statement_made d fits each); spelt = subst (Matches c) (sym (claims_of_parts d) ∙ ap statement_claims is) spelt }
