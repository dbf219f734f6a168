-- The rules of expressions, and words on lists of tokens.
use Rattle.std.proofs.Common.{◌≡◌, ◌≢◌, ◌∙◌, ℕ, ◌≤◌, ◌<◌, [], ◌∷◌, ◌++◌, Some, refl, sym, ap, subst, arith, length, length-append}
use Rattle.std.proofs.lemmas.List.{map-append}
use Rattle.star_syntax.specs.declared.token.Token.{Token}
use Rattle.star_syntax.specs.declared.token.Token.TheVariants as t
use Rattle.star_syntax.specs.declared.token.Spanned.{Spanned}
use Rattle.star_syntax.specs.declared.expression.Expr.{Expr}
use Rattle.star_syntax.specs.declared.expression.Expr.TheVariants as e
use Rattle.star_syntax.specs.Spelling.{Tokens, expr_spelling}
use Rattle.star_syntax.specs.Levels.{IsLevelled, rank}
use Rattle.star_syntax.proofs.Levelled.{levelled_made, rank_made}
use Rattle.star_syntax.specs.declared.expression.Expr.TheOpen.{Expr-F}
use Rattle.star_syntax.proofs.SpellingLemmas.{spells-Name}
use Rattle.star_parser.specs.Reading.{Input, kinds, next}

-- the tokens spell the expression, which is well-levelled and of this level
pub record IsExpr (r : ℕ) (x : Expr) (c : Input) : Type 0 where
  pub levelled : IsLevelled x
  pub high : r ≤ rank x
  pub spelt : kinds c ≡ expr_spelling x

pub lower : (r q : ℕ) (x : Expr) (c : Input) → r ≤ q → IsExpr q x c → IsExpr r x c
lower r q x c below h = record { levelled = h.levelled; high = omega (arith, h.high); spelt = h.spelt }

-- ---- lists of tokens

pub kinds_append : (a b : Input) → kinds (a ++ b) ≡ kinds a ++ kinds b
kinds_append a b = map-append (λ s. s.token) a b

pub kinds_none : (c : Input) → kinds c ≡ [] → c ≡ []
kinds_none [] h = refl
kinds_none (s ∷ c) h = absurd cc

-- a list that is spelled in two parts has two parts
pub kinds_split : (c : Input) (a b : Tokens) → kinds c ≡ a ++ b → (c1 : Input) × (c2 : Input) × (c ≡ c1 ++ c2) × (kinds c1 ≡ a) × (kinds c2 ≡ b)
kinds_split c [] b h = ([], c, refl, refl, h)
kinds_split [] (x ∷ a) b h = absurd cc
kinds_split (s ∷ c) (x ∷ a) b h =
    let h' : s.token ∷ kinds c ≡ x ∷ (a ++ b) = h in
    let (c1, c2, e, is1, is2) = kinds_split c a b cc in
    (s ∷ c1, c2, ap (λ l. s ∷ l) e, cc, is2)

-- a list that begins with a token
pub kinds_cons : (c : Input) (k : Token) (b : Tokens) → kinds c ≡ k ∷ b → (s : Spanned) × (c' : Input) × (c ≡ s ∷ c') × (s.token ≡ k) × (kinds c' ≡ b)
kinds_cons [] k b h = absurd cc
kinds_cons (s ∷ c) k b h = (s, c, refl, cc, cc)

pub next_kind : (c more : Input) (k : Token) (b : Tokens) → kinds c ≡ k ∷ b → next (c ++ more) ≡ Some k
next_kind [] more k b h = absurd cc
next_kind (s ∷ c) more k b h = let h' : s.token ∷ kinds c ≡ k ∷ b = h in cc

pub length_after : (ts taken left : Input) → ts ≡ taken ++ left → length left ≤ length ts
length_after ts taken left h = omega (arith, length-append taken left, ap length h)

pub length_less : (ts taken left : Input) → ts ≡ taken ++ left → taken ≢ [] → length left < length ts
length_less ts [] left h some = absurd (some refl)
length_less ts (s ∷ taken) left h some = omega (arith, length-append (s ∷ taken) left, ap length h)

-- ---- some expression of every level

pub some_expr : Expr
some_expr = e.Name []

pub some_is : (r : ℕ) → r ≤ 12 → (x : Expr) × (c : Input) × IsExpr r x c
unfolding some_expr
some_is r low =
    let spelled : kinds (record { token = t.Name []; line = 0 } ∷ []) ≡ expr_spelling (e.Name []) = sym (spells-Name []) in (
      e.Name [],
      record { token = t.Name []; line = 0 } ∷ [],
      record {
        levelled = subst IsLevelled (e.rolls-Name []) (levelled_made (Expr-F.Name []) tt tt);
        high = (let h : rank (e.Name []) ≡ 12 = ap rank (sym (e.rolls-Name [])) ∙ rank_made (Expr-F.Name []) in omega arith);
        spelt = spelled;
      },
    )
