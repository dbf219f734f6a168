-- The first token of an expression.
use Rattle.std.proofs.Common.{◌≡◌, ◌∙◌, ◌⊎◌, inl, inr, ℕ, zero, suc, ◌+◌, ◌≤◌, ◌<◌, [], ◌∷◌, ◌++◌, refl, sym, ap, subst, arith}
use Rattle.std.proofs.lemmas.List.{append-nil}
use native.Mathlib.Decide.{dec_lt}
use Rattle.star_syntax.specs.declared.token.Token.{Token}
use Rattle.star_syntax.specs.declared.token.Token.TheVariants as t
use Rattle.star_syntax.specs.declared.token.Mark.TheVariants as m
use Rattle.star_syntax.specs.declared.token.Keyword.TheVariants as w
use Rattle.star_syntax.specs.declared.token.Spanned.{Spanned}
use Rattle.star_syntax.specs.declared.operator.UnaryOp.TheVariants as sign
use Rattle.star_syntax.specs.declared.expression.Expr.{Expr, out-Expr, roll-Expr, out-roll-Expr, roll-out-Expr}
use Rattle.star_syntax.specs.declared.expression.Expr.TheOpen.{Expr-F}
use Rattle.star_syntax.specs.Spelling.{Tokens, expr_spelling}
use Rattle.star_syntax.specs.SpellingOfParts.{parts_spelling}
use Rattle.star_syntax.specs.Levels.{IsLevelled, Fits, rank, layer_rank}
use Rattle.star_syntax.proofs.Levelled.{levelled_parts, levelled_made, rank_made, rank_parts, Each, induct}
use Rattle.star_syntax.proofs.SpellingLemmas.{spells_parts}
use Rattle.star_parser.specs.Reading.{Input, kinds}
use Rattle.star_parser.specs.Starts.{starts}
use Rattle.star_parser.proofs.Exact.{Then, Just}
use Rattle.star_parser.proofs.Rules.{IsExpr, kinds_cons}

pub record StartsAt (r : ℕ) (ts : Tokens) : Type 0 where
  pub first : Token
  pub others : Tokens
  pub whole : ts ≡ first ∷ others
  pub starts_it : r < starts first

goes_on : (r q : ℕ) (a b : Tokens) → r ≤ q → StartsAt q a → StartsAt r (a ++ b)
goes_on r q a b low s = record { first = s.first; others = s.others ++ b; whole = ap (λ v. v ++ b) s.whole; starts_it = omega (arith, s.starts_it) }

node_starts : (d : Expr-F Expr) → Fits d → Each IsLevelled d → Each (λ x. IsLevelled x → StartsAt (rank x) (expr_spelling x)) d → StartsAt (layer_rank d) (parts_spelling d)
node_starts (Expr-F.Name n) fits held each = record { first = t.Name n; others = _; whole = refl; starts_it = omega arith }
node_starts (Expr-F.Int n) fits held each = record { first = t.Int n; others = _; whole = refl; starts_it = omega arith }
node_starts (Expr-F.Text n) fits held each = record { first = t.Text n; others = _; whole = refl; starts_it = omega arith }
node_starts Expr-F.None fits held each = record { first = t.Word w.None; others = _; whole = refl; starts_it = omega arith }
node_starts Expr-F.True fits held each = record { first = t.Word w.True; others = _; whole = refl; starts_it = omega arith }
node_starts Expr-F.False fits held each = record { first = t.Word w.False; others = _; whole = refl; starts_it = omega arith }
node_starts (Expr-F.List items comma) fits held each = record { first = t.Mark m.OpenSquare; others = _; whole = refl; starts_it = omega arith }
node_starts (Expr-F.ListOver item clauses) fits held each = record { first = t.Mark m.OpenSquare; others = _; whole = refl; starts_it = omega arith }
node_starts (Expr-F.Dict pairs comma) fits held each = record { first = t.Mark m.OpenCurly; others = _; whole = refl; starts_it = omega arith }
node_starts (Expr-F.DictOver key value clauses) fits held each = record { first = t.Mark m.OpenCurly; others = _; whole = refl; starts_it = omega arith }
node_starts (Expr-F.Paren inner) fits held each = record { first = t.Mark m.OpenRound; others = _; whole = refl; starts_it = omega arith }
node_starts (Expr-F.Tuple items comma) fits held each = record { first = t.Mark m.OpenRound; others = _; whole = refl; starts_it = omega arith }
node_starts (Expr-F.Primary head suffixes) fits held each = goes_on 11 (rank head) _ _ (omega (arith, fits.0)) (each.0 held.0)
node_starts (Expr-F.Signed [] operand) fits held each = absurd (fits.1 refl)
node_starts (Expr-F.Signed (sign.Plus ∷ signs) operand) fits held each = record { first = t.Mark m.Plus; others = _; whole = refl; starts_it = omega arith }
node_starts (Expr-F.Signed (sign.Minus ∷ signs) operand) fits held each = record { first = t.Mark m.Minus; others = _; whole = refl; starts_it = omega arith }
node_starts (Expr-F.Signed (sign.Invert ∷ signs) operand) fits held each = record { first = t.Mark m.Tilde; others = _; whole = refl; starts_it = omega arith }
node_starts (Expr-F.Chain l first links) fits held each = goes_on _ (rank first) _ _ (omega (arith, fits.0)) (each.0 held.0)
node_starts (Expr-F.Compare left op right) fits held each = goes_on 4 (rank left) _ _ (omega (arith, fits.0)) (each.0 held.0)
node_starts (Expr-F.Not zero operand) fits held each = absurd (omega (arith, fits.1))
node_starts (Expr-F.Not (suc n) operand) fits held each = record { first = t.Word w.Not; others = _; whole = refl; starts_it = omega arith }
node_starts (Expr-F.Conditional [] last) fits held each = absurd (fits.0 refl)
node_starts (Expr-F.Conditional (arm ∷ arms) last) fits held each =
    goes_on 0 0 _ _ (omega arith) (goes_on 0 0 _ _ (omega arith) (goes_on 0 (rank arm.value) _ _ (omega arith) (each.0.0.0 held.0.0.0)))

pub expr_starts : (x : Expr) → IsLevelled x → StartsAt (rank x) (expr_spelling x)
expr_starts = induct (λ x. IsLevelled x → StartsAt (rank x) (expr_spelling x)) (λ d each levelled.
    let parts = levelled_parts (roll-Expr d) levelled in
    let fits : Fits d = subst Fits (out-roll-Expr d) parts.0 in
    let held : Each IsLevelled d = subst (Each IsLevelled) (out-roll-Expr d) parts.1 in
    let s = node_starts d fits held each in
    record { first = s.first; others = s.others; whole = spells_parts d ∙ s.whole; starts_it = (let a = rank_made d in omega (arith, s.starts_it)) })

-- the first token of what spells an expression of a level
pub first_of : (r : ℕ) (x : Expr) (c : Input) → IsExpr r x c → (s : Spanned) × (c' : Input) × (c ≡ s ∷ c') × (r < starts s.token)
first_of r x c h =
    let s = expr_starts x h.levelled in
    let (found, c', e, is, others) = kinds_cons c s.first s.others (h.spelt ∙ s.whole) in
    (found, c', e, subst (λ k. r < starts k) (sym is) (omega (arith, h.high, s.starts_it)))

-- ---- nodes

pub made_is : (r : ℕ) (d : Expr-F Expr) (x : Expr) (c : Input) → roll-Expr d ≡ x → r ≤ layer_rank d → Fits d → Each IsLevelled d → kinds c ≡ parts_spelling d → IsExpr r x c
made_is r d x c is low fits each spelt = record {
  levelled = subst IsLevelled is (levelled_made d fits each);
  high = subst (λ v. r ≤ rank v) is (let a = rank_made d in omega arith);
  spelt = spelt ∙ sym (spells_parts d) ∙ ap expr_spelling is;
}

-- a node and its parts
pub record Node (r : ℕ) (x : Expr) (c : Input) : Type 0 where
  pub layer : Expr-F Expr
  pub whole : roll-Expr layer ≡ x
  pub level : layer_rank layer ≡ r
  pub fits : Fits layer
  pub each : Each IsLevelled layer
  pub spelt : kinds c ≡ parts_spelling layer

-- an expression of a level is of a higher one or a node of this one
pub node_or_higher : (r : ℕ) (x : Expr) (c : Input) → IsExpr r x c → IsExpr (r + 1) x c ⊎ Node r x c
node_or_higher r x c h = elim (dec_lt r (rank x)) [
  | yes high ↦ inl (record { levelled = h.levelled; high = omega arith; spelt = h.spelt })
  | no low ↦ (let parts = levelled_parts x h.levelled in inr (record {
    layer = out-Expr x;
    whole = roll-out-Expr x;
    level = sym (rank_parts x) ∙ (let a = h.high in omega arith);
    fits = parts.0;
    each = parts.1;
    spelt = h.spelt ∙ ap expr_spelling (sym (roll-out-Expr x)) ∙ spells_parts (out-Expr x);
  }))
]

-- ---- a last part, and the tree of it

pub last_there : {A T : Type 0} (RA : A → Input → Type 0) (make : A → T) (x : T) (c : Input) → Then RA (λ a. Just (make a)) x c → (a : A) × RA a c × (x ≡ make a)
last_there RA make x c (a, c1, c2, r, (is, none), e) = (a, subst (RA a) (sym (e ∙ ap (λ v. c1 ++ v) none ∙ append-nil c1)) r, is)

pub last_back : {A T : Type 0} (RA : A → Input → Type 0) (make : A → T) (x : T) (c : Input) (a : A) → RA a c → x ≡ make a → Then RA (λ a. Just (make a)) x c
last_back RA make x c a r is = (a, c, [], r, (is, refl), sym (append-nil c))
