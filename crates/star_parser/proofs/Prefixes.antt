-- Signs and `not` before an operand are read exactly.
use Rattle.std.proofs.Common.{◌≡◌, ◌≢◌, ◌∙◌, inl, inr, ℕ, zero, suc, ◌+◌, ◌≤◌, ◌<◌, List, [], ◌∷◌, ◌++◌, map, replicate, Option, Some, None, Ok, refl, sym, ap, subst, arith, append_assoc, length}
use Rattle.std.proofs.lemmas.List.{append-nil}
use Rattle.star_syntax.specs.declared.token.Token.{Token}
use Rattle.star_syntax.specs.declared.token.Token.TheVariants as t
use Rattle.star_syntax.specs.declared.token.Keyword.TheVariants as w
use Rattle.star_syntax.specs.declared.token.Mark.TheVariants as m
use Rattle.star_syntax.specs.declared.operator.UnaryOp.{UnaryOp}
use Rattle.star_syntax.specs.declared.operator.UnaryOp.TheVariants as sign
use Rattle.star_syntax.specs.declared.expression.Expr.{Expr, roll-Expr}
use Rattle.star_syntax.specs.declared.expression.Expr.TheOpen.{Expr-F}
use Rattle.star_syntax.specs.declared.expression.Expr.TheVariants as e
use Rattle.star_syntax.specs.Spelling.{expr_spelling, sign_token}
use Rattle.star_syntax.specs.SpellingOfParts.{parts_spelling}
use Rattle.star_syntax.specs.Levels.{IsLevelled, Fits, rank, layer_rank}
use Rattle.star_syntax.proofs.Levelled.{Each}
use Rattle.star_parser.specs.declared.level.Level.{Level}
use Rattle.star_parser.specs.declared.level.Level.TheVariants as level
use Rattle.star_parser.specs.Reading.{Input, Reader, ◌>>=◌, pure, next, kinds}
use Rattle.star_parser.specs.Tables.{sign_of, signs_by, signs_from, nots_from}
use Rattle.star_parser.specs.Readers.{unary, with_signs, negated, with_nots}
use Rattle.star_parser.specs.Starts.{starts}
use Rattle.star_parser.specs.Ends.{Ends}
use Rattle.star_parser.proofs.Exact.{Exact, Then, Just, exact_then, exact_by, exact_same, exact_pure}
use Rattle.star_parser.proofs.Steps.{Tok, exact_token_then, exact_last, exact_eat_word}
use Rattle.star_parser.proofs.Rules.{IsExpr, kinds_split, kinds_cons, kinds_none, kinds_append, next_kind, length_after, some_is}
use Rattle.star_parser.proofs.Chains.{ReadsBelow, rank_few}
use Rattle.star_parser.proofs.First.{node_or_higher, made_is, last_there, last_back, first_of}

-- ---- signs

its_token : (p o : UnaryOp) → Some p ≡ Some o → Some (sign_token p) ≡ Some (sign_token o)
its_token p o h = let same : p ≡ o = cc in ap (λ q. Some (sign_token q)) same

sign_is : (k : Option Token) (o : UnaryOp) → sign_of k ≡ Some o → k ≡ Some (sign_token o)
sign_is (Some (t.Mark m.Plus)) o h = its_token sign.Plus o h
sign_is (Some (t.Mark m.Minus)) o h = its_token sign.Minus o h
sign_is (Some (t.Mark m.Tilde)) o h = its_token sign.Invert o h
sign_is _ o h = absurd cc

is_sign : (o : UnaryOp) → sign_of (Some (sign_token o)) ≡ Some o
is_sign sign.Plus = refl
is_sign sign.Minus = refl
is_sign sign.Invert = refl

starts_sign : (o : UnaryOp) → starts (sign_token o) ≡ 11
starts_sign sign.Plus = refl
starts_sign sign.Minus = refl
starts_sign sign.Invert = refl

-- no sign comes next
abbrev NoSign : Input → Type 0
NoSign more = sign_of (next more) ≡ None

no_sign_by : (k : Token) (o : Option UnaryOp) → sign_of (Some k) ≡ o → 11 < starts k → o ≡ None
no_sign_by k None is high = refl
no_sign_by k (Some o) is high = let a = sign_is (Some k) o is in let b : k ≡ sign_token o = cc in let d : starts k ≡ 11 = ap starts b ∙ starts_sign o in absurd (omega arith)

-- a primary begins with no sign
primary_unsigned : (x : Expr) (c more : Input) → IsExpr 11 x c → NoSign (c ++ more)
primary_unsigned x c more h =
    let (s, c', is, high) = first_of 11 x c h in
    ap (λ v. sign_of (next (v ++ more))) is ∙ no_sign_by s.token (sign_of (Some s.token)) refl high

-- what was found, and after it signs that the tokens spell
pub record AreSigns (found all : List UnaryOp) (c : Input) : Type 0 where
  pub signs : List UnaryOp
  pub whole : all ≡ found ++ signs
  pub spelt : kinds c ≡ map sign_token signs

-- a sign, and more after it
abbrev Signed : List UnaryOp → UnaryOp → List UnaryOp → Input → Type 0
Signed found o = Then (Tok (sign_token o)) (λ _. AreSigns (found ++ o ∷ []))

signed_there : (found : List UnaryOp) (o : UnaryOp) (all : List UnaryOp) (c : Input) → Signed found o all c → AreSigns found all c
signed_there found o all c (u, c1, c2, (s, is, one), more, split) = record {
  signs = o ∷ more.signs;
  whole = more.whole ∙ append_assoc found (o ∷ []) more.signs;
  spelt = let a : kinds c ≡ s.token ∷ kinds c2 = ap kinds (split ∙ ap (λ v. v ++ c2) one) in let b = more.spelt in cc;
}

-- by the sign that comes next, or none
sign_back : (found all : List UnaryOp) (c more : Input) (ys : List UnaryOp) → all ≡ found ++ ys → kinds c ≡ map sign_token ys → NoSign more
    → (o : Option UnaryOp) → sign_of (next (c ++ more)) ≡ o → elim o as (λ _. Type 0) [ None ↦ Just found all c | Some p ↦ Signed found p all c ]
sign_back found all c more [] whole spelt none None is = (whole ∙ append-nil found, kinds_none c spelt)
sign_back found all c more [] whole spelt none (Some p) is =
    let a : sign_of (next (c ++ more)) ≡ sign_of (next more) = ap (λ v. sign_of (next (v ++ more))) (kinds_none c spelt) in absurd (let both : Some p ≡ None = sym is ∙ a ∙ none in cc)
sign_back found all c more (y ∷ ys) whole spelt none o is =
    let a : sign_of (next (c ++ more)) ≡ Some y = ap sign_of (next_kind c more (sign_token y) (map sign_token ys) spelt) ∙ is_sign y in
    let (s, c', split, is1, is2) = kinds_cons c (sign_token y) (map sign_token ys) spelt in
    let one : Signed found y all c = (tt, s ∷ [], c', (s, is1, refl), record { signs = ys; whole = whole ∙ sym (append_assoc found (y ∷ []) ys); spelt = is2 }, split) in
    subst (λ q. elim q as (λ _. Type 0) [ None ↦ Just found all c | Some p ↦ Signed found p all c ]) (sym a ∙ is) one

some_signs : (found : List UnaryOp) → (all : List UnaryOp) × (c : Input) × AreSigns found all c
some_signs found = (found, [], record { signs = []; whole = sym (append-nil found); spelt = refl })

sign_step : (more : List UnaryOp → Reader (List UnaryOp)) (found : List UnaryOp) (ts : Input)
    → ((found' : List UnaryOp) (left : Input) → length left < length ts → Exact (AreSigns found') NoSign left (more found' left))
    → (o : Option UnaryOp) → sign_of (next ts) ≡ o → Exact (AreSigns found) NoSign ts (signs_by found more o ts)
sign_step more found ts goes_on None none =
    exact_by (Just found) (AreSigns found) NoSign ts
    (λ all c (is, empty). record { signs = []; whole = is ∙ sym (append-nil found); spelt = ap kinds empty })
    (λ all c more' signs ends look. sign_back found all c more' signs.signs signs.whole signs.spelt ends None (ap sign_of look ∙ none))
    (Ok (found, ts)) (exact_pure found NoSign ts)
sign_step more found ts goes_on (Some o) is =
    exact_by (Signed found o) (AreSigns found) NoSign ts (signed_there found o)
    (λ all c more' signs ends look. sign_back found all c more' signs.signs signs.whole signs.spelt ends (Some o) (ap sign_of look ∙ is))
    _ (exact_token_then (sign_token o) (AreSigns (found ++ o ∷ [])) NoSign (some_signs (found ++ o ∷ [])) ts (more (found ++ o ∷ [])) (goes_on (found ++ o ∷ [])) (sign_is (next ts) o is))

signs_exact : (n : ℕ) (found : List UnaryOp) (ts : Input) → length ts ≤ n → Exact (AreSigns found) NoSign ts (signs_from n found ts)
unfolding signs_from
signs_exact zero found [] few = sign_step (λ _. pure []) found [] (λ f left less. absurd (omega arith)) None refl
signs_exact zero found (s ∷ ts) few = absurd (omega arith)
signs_exact (suc n) found ts few = sign_step (signs_from n) found ts (λ f left less. signs_exact n f left (omega arith)) (sign_of (next ts)) refl

-- signs, perhaps none, and the operand
abbrev Unary : Expr → Input → Type 0
Unary = Then (AreSigns []) (λ signs. Then (IsExpr 11) (λ operand. Just (with_signs signs operand)))

unary_there : (x : Expr) (c : Input) → Unary x c → IsExpr 10 x c
unary_there x c (signs, c1, c2, r, last, split) =
    let (operand, r2, x_is) = last_there (IsExpr 11) (λ operand. with_signs signs operand) x c2 last in
    by_signs signs r.signs r.whole r.spelt operand r2 x_is
  where
    by_signs : (signs ys : List UnaryOp) → signs ≡ ys → kinds c1 ≡ map sign_token ys → (operand : Expr) → IsExpr 11 operand c2 → x ≡ with_signs signs operand → IsExpr 10 x c
    by_signs signs [] whole spelt operand r2 x_is =
        let is : x ≡ operand = x_is ∙ ap (λ v. with_signs v operand) whole in
        let all : c ≡ c2 = split ∙ ap (λ v. v ++ c2) (kinds_none c1 spelt) in
        record { levelled = subst IsLevelled (sym is) r2.levelled; high = subst (λ v. 10 ≤ rank v) (sym is) (omega (arith, r2.high)); spelt = ap kinds all ∙ r2.spelt ∙ ap expr_spelling (sym is) }
    by_signs signs (y ∷ ys) whole spelt operand r2 x_is =
        let is : x ≡ e.Signed (y ∷ ys) operand = x_is ∙ ap (λ v. with_signs v operand) whole in
        made_is 10 (Expr-F.Signed (y ∷ ys) operand) x c (e.rolls-Signed (y ∷ ys) operand ∙ sym is) (omega arith) (r2.high, (λ none. cc)) r2.levelled
        (ap kinds split ∙ kinds_append c1 c2 ∙ (let a = r2.spelt in cc))

unary_by_layer : (x : Expr) (c : Input) (d : Expr-F Expr) → roll-Expr d ≡ x → layer_rank d ≡ 10 → Fits d → Each IsLevelled d → kinds c ≡ parts_spelling d → Unary x c
unary_by_layer x c (Expr-F.Signed [] operand) whole level fits each spelt = absurd (fits.1 refl)
unary_by_layer x c (Expr-F.Signed (y ∷ ys) operand) whole level fits each spelt =
    let (c1, c2, split, is1, is2) = kinds_split c (map sign_token (y ∷ ys)) (expr_spelling operand) spelt in (
      y ∷ ys,
      c1,
      c2,
      record { signs = y ∷ ys; whole = refl; spelt = is1 },
      last_back (IsExpr 11) (λ operand. with_signs (y ∷ ys) operand) x c2 operand (record { levelled = each; high = fits.0; spelt = is2 }) (sym whole ∙ e.rolls-Signed (y ∷ ys) operand),
      split,
    )
unary_by_layer x c (Expr-F.Chain l first links) whole level fits each spelt = absurd (let a = rank_few l in omega arith)
unary_by_layer x c _ whole level fits each spelt = absurd (omega arith)

unary_back : (x : Expr) (c : Input) → IsExpr 10 x c → Unary x c
unary_back x c h = elim (node_or_higher 10 x c h) [
  | inl high ↦ ([], [], c, record { signs = []; whole = refl; spelt = refl }, last_back (IsExpr 11) (λ operand. operand) x c x high refl, refl)
  | inr node ↦ unary_by_layer x c node.layer node.whole node.level node.fits node.each node.spelt
]

module _ (expr : Level → Reader Expr) (bound : ℕ) (primaries : ReadsBelow expr bound level.Primary) where
  -- signs and their operand are read exactly, if primaries are
  pub unary_exact : (ts : Input) → length ts ≤ bound → Exact (IsExpr 10) (Ends 10) ts (unary expr ts)
  unfolding unary Ends
  unary_exact ts few = exact_same Unary (IsExpr 10) (Ends 10) unary_there unary_back ts _
      (exact_then (AreSigns []) (λ signs. Then (IsExpr 11) (λ operand. Just (with_signs signs operand))) NoSign (Ends 10)
      (λ signs x c1 c2 more _ last ends. let (operand, r, _) = last_there (IsExpr 11) (λ operand. with_signs signs operand) x c2 last in primary_unsigned operand c2 more r)
      (λ signs c r. let (x, c', r') = some_is 11 (omega arith) in (with_signs signs x, c', last_back (IsExpr 11) (λ operand. with_signs signs operand) _ c' x r' refl))
      ts (signs_from (length ts) [] ts) (λ signs. expr level.Primary >>= λ operand. pure (with_signs signs operand)) (signs_exact (length ts) [] ts (omega arith))
      (λ signs left taken split r. exact_last (IsExpr 11) (Ends 11) (Ends 10) (λ more ends. omega (arith, ends)) (λ operand. with_signs signs operand) left (expr level.Primary left)
      (primaries left (let a = length_after ts taken left split in omega arith))))

-- ---- `not`

-- no `not` comes next
abbrev NoNot : Input → Type 0
NoNot more = next more ≢ Some (t.Word w.Not)

-- how many there are, after those that were counted
pub record AreNots (count all : ℕ) (c : Input) : Type 0 where
  pub nots : ℕ
  pub whole : all ≡ count + nots
  pub spelt : kinds c ≡ replicate nots (t.Word w.Not)

-- a `not`, and more after it
abbrev OneMore : ℕ → ℕ → Input → Type 0
OneMore count = Then (Tok (t.Word w.Not)) (λ _. AreNots (count + 1))

one_more_there : (count all : ℕ) (c : Input) → OneMore count all c → AreNots count all c
one_more_there count all c (u, c1, c2, (s, is, one), more, split) = record {
  nots = suc more.nots;
  whole = (let a = more.whole in omega arith);
  spelt = ap kinds (split ∙ ap (λ v. v ++ c2) one) ∙ ap (λ v. v ∷ kinds c2) is ∙ ap (λ v. t.Word w.Not ∷ v) more.spelt;
}

one_more_by : (count all : ℕ) (c more : Input) (k : ℕ) → all ≡ count + k → kinds c ≡ replicate k (t.Word w.Not) → NoNot more → next (c ++ more) ≡ Some (t.Word w.Not) → OneMore count all c
one_more_by count all c more zero whole spelt none look = absurd (none (ap (λ v. next (v ++ more)) (sym (kinds_none c spelt)) ∙ look))
one_more_by count all c more (suc k) whole spelt none look =
    let (s, c', split, is, later) = kinds_cons c (t.Word w.Not) (replicate k (t.Word w.Not)) spelt in
    (tt, s ∷ [], c', (s, is, refl), record { nots = k; whole = omega arith; spelt = later }, split)

no_more_by : (count all : ℕ) (c more : Input) (k : ℕ) → all ≡ count + k → kinds c ≡ replicate k (t.Word w.Not) → next (c ++ more) ≢ Some (t.Word w.Not) → Just count all c
no_more_by count all c more zero whole spelt none = (omega arith, kinds_none c spelt)
no_more_by count all c more (suc k) whole spelt none = absurd (none (next_kind c more (t.Word w.Not) (replicate k (t.Word w.Not)) spelt))

no_more_there : (count all : ℕ) (c : Input) → Just count all c → AreNots count all c
no_more_there count all c (is, none) = record { nots = 0; whole = omega arith; spelt = ap kinds none }

nots_exact : (n count : ℕ) (ts : Input) → length ts ≤ n → Exact (AreNots count) NoNot ts (nots_from n count ts)
unfolding nots_from
nots_exact zero count [] few = exact_by (Just count) (AreNots count) NoNot [] (no_more_there count)
    (λ all c more h ends look. no_more_by count all c more h.nots h.whole h.spelt (λ a. absurd (let b : None ≡ Some (t.Word w.Not) = sym look ∙ a in cc))) _ (exact_pure count NoNot [])
nots_exact zero count (s ∷ ts) few = absurd (omega arith)
nots_exact (suc n) count ts few =
    exact_eat_word (AreNots count) NoNot (nots_from n (count + 1)) (pure count) ts w.Not
    (λ here. exact_by (OneMore count) (AreNots count) NoNot ts (one_more_there count)
    (λ all c more h ends look. one_more_by count all c more h.nots h.whole h.spelt ends (look ∙ here))
    _ (exact_token_then (t.Word w.Not) (AreNots (count + 1)) NoNot (count + 1, [], record { nots = 0; whole = omega arith; spelt = refl }) ts (nots_from n (count + 1))
    (λ left less. nots_exact n (count + 1) left (omega arith)) here))
    (λ other. exact_by (Just count) (AreNots count) NoNot ts (no_more_there count)
    (λ all c more h ends look. no_more_by count all c more h.nots h.whole h.spelt (λ a. other (sym look ∙ a))) _ (exact_pure count NoNot ts))

-- `not` any number of times, and the operand
abbrev Negated : Expr → Input → Type 0
Negated = Then (AreNots 0) (λ count. Then (IsExpr 4) (λ operand. Just (with_nots count operand)))

negated_there : (x : Expr) (c : Input) → Negated x c → IsExpr 3 x c
negated_there x c (count, c1, c2, r, last, split) =
    let (operand, r2, x_is) = last_there (IsExpr 4) (λ operand. with_nots count operand) x c2 last in
    by_count count (let a = r.whole in let b : count ≡ r.nots = omega arith in subst (λ v. kinds c1 ≡ replicate v (t.Word w.Not)) (sym b) r.spelt) operand r2 x_is
  where
    by_count : (count : ℕ) → kinds c1 ≡ replicate count (t.Word w.Not) → (operand : Expr) → IsExpr 4 operand c2 → x ≡ with_nots count operand → IsExpr 3 x c
    by_count zero spelt operand r2 is =
        let all : c ≡ c2 = split ∙ ap (λ v. v ++ c2) (kinds_none c1 spelt) in
        record { levelled = subst IsLevelled (sym is) r2.levelled; high = subst (λ v. 3 ≤ rank v) (sym is) (omega (arith, r2.high)); spelt = ap kinds all ∙ r2.spelt ∙ ap expr_spelling (sym is) }
    by_count (suc n) spelt operand r2 is =
        made_is 3 (Expr-F.Not (suc n) operand) x c (e.rolls-Not (suc n) operand ∙ sym is) (omega arith) (r2.high, omega arith) r2.levelled
        (ap kinds split ∙ kinds_append c1 c2 ∙ ap (λ v. v ++ kinds c2) spelt ∙ ap (λ v. replicate (suc n) (t.Word w.Not) ++ v) r2.spelt)

negated_by_layer : (x : Expr) (c : Input) (d : Expr-F Expr) → roll-Expr d ≡ x → layer_rank d ≡ 3 → Fits d → Each IsLevelled d → kinds c ≡ parts_spelling d → Negated x c
negated_by_layer x c (Expr-F.Not zero operand) whole level fits each spelt = absurd (omega (arith, fits.1))
negated_by_layer x c (Expr-F.Not (suc n) operand) whole level fits each spelt =
    let (c1, c2, split, is1, is2) = kinds_split c (replicate (suc n) (t.Word w.Not)) (expr_spelling operand) spelt in (
      suc n,
      c1,
      c2,
      record { nots = suc n; whole = omega arith; spelt = is1 },
      last_back (IsExpr 4) (λ operand. with_nots (suc n) operand) x c2 operand (record { levelled = each; high = fits.0; spelt = is2 }) (sym whole ∙ e.rolls-Not (suc n) operand),
      split,
    )
negated_by_layer x c (Expr-F.Chain l first links) whole level fits each spelt = absurd (let a = rank_few l in omega arith)
negated_by_layer x c _ whole level fits each spelt = absurd (omega arith)

negated_back : (x : Expr) (c : Input) → IsExpr 3 x c → Negated x c
negated_back x c h = elim (node_or_higher 3 x c h) [
  | inl high ↦ (0, [], c, record { nots = 0; whole = refl; spelt = refl }, last_back (IsExpr 4) (λ operand. operand) x c x high refl, refl)
  | inr node ↦ negated_by_layer x c node.layer node.whole node.level node.fits node.each node.spelt
]

module _ (expr : Level → Reader Expr) (bound : ℕ) (comparisons : ReadsBelow expr bound level.Compare) where
  -- `not` and its operand are read exactly, if comparisons are
  pub negated_exact : (ts : Input) → length ts ≤ bound → Exact (IsExpr 3) (Ends 3) ts (negated expr ts)
  unfolding negated Ends
  negated_exact ts few = exact_same Negated (IsExpr 3) (Ends 3) negated_there negated_back ts _
      (exact_then (AreNots 0) (λ count. Then (IsExpr 4) (λ operand. Just (with_nots count operand))) NoNot (Ends 3)
      (λ count x c1 c2 more _ last ends look. let (operand, r, _) = last_there (IsExpr 4) (λ operand. with_nots count operand) x c2 last in
      let (s, c', is, high) = first_of 4 operand c2 r in
      let a : Some s.token ≡ Some (t.Word w.Not) = ap (λ v. next (v ++ more)) (sym is) ∙ look in
      let b : s.token ≡ t.Word w.Not = cc in let d : starts s.token ≡ 4 = ap starts b in omega arith)
      (λ count c r. let (x, c', r') = some_is 4 (omega arith) in (with_nots count x, c', last_back (IsExpr 4) (λ operand. with_nots count operand) _ c' x r' refl))
      ts (nots_from (length ts) 0 ts) (λ count. expr level.Compare >>= λ operand. pure (with_nots count operand)) (nots_exact (length ts) 0 ts (omega arith))
      (λ count left taken split r. exact_last (IsExpr 4) (Ends 4) (Ends 3) (λ more ends. omega (arith, ends)) (λ operand. with_nots count operand) left (expr level.Compare left)
      (comparisons left (let a = length_after ts taken left split in omega arith))))
