-- Conditionals are read exactly.
use Rattle.std.proofs.Common.{◌≡◌, ◌≢◌, ◌∙◌, inl, inr, ℕ, zero, suc, ◌≤◌, List, [], ◌∷◌, ◌++◌, Some, Ok, refl, sym, ap, subst, arith, append_assoc, length}
use Rattle.std.specs.List.{flat_map, AllByRecursion}
use Rattle.std.proofs.lemmas.List.{append-nil}
use Rattle.star_syntax.specs.declared.token.Token.{Token}
use Rattle.star_syntax.specs.declared.token.Token.TheVariants as t
use Rattle.star_syntax.specs.declared.token.Keyword.TheVariants as w
use Rattle.star_syntax.specs.declared.token.Spanned.{Spanned}
use Rattle.star_syntax.specs.declared.expression.Arm.{Arm}
use Rattle.star_syntax.specs.declared.expression.Expr.{Expr, roll-Expr}
use Rattle.star_syntax.specs.declared.expression.Expr.TheOpen.{Expr-F}
use Rattle.star_syntax.specs.declared.expression.Expr.TheVariants as e
use Rattle.star_syntax.specs.Spelling.{Tokens, expr_spelling}
use Rattle.star_syntax.specs.SpellingOfParts.{parts_spelling, expr_arm_spelling}
use Rattle.star_syntax.specs.Levels.{IsLevelled, Fits, ArmFits, rank, layer_rank}
use Rattle.star_syntax.proofs.Levelled.{Each, EachArm}
use Rattle.star_parser.specs.declared.level.Level.{Level}
use Rattle.star_parser.specs.declared.level.Level.TheVariants as level
use Rattle.star_parser.specs.Reading.{Input, Reader, and_then, ◌>>=◌, pure, next, kinds}
use Rattle.star_parser.specs.Tables.{expect_word}
use Rattle.star_parser.specs.Readers.{alternative, arms_from, whole_test, with_arms}
use Rattle.star_parser.specs.Ends.{reach, Ends}
use Rattle.star_parser.proofs.Exact.{Exact, Then, Just, exact_then, exact_by, exact_same, exact_pure}
use Rattle.star_parser.proofs.Steps.{Tok, some_token, exact_token_then, exact_last, exact_eat_word}
use Rattle.star_parser.proofs.Words.{exact_word_then}
use Rattle.star_parser.proofs.Rules.{IsExpr, kinds_split, kinds_cons, kinds_none, kinds_append, next_kind, length_after, some_is}
use Rattle.star_parser.proofs.Chains.{ReadsBelow, rank_few}
use Rattle.star_parser.proofs.First.{node_or_higher, made_is, last_there, last_back}

-- ---- a condition, and the value after `else`

-- a condition and a value
abbrev Other : Type 0
Other = Expr × Expr

-- both are levelled, and neither is a conditional
record OtherFits (other : Other) : Type 0 where
  pub condition : IsLevelled other.0
  pub condition_high : 1 ≤ rank other.0
  pub value : IsLevelled other.1
  pub value_high : 1 ≤ rank other.1

-- after `if`
abbrev other_spelling : Other → Tokens
other_spelling other = expr_spelling other.0 ++ t.Word w.Else ∷ expr_spelling other.1

-- after the condition and `else`
abbrev LastPart : Expr → Other → Input → Type 0
LastPart condition = Then (IsExpr 1) (λ value. Just (condition, value))

-- after the condition
abbrev ElsePart : Expr → Other → Input → Type 0
ElsePart condition = Then (Tok (t.Word w.Else)) (λ _. LastPart condition)

-- after `if`
abbrev IsOther : Other → Input → Type 0
IsOther = Then (IsExpr 1) ElsePart

other_there : (other : Other) (c : Input) → IsOther other c → OtherFits other × (kinds c ≡ other_spelling other)
other_there other c (condition, c1, c2, r1, (u, c3, c4, (s, is, one), last, e2), e1) =
    let (value, r2, other_is) = last_there (IsExpr 1) (λ value. (condition, value)) other c4 last in
    let fits : OtherFits (condition, value) = record { condition = r1.levelled; condition_high = r1.high; value = r2.levelled; value_high = r2.high } in
    let all : c ≡ c1 ++ s ∷ c4 = e1 ∙ ap (λ v. c1 ++ v) (e2 ∙ ap (λ v. v ++ c4) one) in
    let spelt : kinds c ≡ other_spelling (condition, value) =
    ap kinds all ∙ kinds_append c1 (s ∷ c4) ∙ ap (λ v. v ++ s.token ∷ kinds c4) r1.spelt ∙ ap (λ v. expr_spelling condition ++ v ∷ kinds c4) is
    ∙ ap (λ v. expr_spelling condition ++ t.Word w.Else ∷ v) r2.spelt in
    (subst OtherFits (sym other_is) fits, spelt ∙ ap other_spelling (sym other_is))

other_back : (other : Other) (c : Input) → OtherFits other → kinds c ≡ other_spelling other → IsOther other c
other_back other c fits spelt =
    let (c1, c2, e1, is1, is2) = kinds_split c (expr_spelling other.0) (t.Word w.Else ∷ expr_spelling other.1) spelt in
    let (s, c3, e2, is3, is4) = kinds_cons c2 (t.Word w.Else) (expr_spelling other.1) is2 in (
      other.0,
      c1,
      c2,
      record { levelled = fits.condition; high = fits.condition_high; spelt = is1 },
      (
        tt,
        s ∷ [],
        c3,
        (s, is3, refl),
        last_back (IsExpr 1) (λ value. (other.0, value)) other c3 other.1 (record { levelled = fits.value; high = fits.value_high; spelt = is4 }) refl,
        e2,
      ),
      e1,
    )

some_last : (condition : Expr) → (other : Other) × (c : Input) × LastPart condition other c
some_last condition =
    let (x, c, r) = some_is 1 (omega arith) in
    ((condition, x), c, last_back (IsExpr 1) (λ value. (condition, value)) (condition, x) c x r refl)

some_else : (condition : Expr) → (other : Other) × (c : Input) × ElsePart condition other c
some_else condition =
    let (other, c, r) = some_last condition in
    (other, some_token (t.Word w.Else) ∷ c, (tt, some_token (t.Word w.Else) ∷ [], c, (some_token (t.Word w.Else), refl, refl), r, refl))

some_other : (other : Other) × (c : Input) × IsOther other c
some_other =
    let (x, c, r) = some_is 1 (omega arith) in
    let (other, c', r') = some_else x in
    (other, c ++ c', (x, c, c', r, r', refl))

-- what may follow is read through a token that ends it
ends_at_token : (k : Token) (q : ℕ) (s : Spanned) (c c1 c2 more : Input) → s.token ≡ k → c1 ≡ s ∷ [] → c ≡ c1 ++ c2 → reach (Some k) ≤ q → Ends q (c ++ more)
unfolding Ends
ends_at_token k q s c c1 c2 more is one split low =
    let a : reach (next (c ++ more)) ≡ reach (Some k) = ap (λ v. reach (next (v ++ more))) (split ∙ ap (λ v. v ++ c2) one) ∙ ap (λ v. reach (Some v)) is in omega arith

module _ (expr : Level → Reader Expr) (bound : ℕ) (ors : ReadsBelow expr bound level.Or) where
  last_exact : (condition : Expr) (ts : Input) → length ts ≤ bound → Exact (LastPart condition) (Ends 1) ts (and_then (expr level.Or ts) (λ value. pure (condition, value)))
  last_exact condition ts few =
      exact_last (IsExpr 1) (Ends 1) (Ends 1) (λ more ends. ends) (λ value. (condition, value)) ts (expr level.Or ts) (ors ts few)

  other_exact : (ts : Input) → length ts ≤ bound → Exact IsOther (Ends 1) ts (alternative expr ts)
  unfolding alternative
  other_exact ts few =
      exact_then (IsExpr 1) ElsePart (Ends 1) (Ends 1)
      (λ condition other c1 c2 more _ (u, c3, c4, (s, is, one), later, split) ends. ends_at_token (t.Word w.Else) 1 s c2 c3 c4 more is one split (omega arith))
      (λ condition c r. some_else condition)
      ts (expr level.Or ts) (λ condition. expect_word w.Else >>= λ _. expr level.Or >>= λ value. pure (condition, value)) (ors ts few)
      (λ condition left taken split _.
      exact_word_then (LastPart condition) (Ends 1) (some_last condition) left (expr level.Or >>= λ value. pure (condition, value))
      (λ left2 less. last_exact condition left2 (let a = length_after ts taken left split in omega arith)) w.Else)

-- ---- the arms after a value

-- the arms that a value and what follows it make
arms_of : Expr → List Other → List (Arm Expr)
arms_of value [] = []
arms_of value (other ∷ more) = record { value = value; condition = other.0 } ∷ arms_of other.1 more

-- and the last value
last_of : Expr → List Other → Expr
last_of value [] = value
last_of value (other ∷ more) = last_of other.1 more

-- each after its `if`
abbrev others_spelling : List Other → Tokens
others_spelling others = flat_map (λ other. t.Word w.If ∷ other_spelling other) others

-- the tokens spell what follows the value, and the tree is that of all
record AreArms (found : List (Arm Expr)) (value x : Expr) (c : Input) : Type 0 where
  pub others : List Other
  pub whole : x ≡ with_arms (found ++ arms_of value others) (last_of value others)
  pub fits : AllByRecursion OtherFits others
  pub spelt : kinds c ≡ others_spelling others

-- the arms that were found, and one more
abbrev with_arm : List (Arm Expr) → Expr → Expr → List (Arm Expr)
with_arm found value condition = found ++ record { value = value; condition = condition } ∷ []

-- after `if`
abbrev Arms : List (Arm Expr) → Expr → Expr → Input → Type 0
Arms found value = Then IsOther (λ other. AreArms (with_arm found value other.0) other.1)

-- where `if` comes next
abbrev Armed : List (Arm Expr) → Expr → Expr → Input → Type 0
Armed found value = Then (Tok (t.Word w.If)) (λ _. Arms found value)

some_arms : (found : List (Arm Expr)) (value : Expr) → (x : Expr) × (c : Input) × Arms found value x c
unfolding arms_of last_of
some_arms found value =
    let (other, c, r) = some_other in (
      with_arms (with_arm found value other.0) other.1,
      c ++ [],
      (
        other,
        c,
        [],
        r,
        record { others = []; whole = ap (λ v. with_arms v other.1) (sym (append-nil (with_arm found value other.0))); fits = tt; spelt = refl },
        refl,
      ),
    )

armed_there : (found : List (Arm Expr)) (value x : Expr) (c : Input) → Armed found value x c → AreArms found value x c
unfolding arms_of last_of
armed_there found value x c (u, c1, c2, (s, is, one), (other, c3, c4, r, more, e2), e1) =
    let (fits, spelt) = other_there other c3 r in
    let arm : Arm Expr = record { value = value; condition = other.0 } in
    let all : c ≡ s ∷ (c3 ++ c4) = e1 ∙ ap (λ v. v ++ c2) one ∙ ap (λ v. s ∷ v) e2 in
    record {
      others = other ∷ more.others;
      whole = more.whole ∙ ap (λ v. with_arms v (last_of other.1 more.others)) (append_assoc found (arm ∷ []) (arms_of other.1 more.others));
      fits = (fits, more.fits);
      spelt = ap kinds all ∙ ap (λ v. s.token ∷ v) (kinds_append c3 c4) ∙ ap (λ v. v ∷ (kinds c3 ++ kinds c4)) is
          ∙ ap (λ v. t.Word w.If ∷ (v ++ kinds c4)) spelt ∙ ap (λ v. t.Word w.If ∷ (other_spelling other ++ v)) more.spelt;
    }

-- where nothing follows, the next token is what may follow
none_next : (c more : Input) → kinds c ≡ [] → next (c ++ more) ≡ next more
none_next c more none = ap (λ v. next (v ++ more)) (kinds_none c none)

armed_by : (found : List (Arm Expr)) (value : Expr) (ts : Input) → next ts ≡ Some (t.Word w.If) → (x : Expr) (c more : Input) (others : List Other)
    → x ≡ with_arms (found ++ arms_of value others) (last_of value others) → AllByRecursion OtherFits others → kinds c ≡ others_spelling others
    → Ends 0 more → next (c ++ more) ≡ next ts → Armed found value x c
unfolding Ends arms_of last_of
armed_by found value ts here x c more [] whole fits spelt ends look =
    let a : next more ≡ Some (t.Word w.If) = sym (none_next c more spelt) ∙ look ∙ here in
    let b : reach (next more) ≡ 1 = ap reach a in absurd (omega (arith, ends))
armed_by found value ts here x c more (other ∷ others) whole fits spelt ends look =
    let (s, c', e1, is, later) = kinds_cons c (t.Word w.If) (other_spelling other ++ others_spelling others) spelt in
    let (c3, c4, e2, is3, is4) = kinds_split c' (other_spelling other) (others_spelling others) later in
    let arm : Arm Expr = record { value = value; condition = other.0 } in (
      tt,
      s ∷ [],
      c',
      (s, is, refl),
      (
        other,
        c3,
        c4,
        other_back other c3 fits.0 is3,
        record {
          others = others;
          whole = whole ∙ ap (λ v. with_arms v (last_of other.1 others)) (sym (append_assoc found (arm ∷ []) (arms_of other.1 others)));
          fits = fits.1;
          spelt = is4;
        },
        e2,
      ),
      e1,
    )

none_there : (found : List (Arm Expr)) (value x : Expr) (c : Input) → Just (with_arms found value) x c → AreArms found value x c
unfolding arms_of last_of
none_there found value x c (is, none) = record { others = []; whole = is ∙ ap (λ v. with_arms v value) (sym (append-nil found)); fits = tt; spelt = ap kinds none }

none_by : (found : List (Arm Expr)) (value : Expr) (ts : Input) → next ts ≢ Some (t.Word w.If) → (x : Expr) (c more : Input) (others : List Other)
    → x ≡ with_arms (found ++ arms_of value others) (last_of value others) → kinds c ≡ others_spelling others → next (c ++ more) ≡ next ts → Just (with_arms found value) x c
unfolding arms_of last_of
none_by found value ts none x c more [] whole spelt look = (whole ∙ ap (λ v. with_arms v value) (append-nil found), kinds_none c spelt)
none_by found value ts none x c more (other ∷ others) whole spelt look =
    absurd (none (sym look ∙ next_kind c more (t.Word w.If) (other_spelling other ++ others_spelling others) spelt))

-- where no `if` comes next, nothing follows
none_exact : (found : List (Arm Expr)) (value : Expr) (ts : Input) → next ts ≢ Some (t.Word w.If) → Exact (AreArms found value) (Ends 0) ts (Ok (with_arms found value, ts))
none_exact found value ts none =
    exact_by (Just (with_arms found value)) (AreArms found value) (Ends 0) ts (none_there found value)
    (λ x c more arms ends look. none_by found value ts none x c more arms.others arms.whole arms.spelt look)
    (Ok (with_arms found value, ts)) (exact_pure (with_arms found value) (Ends 0) ts)

-- the arms go on with a value that stands before them
arms_begin : (c more : Input) (others : List Other) → kinds c ≡ others_spelling others → Ends 0 more → Ends 1 (c ++ more)
unfolding Ends
arms_begin c more [] spelt ends = let a : reach (next (c ++ more)) ≡ reach (next more) = ap reach (none_next c more spelt) in omega (arith, ends)
arms_begin c more (other ∷ others) spelt ends =
    let a : reach (next (c ++ more)) ≡ 1 = ap reach (next_kind c more (t.Word w.If) (other_spelling other ++ others_spelling others) spelt) in omega arith

module _ (expr : Level → Reader Expr) (bound : ℕ) (ors : ReadsBelow expr bound level.Or) where
  arms_exact : (n : ℕ) (found : List (Arm Expr)) (value : Expr) (ts : Input) → length ts ≤ n → length ts ≤ bound
      → Exact (AreArms found value) (Ends 0) ts (arms_from expr n found value ts)
  unfolding arms_from
  arms_exact zero found value [] few small = none_exact found value [] (λ none. cc)
  arms_exact zero found value (s ∷ ts) few small = absurd (omega arith)
  arms_exact (suc n) found value ts few small =
      exact_eat_word (AreArms found value) (Ends 0)
      (λ ts'. and_then (alternative expr ts') (λ other. arms_from expr n (with_arm found value other.0) other.1))
      (pure (with_arms found value)) ts w.If
      (λ here. exact_by (Armed found value) (AreArms found value) (Ends 0) ts (armed_there found value)
      (λ x c more arms ends look. armed_by found value ts here x c more arms.others arms.whole arms.fits arms.spelt ends look)
      _
      (exact_token_then (t.Word w.If) (Arms found value) (Ends 0) (some_arms found value) ts
      (λ ts'. and_then (alternative expr ts') (λ other. arms_from expr n (with_arm found value other.0) other.1))
      (λ left less. exact_then IsOther (λ other. AreArms (with_arm found value other.0) other.1) (Ends 1) (Ends 0)
      (λ other x c1 c2 more _ arms ends. arms_begin c2 more arms.others arms.spelt ends)
      (λ other c r. (with_arms (with_arm found value other.0) other.1, [], none_there (with_arm found value other.0) other.1 _ [] (refl, refl)))
      left (alternative expr left) (λ other. arms_from expr n (with_arm found value other.0) other.1)
      (other_exact expr bound ors left (omega arith))
      (λ other left2 taken2 split2 _. let a = length_after left taken2 left2 split2 in
      arms_exact n (with_arm found value other.0) other.1 left2 (omega arith) (omega arith)))
      here))
      (λ none. none_exact found value ts none)

-- ---- a whole test

-- a value and what follows it are spelled as the arms and the last value
regrouped : (a b c d : Tokens) → a ++ ((t.Word w.If ∷ (b ++ t.Word w.Else ∷ c)) ++ d) ≡ (a ++ t.Word w.If ∷ (b ++ t.Word w.Else ∷ [])) ++ (c ++ d)
regrouped a b c d = simp append_assoc

spelled_again : (value : Expr) (others : List Other)
    → expr_spelling value ++ others_spelling others ≡ flat_map expr_arm_spelling (arms_of value others) ++ expr_spelling (last_of value others)
unfolding arms_of last_of
spelled_again value [] = append-nil (expr_spelling value)
spelled_again value (other ∷ others) =
    let arm : Arm Expr = record { value = value; condition = other.0 } in
    regrouped (expr_spelling value) (expr_spelling other.0) (expr_spelling other.1) (others_spelling others)
    ∙ ap (λ v. expr_arm_spelling arm ++ v) (spelled_again other.1 others)
    ∙ sym (append_assoc (expr_arm_spelling arm) (flat_map expr_arm_spelling (arms_of other.1 others)) (expr_spelling (last_of other.1 others)))

arms_fit : (value : Expr) (others : List Other) → 1 ≤ rank value → AllByRecursion OtherFits others
    → AllByRecursion ArmFits (arms_of value others) × (1 ≤ rank (last_of value others))
unfolding arms_of last_of
arms_fit value [] high fits = (tt, high)
arms_fit value (other ∷ others) high fits =
    let (later, last) = arms_fit other.1 others fits.0.value_high fits.1 in (((high, fits.0.condition_high), later), last)

arms_levelled : (value : Expr) (others : List Other) → IsLevelled value → AllByRecursion OtherFits others
    → AllByRecursion (EachArm IsLevelled) (arms_of value others) × IsLevelled (last_of value others)
unfolding arms_of last_of
arms_levelled value [] levelled fits = (tt, levelled)
arms_levelled value (other ∷ others) levelled fits =
    let (later, last) = arms_levelled other.1 others fits.0.value fits.1 in (((levelled, fits.0.condition), later), last)

whole_by : (x value : Expr) (c : Input) (others : List Other) → IsLevelled value → 1 ≤ rank value → x ≡ with_arms (arms_of value others) (last_of value others)
    → AllByRecursion OtherFits others → kinds c ≡ expr_spelling value ++ others_spelling others → IsExpr 0 x c
unfolding arms_of last_of
whole_by x value c [] levelled high whole fits spelt =
    record { levelled = subst IsLevelled (sym whole) levelled; high = omega arith; spelt = spelt ∙ append-nil (expr_spelling value) ∙ ap expr_spelling (sym whole) }
whole_by x value c (other ∷ others) levelled high whole fits spelt =
    let arms : List (Arm Expr) = arms_of value (other ∷ others) in
    let last : Expr = last_of value (other ∷ others) in
    let (fit, last_fits) = arms_fit value (other ∷ others) high fits in
    let (each, last_levelled) = arms_levelled value (other ∷ others) levelled fits in
    made_is 0 (Expr-F.Conditional arms last) x c (e.rolls-Conditional arms last ∙ sym whole) (omega arith) ((λ none. cc), fit, last_fits) (each, last_levelled)
    (spelt ∙ spelled_again value (other ∷ others))

test_there : (x : Expr) (c : Input) → Then (IsExpr 1) (AreArms []) x c → IsExpr 0 x c
test_there x c (value, c1, c2, r, arms, split) =
    whole_by x value c arms.others r.levelled r.high arms.whole arms.fits
    (ap kinds split ∙ kinds_append c1 c2 ∙ ap (λ v. v ++ kinds c2) r.spelt ∙ ap (λ v. expr_spelling value ++ v) arms.spelt)

-- arms and a last value, as what follows the first value
record Unrolled (arm : Arm Expr) (arms : List (Arm Expr)) (last : Expr) : Type 0 where
  pub others : List Other
  pub arms_are : arms_of arm.value others ≡ arm ∷ arms
  pub last_is : last_of arm.value others ≡ last
  pub fits : AllByRecursion OtherFits others

unrolled : (arm : Arm Expr) (arms : List (Arm Expr)) (last : Expr) → AllByRecursion ArmFits (arm ∷ arms) → AllByRecursion (EachArm IsLevelled) (arm ∷ arms) → 1 ≤ rank last → IsLevelled last
    → Unrolled arm arms last
unfolding arms_of last_of
unrolled arm [] last fits each high levelled = record {
  others = (arm.condition, last) ∷ [];
  arms_are = refl;
  last_is = refl;
  fits = (record { condition = each.0.1; condition_high = fits.0.1; value = levelled; value_high = high }, tt);
}
unrolled arm (later ∷ arms) last fits each high levelled =
    let more = unrolled later arms last fits.1 each.1 high levelled in
    record {
      others = (arm.condition, later.value) ∷ more.others;
      arms_are = ap (λ v. arm ∷ v) more.arms_are;
      last_is = more.last_is;
      fits = (record { condition = each.0.1; condition_high = fits.0.1; value = each.1.0.0; value_high = fits.1.0.0 }, more.fits);
    }

test_by_layer : (x : Expr) (c : Input) (d : Expr-F Expr) → roll-Expr d ≡ x → layer_rank d ≡ 0 → Fits d → Each IsLevelled d → kinds c ≡ parts_spelling d → Then (IsExpr 1) (AreArms []) x c
test_by_layer x c (Expr-F.Conditional [] last) whole level fits each spelt = absurd (fits.0 refl)
test_by_layer x c (Expr-F.Conditional (arm ∷ arms) last) whole level fits each spelt =
    let more = unrolled arm arms last fits.1 each.0 fits.2 each.1 in
    let x_is : x ≡ with_arms (arms_of arm.value more.others) (last_of arm.value more.others) =
    sym whole ∙ e.rolls-Conditional (arm ∷ arms) last ∙ ap (λ v. with_arms v last) (sym more.arms_are) ∙ ap (λ v. with_arms (arms_of arm.value more.others) v) (sym more.last_is) in
    let all : kinds c ≡ expr_spelling arm.value ++ others_spelling more.others =
    spelt ∙ ap (λ v. flat_map expr_arm_spelling v ++ expr_spelling last) (sym more.arms_are)
    ∙ ap (λ v. flat_map expr_arm_spelling (arms_of arm.value more.others) ++ expr_spelling v) (sym more.last_is) ∙ sym (spelled_again arm.value more.others) in
    let (c1, c2, split, is1, is2) = kinds_split c (expr_spelling arm.value) (others_spelling more.others) all in (
      arm.value,
      c1,
      c2,
      record { levelled = each.0.0.0; high = fits.1.0.0; spelt = is1 },
      record { others = more.others; whole = x_is; fits = more.fits; spelt = is2 },
      split,
    )
test_by_layer x c (Expr-F.Chain l first links) whole level fits each spelt = absurd (let a = rank_few l in omega arith)
test_by_layer x c _ whole level fits each spelt = absurd (omega arith)

test_back : (x : Expr) (c : Input) → IsExpr 0 x c → Then (IsExpr 1) (AreArms []) x c
unfolding arms_of last_of
test_back x c h = elim (node_or_higher 0 x c h) [
  | inl high ↦ (x, c, [], high, record { others = []; whole = refl; fits = tt; spelt = refl }, sym (append-nil c))
  | inr node ↦ test_by_layer x c node.layer node.whole node.level node.fits node.each node.spelt
]

module _ (expr : Level → Reader Expr) (bound : ℕ) (ors : ReadsBelow expr bound level.Or) where
  -- conditionals are read exactly, if their parts are
  pub test_exact : (ts : Input) → length ts ≤ bound → Exact (IsExpr 0) (Ends 0) ts (whole_test expr ts)
  unfolding whole_test
  test_exact ts few =
      exact_same (Then (IsExpr 1) (AreArms [])) (IsExpr 0) (Ends 0) test_there test_back ts _
      (exact_then (IsExpr 1) (AreArms []) (Ends 1) (Ends 0)
      (λ value x c1 c2 more _ arms ends. arms_begin c2 more arms.others arms.spelt ends)
      (λ value c r. (value, [], none_there [] value value [] (refl, refl)))
      ts (expr level.Or ts) (λ value ts'. arms_from expr (length ts') [] value ts') (ors ts few)
      (λ value left taken split _. arms_exact expr bound ors (length left) [] value left (omega arith) (let a = length_after ts taken left split in omega arith)))
