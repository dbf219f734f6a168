-- The readers of single tokens are exact.
use Rattle.std.proofs.Common.{◌≡◌, ◌≢◌, ◌∙◌, Bool, true, false, [], ◌∷◌, ◌++◌, Option, Some, None, refl, sym, ap, subst, length, ◌<◌}
use Rattle.std.specs.Prelude.{if◌then◌else◌}
use denote.Enum.Bare.{same_true, true_same}
use Rattle.star_syntax.specs.declared.token.Token.{Token}
use Rattle.star_syntax.specs.declared.token.Token.TheVariants as t
use Rattle.star_syntax.specs.declared.token.Mark.{Mark}
use Rattle.star_syntax.specs.declared.token.Keyword.{Keyword}
use Rattle.star_syntax.specs.declared.token.Spanned.{Spanned}
use Rattle.star_syntax.specs.contracts.token.Mark.{the_type as mark_type}
use Rattle.star_syntax.specs.contracts.token.Keyword.{the_type as word_type}
use Rattle.star_parser.specs.Reading.{Input, Outcome, Reader, and_then, ◌>>◌, pure, refuse, next, skip}
use Rattle.star_parser.specs.Tables.{is_mark, is_word, eat, expect, eat_word, expect_word}
use Rattle.star_parser.proofs.Exact.{Exact, Then, Just, exact_refuse, exact_then, exact_pure}
use Rattle.star_parser.proofs.Rules.{length_less}

pub mark_is : (m : Mark) (o : Option Token) → is_mark m o ≡ true → o ≡ Some (t.Mark m)
unfolding is_mark
mark_is m None h = absurd cc
mark_is m (Some (t.Mark found)) h = ap (λ x. Some (t.Mark x)) (same_true mark_type tt found m h)
mark_is m (Some _) h = absurd cc

pub is_mark_itself : (m : Mark) → is_mark m (Some (t.Mark m)) ≡ true
unfolding is_mark
is_mark_itself m = true_same mark_type m m refl

pub word_is : (w : Keyword) (o : Option Token) → is_word w o ≡ true → o ≡ Some (t.Word w)
unfolding is_word
word_is w None h = absurd cc
word_is w (Some (t.Word found)) h = ap (λ x. Some (t.Word x)) (same_true word_type tt found w h)
word_is w (Some _) h = absurd cc

pub is_word_itself : (w : Keyword) → is_word w (Some (t.Word w)) ≡ true
unfolding is_word
is_word_itself w = true_same word_type w w refl

-- one token of this kind
abbrev pub Tok : Token → Unit {0} → Input → Type 0
Tok k u c = (s : Spanned) × (s.token ≡ k) × (c ≡ s ∷ [])

abbrev pub some_token : Token → Spanned
some_token k = record { token = k; line = 0 }

pub exact_skip : (k : Token) (Ends : Input → Type 0) (ts : Input) → next ts ≡ Some k → Exact (Tok k) Ends ts (skip ts)
unfolding Exact
exact_skip k Ends [] h = absurd cc
exact_skip k Ends (s ∷ ts) h = record {
  taken = s ∷ [];
  whole = refl;
  spelt = (s, cc, refl);
  only = λ u c more w (s', is, e) ends same look.
      let same' : s' ∷ more ≡ s ∷ w = ap (λ x. x ++ more) (sym e) ∙ same in
      (refl, cc);
}

-- a token is expected
pub exact_expect_by : (k : Token) (Ends : Input → Type 0) (ts : Input) (b : Bool) → (b ≡ true → next ts ≡ Some k) → (next ts ≡ Some k → b ≡ true)
    → Exact (Tok k) Ends ts ((if b then skip else refuse) ts)
exact_expect_by k Ends ts true if_so if_not = exact_skip k Ends ts (if_so refl)
exact_expect_by k Ends ts false if_so if_not = exact_refuse (Tok k) Ends ts (tt, some_token k ∷ [], (some_token k, refl, refl))
    (λ u c more (s, is, e) ends look.
    let found : next ts ≡ Some k = sym look ∙ ap (λ x. next (x ++ more)) e ∙ ap Some is in
    absurd (let both : false ≡ true = if_not found in cc))

pub exact_expect : (m : Mark) (Ends : Input → Type 0) (ts : Input) → Exact (Tok (t.Mark m)) Ends ts (expect m ts)
exact_expect m Ends ts = exact_expect_by (t.Mark m) Ends ts (is_mark m (next ts)) (mark_is m (next ts)) (λ h. ap (is_mark m) h ∙ is_mark_itself m)

pub exact_expect_word : (w : Keyword) (Ends : Input → Type 0) (ts : Input) → Exact (Tok (t.Word w)) Ends ts (expect_word w ts)
exact_expect_word w Ends ts = exact_expect_by (t.Word w) Ends ts (is_word w (next ts)) (word_is w (next ts)) (λ h. ap (is_word w) h ∙ is_word_itself w)

-- ---- a token, and then the rest of a rule

module _ {T : Type 0} (k : Token) (RT : T → Input → Type 0) (ET : Input → Type 0) (some : (x : T) × (c : Input) × RT x c) (ts : Input) (p : Reader T)
    (later : (left : Input) → length left < length ts → Exact RT ET left (p left)) where
  after_token : (o : Outcome (Unit {0})) → Exact (Tok k) (λ _. Unit {0}) ts o → Exact (Then (Tok k) (λ _. RT)) ET ts (and_then o (λ _. p))
  after_token o first = exact_then (Tok k) (λ _. RT) (λ _. Unit {0}) ET (λ _ _ _ _ _ _ _ _. tt) (λ _ _ _. some) ts o (λ _. p) first
      (λ _ left taken split (s, is, one). later left (length_less ts taken left split (λ none. let a : [] ≡ s ∷ [] = sym none ∙ one in cc)))

  pub exact_token_then : next ts ≡ Some k → Exact (Then (Tok k) (λ _. RT)) ET ts ((skip >> p) ts)
  exact_token_then here = after_token (skip ts) (exact_skip k (λ _. Unit {0}) ts here)

module _ {T : Type 0} (RT : T → Input → Type 0) (ET : Input → Type 0) (some : (x : T) × (c : Input) × RT x c) (ts : Input) (p : Reader T)
    (later : (left : Input) → length left < length ts → Exact RT ET left (p left)) where
  pub exact_expected_then : (m : Mark) → Exact (Then (Tok (t.Mark m)) (λ _. RT)) ET ts ((expect m >> p) ts)
  exact_expected_then m = after_token (t.Mark m) RT ET some ts p later (expect m ts) (exact_expect m (λ _. Unit {0}) ts)

-- a last part, and then the tree of it
pub exact_last : {A T : Type 0} (RA : A → Input → Type 0) (EA ET : Input → Type 0) (narrow : (more : Input) → ET more → EA more) (make : A → T)
    (ts : Input) (o : Outcome A) → Exact RA EA ts o → Exact (Then RA (λ a. Just (make a))) ET ts (and_then o (λ a. pure (make a)))
exact_last RA EA ET narrow make ts o r =
    exact_then RA (λ a. Just (make a)) EA ET (λ a x c1 c2 more _ (_, none) ends. subst (λ v. EA (v ++ more)) (sym none) (narrow more ends))
    (λ a c _. (make a, [], (refl, refl))) ts o (λ a. pure (make a)) r (λ a left _ _ _. exact_pure (make a) ET left)

-- ---- what begins with a known token

pub token_next : {T : Type 0} (k : Token) (RT : T → Input → Type 0) (x : T) (c more : Input) → Then (Tok k) (λ _. RT) x c → next (c ++ more) ≡ Some k
token_next k RT x c more (u, c1, c2, (s, is, one), later, split) = ap (λ v. next (v ++ more)) (split ∙ ap (λ v. v ++ c2) one) ∙ ap Some is

-- a token is eaten, if it comes next: a choice
module _ {T : Type 0} (Q : T → Input → Type 0) (Ends : Input → Type 0) (p q : Reader T) (ts : Input) where
  eaten_by : (b : Bool) → (b ≡ true → Exact Q Ends ts ((skip >> p) ts)) → (b ≡ false → Exact Q Ends ts (q ts))
      → Exact Q Ends ts (and_then ((if b then skip >> pure true else pure false) ts) (λ found. if found then p else q))
  eaten_by true if_so if_not = if_so refl
  eaten_by false if_so if_not = if_not refl

  pub exact_eat : (m : Mark) → (next ts ≡ Some (t.Mark m) → Exact Q Ends ts ((skip >> p) ts)) → (next ts ≢ Some (t.Mark m) → Exact Q Ends ts (q ts))
      → Exact Q Ends ts (and_then (eat m ts) (λ found. if found then p else q))
  exact_eat m if_so if_not = eaten_by (is_mark m (next ts)) (λ h. if_so (mark_is m (next ts) h))
      (λ h. if_not (λ e. let a = is_mark_itself m in let b : is_mark m (next ts) ≡ true = ap (is_mark m) e ∙ a in absurd cc))

  pub exact_eat_word : (w : Keyword) → (next ts ≡ Some (t.Word w) → Exact Q Ends ts ((skip >> p) ts)) → (next ts ≢ Some (t.Word w) → Exact Q Ends ts (q ts))
      → Exact Q Ends ts (and_then (eat_word w ts) (λ found. if found then p else q))
  exact_eat_word w if_so if_not = eaten_by (is_word w (next ts)) (λ h. if_so (word_is w (next ts) h))
      (λ h. if_not (λ e. let a = is_word_itself w in let b : is_word w (next ts) ≡ true = ap (is_word w) e ∙ a in absurd cc))
