-- The readers of a word and of a name are exact.
use Rattle.std.proofs.Common.{◌≡◌, ◌∙◌, ℕ, ◌<◌, List, [], ◌∷◌, ◌++◌, Option, Some, None, Err, refl, sym, ap, length}
use Rattle.star_syntax.specs.declared.token.Token.{Token}
use Rattle.star_syntax.specs.declared.token.Token.TheVariants as t
use Rattle.star_syntax.specs.declared.token.Keyword.{Keyword}
use Rattle.star_syntax.specs.declared.token.Spanned.{Spanned}
use Rattle.star_parser.specs.Reading.{Input, Reader, ◌>>=◌, ◌>>◌, pure, next}
use Rattle.star_parser.specs.Tables.{expect_word, expect_name, name_by}
use Rattle.star_parser.proofs.Exact.{Exact, Then, Just, exact_refuse, exact_then, exact_by, exact_pure}
use Rattle.star_parser.proofs.Steps.{Tok, some_token, exact_expect_word, exact_token_then}
use Rattle.star_parser.proofs.Rules.{length_less}

-- a word is expected, and then the rest of a rule
module _ {T : Type 0} (RT : T → Input → Type 0) (ET : Input → Type 0) (some : (x : T) × (c : Input) × RT x c) (ts : Input) (p : Reader T)
    (later : (left : Input) → length left < length ts → Exact RT ET left (p left)) where
  -- the word, and then the rest
  pub exact_word_then : (w : Keyword) → Exact (Then (Tok (t.Word w)) (λ _. RT)) ET ts ((expect_word w >> p) ts)
  exact_word_then w =
      exact_then (Tok (t.Word w)) (λ _. RT) (λ _. Unit {0}) ET (λ _ _ _ _ _ _ _ _. tt) (λ _ _ _. some) ts (expect_word w ts) (λ _. p)
      (exact_expect_word w (λ _. Unit {0}) ts)
      (λ _ left taken split (s, is, one). later left (length_less ts taken left split (λ none. let a : [] ≡ s ∷ [] = sym none ∙ one in cc)))

-- ---- names

-- one token, which is this name
abbrev pub NameToken : List ℕ → Input → Type 0
NameToken name c = (s : Spanned) × (s.token ≡ t.Name name) × (c ≡ s ∷ [])

-- some name, and its token
abbrev pub some_name : (name : List ℕ) × (c : Input) × NameToken name c
some_name = ([], some_token (t.Name []) ∷ [], (some_token (t.Name []), refl, refl))

name_in : Option Token → Option (List ℕ)
name_in (Some (t.Name name)) = Some name
name_in _ = None

name_next : (name : List ℕ) (c more : Input) → NameToken name c → next (c ++ more) ≡ Some (t.Name name)
name_next name c more (s, is, one) = ap (λ v. next (v ++ more)) one ∙ ap Some is

no_name : (Ends : Input → Type 0) (ts : Input) → name_in (next ts) ≡ None → Exact NameToken Ends ts (Err ts)
unfolding name_in
no_name Ends ts none = exact_refuse NameToken Ends ts some_name
    (λ name c more r ends look. let a : Some name ≡ None = ap name_in (sym (name_next name c more r) ∙ look) ∙ none in absurd cc)

name_by_exact : (Ends : Input → Type 0) (ts : Input) (k : Option Token) → next ts ≡ k → Exact NameToken Ends ts (name_by k ts)
unfolding name_in
name_by_exact Ends ts (Some (t.Name found)) here =
    exact_by (Then (Tok (t.Name found)) (λ _. Just found)) NameToken Ends ts
    (λ name c (u, c1, c2, (s, is, one), (name_is, none), split).
    (s, is ∙ ap t.Name (sym name_is), split ∙ ap (λ v. v ++ c2) one ∙ ap (λ v. s ∷ v) none))
    (λ name c more (s, is, one) ends look.
    let a : Some (t.Name name) ≡ Some (t.Name found) = sym (name_next name c more (s, is, one)) ∙ look ∙ here in
    let b : name ≡ found = cc in
    (tt, s ∷ [], [], (s, is ∙ ap t.Name b, refl), (b, refl), one))
    _ (exact_token_then (t.Name found) (Just found) Ends (found, [], (refl, refl)) ts (pure found) (λ left _. exact_pure found Ends left) here)
name_by_exact Ends ts None here = no_name Ends ts (ap name_in here)
name_by_exact Ends ts (Some k) here = no_name Ends ts (ap name_in here)

-- a name, whichever it is
pub exact_name : (Ends : Input → Type 0) (ts : Input) → Exact NameToken Ends ts (expect_name ts)
unfolding expect_name
exact_name Ends ts = name_by_exact Ends ts (next ts) refl

-- a name is expected, and then the rest of a rule
pub exact_name_then : {T : Type 0} (RT : List ℕ → T → Input → Type 0) (ET : Input → Type 0) (some : (name : List ℕ) → (x : T) × (c : Input) × RT name x c) (ts : Input)
    (p : List ℕ → Reader T) (later : (name : List ℕ) (left : Input) → length left < length ts → Exact (RT name) ET left (p name left)) → Exact (Then NameToken RT) ET ts ((expect_name >>= p) ts)
exact_name_then RT ET some ts p later =
    exact_then NameToken RT (λ _. Unit {0}) ET (λ _ _ _ _ _ _ _ _. tt) (λ name _ _. some name) ts (expect_name ts) p (exact_name (λ _. Unit {0}) ts)
    (λ name left taken split (s, is, one). later name left (length_less ts taken left split (λ none. let a : [] ≡ s ∷ [] = sym none ∙ one in cc)))
