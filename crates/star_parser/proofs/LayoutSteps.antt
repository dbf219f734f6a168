-- The readers of the tokens between statements are exact, and so are readers that give the line of their first token.
use Rattle.std.proofs.Common.{◌≡◌, ◌≢◌, ◌∙◌, ℕ, ◌<◌, Bool, true, false, [], ◌∷◌, ◌++◌, Option, Some, Ok, Err, refl, sym, ap, subst, length}
use Rattle.std.specs.Prelude.{if◌then◌else◌}
use Rattle.star_syntax.specs.declared.token.Token.{Token}
use Rattle.star_syntax.specs.declared.token.Token.TheVariants as t
use Rattle.star_parser.specs.Reading.{Input, Outcome, Reader, and_then, ◌>>◌, pure, next, skip, kinds}
use Rattle.star_parser.specs.StatementTables.{is_newline, is_indent, is_dedent, is_end, eat_by, expect_by, first_line}
use Rattle.star_parser.proofs.Exact.{Exact, Then, Just, exact_then, exact_pure}
use Rattle.star_parser.proofs.Steps.{Tok, some_token, exact_token_then, exact_expect_by}
use Rattle.star_parser.proofs.Rules.{kinds_cons, kinds_none, length_less}
use Rattle.star_parser.proofs.Bracketed.{Any}

-- ---- the tokens that the tests are of

-- the test of Newline holds of no other token
pub newline_is : (k : Option Token) → is_newline k ≡ true → k ≡ Some t.Newline
newline_is (Some t.Newline) h = refl
newline_is _ h = absurd cc

-- the test of Indent holds of no other token
pub indent_is : (k : Option Token) → is_indent k ≡ true → k ≡ Some t.Indent
indent_is (Some t.Indent) h = refl
indent_is _ h = absurd cc

-- the test of Dedent holds of no other token
pub dedent_is : (k : Option Token) → is_dedent k ≡ true → k ≡ Some t.Dedent
dedent_is (Some t.Dedent) h = refl
dedent_is _ h = absurd cc

-- the test of End holds of no other token
pub end_is : (k : Option Token) → is_end k ≡ true → k ≡ Some t.End
end_is (Some t.End) h = refl
end_is _ h = absurd cc

-- ---- a token that ends something

-- a token, and then this tree
abbrev pub Closed : {T : Type 0} → Token → T → T → Input → Type 0
Closed k x = Then (Tok k) (λ _. Just x)

-- the tree and the tokens, where a token ends something
pub closed_there : {T : Type 0} (k : Token) (x y : T) (c : Input) → Closed k x y c → (y ≡ x) × (kinds c ≡ k ∷ [])
closed_there k x y c (u, c1, c2, (s, is, one), (y_is, none), split) =
    (y_is, ap kinds (split ∙ ap (λ v. v ++ c2) one ∙ ap (λ v. s ∷ v) none) ∙ ap (λ v. v ∷ []) is)

-- a token that ends something, from its kind
pub closed_back : {T : Type 0} (k : Token) (x y : T) (c : Input) → y ≡ x → kinds c ≡ k ∷ [] → Closed k x y c
closed_back k x y c is spelt =
    let (s, c', split, is1, none) = kinds_cons c k [] spelt in
    (tt, s ∷ [], c', (s, is1, refl), (is, kinds_none c' none), split)

-- some such token
pub some_closed : {T : Type 0} (k : Token) (x : T) → (y : T) × (c : Input) × Closed k x y c
some_closed k x = let s = some_token k in (x, s ∷ [], closed_back k x x (s ∷ []) refl refl)

-- the reader of a token that ends something is exact, where the token comes next
pub closed_exact : {T : Type 0} (k : Token) (x : T) (ts : Input) → next ts ≡ Some k → Exact (Closed k x) Any ts ((skip >> pure x) ts)
closed_exact k x ts here = exact_token_then k (Just x) Any (x, [], (refl, refl)) ts (pure x) (λ left _. exact_pure x Any left) here

-- ---- a token is eaten, if it comes next: a choice

module _ {T : Type 0} (Q : T → Input → Type 0) (Ends : Input → Type 0) (p q : Reader T) (ts : Input)
    (is_it : Option Token → Bool) (k : Token) (found : (o : Option Token) → is_it o ≡ true → o ≡ Some k) (itself : is_it (Some k) ≡ true) where
  eaten : (b : Bool) → is_it (next ts) ≡ b → (next ts ≡ Some k → Exact Q Ends ts ((skip >> p) ts)) → (next ts ≢ Some k → Exact Q Ends ts (q ts))
      → Exact Q Ends ts (and_then ((if b then skip >> pure true else pure false) ts) (λ so. if so then p else q))
  eaten true is if_so if_not = if_so (found (next ts) is)
  eaten false is if_so if_not = if_not (λ e. let both : true ≡ false = sym itself ∙ ap is_it (sym e) ∙ is in cc)

  -- one reader where the token comes next, and another where it does not
  pub exact_eat_by : (next ts ≡ Some k → Exact Q Ends ts ((skip >> p) ts)) → (next ts ≢ Some k → Exact Q Ends ts (q ts))
      → Exact Q Ends ts (and_then (eat_by is_it ts) (λ so. if so then p else q))
  exact_eat_by if_so if_not = eaten (is_it (next ts)) refl if_so if_not

-- ---- a token is expected, and then the rest of a rule

module _ {T : Type 0} (RT : T → Input → Type 0) (ET : Input → Type 0) (some : (x : T) × (c : Input) × RT x c) (ts : Input) (p : Reader T)
    (later : (left : Input) → length left < length ts → Exact RT ET left (p left))
    (is_it : Option Token → Bool) (k : Token) (found : (o : Option Token) → is_it o ≡ true → o ≡ Some k) (itself : is_it (Some k) ≡ true) where
  -- the token is expected, and then what follows it is read
  pub exact_expect_by_then : Exact (Then (Tok k) (λ _. RT)) ET ts ((expect_by is_it >> p) ts)
  exact_expect_by_then =
      exact_then (Tok k) (λ _. RT) (λ _. Unit {0}) ET (λ _ _ _ _ _ _ _ _. tt) (λ _ _ _. some) ts (expect_by is_it ts) (λ _. p)
      (exact_expect_by k (λ _. Unit {0}) ts (is_it (next ts)) (found (next ts)) (λ h. ap is_it h ∙ itself))
      (λ _ left taken split (s, is, one). later left (length_less ts taken left split (λ none. let a : [] ≡ s ∷ [] = sym none ∙ one in cc)))

-- ---- the line of the first token

-- what follows tokens does not change the line of the first of them
pub first_line_after : (c more : Input) → c ≢ [] → first_line (c ++ more) ≡ first_line c
first_line_after [] more some = absurd (some refl)
first_line_after (s ∷ c) more some = refl

-- A rule that holds the line of the first token. It speaks of some token, and each of its trees may stand on each line.
module _ {T : Type 0} (R : ℕ → T → Input → Type 0) (Ends : Input → Type 0)
    (some : (line : ℕ) (x : T) (c : Input) → R line x c → c ≢ [])
    (again : (line other : ℕ) (x : T) (c : Input) → R line x c → (y : T) × R other y c) where
  -- the rule, with the line of the first token
  abbrev pub Here : T → Input → Type 0
  Here x c = R (first_line c) x c

  -- a reader that is given the line of the first token is exact
  pub exact_here : (ts : Input) (o : Outcome T) → Exact (R (first_line ts)) Ends ts o → Exact Here Ends ts o
  unfolding Exact
  exact_here ts (Ok (x, left)) r = record {
    taken = r.taken;
    whole = r.whole;
    spelt = subst (λ n. R n x r.taken) (same_line (first_line ts) x r.spelt) r.spelt;
    only = λ y c more w q ends same look.
        let e : first_line c ≡ first_line ts =
        sym (first_line_after c more (some (first_line c) y c q)) ∙ ap first_line same ∙ first_line_after r.taken w (some (first_line ts) x r.taken r.spelt)
        ∙ sym (same_line (first_line ts) x r.spelt) in
        r.only y c more w (subst (λ n. R n y c) e q) ends same look;
  }
    where
      same_line : (n : ℕ) (z : T) → R n z r.taken → first_line ts ≡ first_line r.taken
      same_line n z q = ap first_line r.whole ∙ first_line_after r.taken left (some n z r.taken q)
  exact_here ts (Err left) r = record {
    taken = r.taken;
    whole = r.whole;
    viable = let (x, c, more, q, e) = r.viable in let (y, q') = again (first_line ts) (first_line c) x c q in (y, c, more, q', e);
    dead = λ x c more w q ends same look. let (y, q') = again (first_line c) (first_line ts) x c q in r.dead y c more w q' ends same look;
  }
