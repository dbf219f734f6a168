-- What follows an item of a list in brackets is read exactly.
use Rattle.std.proofs.Common.{◌≡◌, ◌≢◌, ◌∙◌, ◌⊎◌, inl, inr, ◌<◌, [], ◌∷◌, ◌++◌, Some, refl, sym, ap, arith, length}
use Rattle.std.specs.Prelude.{if◌then◌else◌}
use Rattle.star_syntax.specs.declared.token.Token.{Token}
use Rattle.star_syntax.specs.declared.token.Token.TheVariants as t
use Rattle.star_syntax.specs.declared.token.Mark.{Mark}
use Rattle.star_syntax.specs.declared.token.Mark.TheVariants as m
use Rattle.star_syntax.specs.declared.token.Spanned.{Spanned}
use Rattle.star_parser.specs.Reading.{Input, Reader, and_then, ◌>>=◌, pure, next, kinds}
use Rattle.star_parser.specs.Tables.{eat, expect}
use Rattle.star_parser.specs.Ends.{reach, Ends}
use Rattle.star_parser.proofs.Exact.{Exact, Then, Just, exact_by}
use Rattle.star_parser.proofs.Steps.{Tok, exact_expected_then, exact_eat, token_next}
use Rattle.star_parser.proofs.Bracketed.{Any, comma, Closes, some_closes, closes_exact}

-- a token, and what is spelled after it
pub token_spelt : (k : Token) (s : Spanned) (c c1 c2 : Input) → s.token ≡ k → c1 ≡ s ∷ [] → c ≡ c1 ++ c2 → kinds c ≡ k ∷ kinds c2
token_spelt k s c c1 c2 is one split = ap kinds (split ∙ ap (λ v. v ++ c2) one) ∙ ap (λ v. v ∷ kinds c2) is

-- a token that goes on with no expression ends each one
pub token_ends : {T : Type 0} (k : Token) → reach (Some k) ≡ 0 → (RT : T → Input → Type 0) (x : T) (c more : Input) → Then (Tok k) (λ _. RT) x c → Ends 0 (c ++ more)
unfolding Ends
token_ends k ends RT x c more r = let a : reach (next (c ++ more)) ≡ 0 = ap reach (token_next k RT x c more r) ∙ ends in omega arith

-- ---- after an item of a list in brackets

-- the bracket after a comma, or what follows there
abbrev pub AfterComma : {T : Type 0} → Mark → T → (T → Input → Type 0) → T → Input → Type 0
AfterComma close b R x c = Closes close b x c ⊎ R x c

-- the bracket, or a comma and what follows it
abbrev pub Tail : {T : Type 0} → Mark → T → T → (T → Input → Type 0) → T → Input → Type 0
Tail close a b R x c = Closes close a x c ⊎ Then (Tok comma) (λ _. AfterComma close b R) x c

-- there is one
pub some_tail : {T : Type 0} (close : Mark) (a b : T) (R : T → Input → Type 0) → (x : T) × (c : Input) × Tail close a b R x c
some_tail close a b R = let (y, c, q) = some_closes close a in (y, c, inl q)

-- an expression ends before it
pub tail_ends : {T : Type 0} (close : Mark) → reach (Some (t.Mark close)) ≡ 0 → (a b : T) (R : T → Input → Type 0) (x : T) (c more : Input) → Tail close a b R x c → Ends 0 (c ++ more)
tail_ends close ends a b R x c more (inl j) = token_ends (t.Mark close) ends (Just a) x c more j
tail_ends close ends a b R x c more (inr j) = token_ends comma refl (AfterComma close b R) x c more j

-- the first token is that of the bracket or a comma
pub tail_next : {T : Type 0} (close : Mark) (a b : T) (R : T → Input → Type 0) (x : T) (c more : Input) → Tail close a b R x c
    → (next (c ++ more) ≡ Some (t.Mark close)) ⊎ (next (c ++ more) ≡ Some comma)
tail_next close a b R x c more (inl j) = inl (token_next (t.Mark close) (Just a) x c more j)
tail_next close a b R x c more (inr j) = inr (token_next comma (AfterComma close b R) x c more j)

module _ {T : Type 0} (close : Mark) (apart : close ≢ m.Comma) (a b : T) (R : T → Input → Type 0)
    (first : (x : T) (c more : Input) → R x c → next (c ++ more) ≢ Some (t.Mark close)) (p : Reader T) (ts : Input)
    (later : (left : Input) → length left < length ts → Exact R Any left (p left)) where
  after_comma_exact : (left : Input) → length left < length ts → Exact (AfterComma close b R) Any left (and_then (eat close left) (λ closed. if closed then pure b else p))
  after_comma_exact left less =
      exact_eat (AfterComma close b R) Any (pure b) p left close
      (λ here. exact_by (Closes close b) (AfterComma close b R) Any left (λ x c j. inl j)
      (λ x c more rule _ look. elim rule [ inl j ↦ j | inr r ↦ absurd (first x c more r (look ∙ here)) ])
      _ (closes_exact close b left here))
      (λ other. exact_by R (AfterComma close b R) Any left (λ x c j. inr j)
      (λ x c more rule _ look. elim rule [ inl j ↦ absurd (other (sym look ∙ token_next (t.Mark close) (Just b) x c more j)) | inr r ↦ r ])
      _ (later left less))

  -- it is read exactly, if what follows a comma is
  pub tail_exact : Exact (Tail close a b R) Any ts (and_then (eat close ts) (λ ended. if ended then pure a else
      (expect m.Comma >>= λ _. eat close >>= λ closed. if closed then pure b else p)))
  tail_exact =
      exact_eat (Tail close a b R) Any (pure a) (expect m.Comma >>= λ _. eat close >>= λ closed. if closed then pure b else p) ts close
      (λ here. exact_by (Closes close a) (Tail close a b R) Any ts (λ x c j. inl j)
      (λ x c more rule _ look. elim rule [
        | inl j ↦ j
        | inr j ↦ absurd (let e : Some comma ≡ Some (t.Mark close) = sym (token_next comma (AfterComma close b R) x c more j) ∙ look ∙ here in apart cc)
      ])
      _ (closes_exact close a ts here))
      (λ other. exact_by (Then (Tok comma) (λ _. AfterComma close b R)) (Tail close a b R) Any ts (λ x c j. inr j)
      (λ x c more rule _ look. elim rule [ inl j ↦ absurd (other (sym look ∙ token_next (t.Mark close) (Just a) x c more j)) | inr j ↦ j ])
      _ (exact_expected_then (AfterComma close b R) Any (let (y, c, q) = some_closes close b in (y, c, inl q)) ts
      (eat close >>= λ closed. if closed then pure b else p) after_comma_exact m.Comma))
