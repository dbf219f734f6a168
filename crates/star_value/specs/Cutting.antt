-- A text that is cut in two where another stands.
use Rattle.std.specs.Prelude.{◌≡◌, ℕ, Bool, true, List, [], ◌∷◌, ◌++◌, length, Option, Some, None}
use Rattle.std.specs.Borrow.{Bor}
use Rattle.std.specs.Str.{IsUtf8, NonePass, chars}
use Rattle.star_value.specs.Texts.{find}

-- `before` spells what comes before the first place of `by` in a text, and `after` what comes after that `by`
pub record IsCut (text by before after : List ℕ) : Type 0 where
  pub place : find text by ≡ Some (length (chars before))
  pub parts : text ≡ chars before ++ (by ++ chars after)
  pub spelt : IsUtf8 after

-- the text is cut in two, or `by` stands nowhere in it
abbrev pub CutsAt : List ℕ → List ℕ → Option (Bor (List ℕ) × Bor (List ℕ)) → Type 0
CutsAt text by None = find text by ≡ None
CutsAt text by (Some cut) = IsCut text by cut.0.now cut.1.now

-- `before` spells what comes before the first code point of a text that passes a test, and `after` what comes after it
pub record IsPointCut (test : ℕ → Bool) (text before after : List ℕ) : Type 0 where
  pub point : ℕ
  pub passes : test point ≡ true
  pub first : NonePass test (chars before)
  pub parts : text ≡ chars before ++ point ∷ chars after
  pub spelt : IsUtf8 after

-- the text is cut in two at such a code point, or it has none
abbrev pub CutsAtPoint : (ℕ → Bool) → List ℕ → Option (Bor (List ℕ) × Bor (List ℕ)) → Type 0
CutsAtPoint test text None = NonePass test text
CutsAtPoint test text (Some cut) = IsPointCut test text cut.0.now cut.1.now

-- the first code point of a text and what comes after it, or that the text is empty
abbrev pub CutsFirst : List ℕ → Option (ℕ × Bor (List ℕ)) → Type 0
CutsFirst text None = text ≡ []
CutsFirst text (Some cut) = (text ≡ cut.0 ∷ chars cut.1.now) × IsUtf8 cut.1.now
