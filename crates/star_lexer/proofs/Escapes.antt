-- An escape's first character says how long it is.
use Rattle.std.proofs.Common.{◌≡◌, ℕ, suc, ◌==◌, Bool, true, false, cond, ◌⊎◌, inl, inr, [], ◌∷◌, ◌++◌, length, take, drop, Option, Some, None, refl, sym, ap, ◌∙◌, take-append-drop, eqb-true}
use Rattle.star_lexer.specs.Chars.{Chars, first}
use Rattle.star_lexer.specs.Pieces.{NoEscape}
use Rattle.star_lexer.specs.Texts.{escape, escape_len, code, short_escape}
use Rattle.star_lexer.proofs.Runs.{both_true}
use Rattle.star_lexer.proofs.Whole.{take_front}

some_test : (b : Bool) (v w : Chars) → cond b (Some v) None ≡ Some w → b ≡ true
some_test true v w e = refl
some_test false v w e = cc

code_long : (count most : ℕ) (ds v : Chars) → code count most ds ≡ Some v → length ds ≡ count
unfolding code
code_long count most ds v e = eqb-true (length ds) count (both_true (length ds == count) _ (some_test _ _ v e)).0

-- the length of an escape, by the tests of its first character
long_by : (a b d z : Bool) (c n : ℕ) (ds v : Chars) → length ds ≡ n → (n == 0) ≡ z → cond a (code 2 0x7F ds) (cond b (code 4 0x10FFFF ds) (cond d (code 8 0x10FFFF ds) (cond z (short_escape c) None))) ≡ Some v → suc (length ds) ≡ cond a 3 (cond b 5 (cond d 9 1))
long_by true b d z c n ds v long is e = ap suc (code_long 2 0x7F ds v e)
long_by false true d z c n ds v long is e = ap suc (code_long 4 0x10FFFF ds v e)
long_by false false true z c n ds v long is e = ap suc (code_long 8 0x10FFFF ds v e)
long_by false false false true c n ds v long is e = ap suc (long ∙ eqb-true n 0 is)
long_by false false false false c n ds v long is e = cc

escape_len_is : (c : ℕ) (ds v : Chars) → escape (c ∷ ds) ≡ Some v → suc (length ds) ≡ escape_len c
unfolding escape
escape_len_is c ds v e = long_by (c == 120) (c == 117) (c == 85) (length ds == 0) c (length ds) ds v refl refl e

-- an escape is what its first character announces
pub escape_long : (w v more : Chars) → escape w ≡ Some v → take (escape_len (first (w ++ more))) (w ++ more) ≡ w
unfolding escape
escape_long [] v more e = cc
escape_long (c ∷ ds) v more e = ap (λ n. take n (c ∷ (ds ++ more))) (sym (escape_len_is c ds v e)) ∙ take_front (c ∷ ds) more

-- an escape stands at the front, or none does
abbrev pub NextEscape : Chars → Type 0
NextEscape text = ((w v : Chars) × (n : ℕ) × (escape w ≡ Some v) × (text ≡ w ++ drop n text)) ⊎ NoEscape text

no_other : (text : Chars) → escape (take (escape_len (first text)) text) ≡ None → NoEscape text
no_other text none w more whole = by_value (escape w) refl where
  by_value : (o : Option Chars) → escape w ≡ o → escape w ≡ None
  by_value None e = e
  by_value (Some v) e =
      let same : take (escape_len (first text)) text ≡ w = ap (λ text. take (escape_len (first text)) text) whole ∙ escape_long w v more e in
      let no : Some v ≡ None = sym e ∙ ap escape (sym same) ∙ none in cc

next_by : (text : Chars) (o : Option Chars) → escape (take (escape_len (first text)) text) ≡ o → NextEscape text
next_by text (Some v) e = inl (take (escape_len (first text)) text, v, escape_len (first text), e, sym (take-append-drop (escape_len (first text)) text))
next_by text None e = inr (no_other text e)

pub next_escape : (text : Chars) → NextEscape text
next_escape text = next_by text (escape (take (escape_len (first text)) text)) refl
