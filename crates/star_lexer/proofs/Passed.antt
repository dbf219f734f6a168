-- What is passed over.
use Rattle.std.proofs.Common.{◌≡◌, ℕ, suc, ◌≤◌, ◌&&◌, ◌==◌, Bool, true, false, cond, [], ◌∷◌, ◌++◌, length, length-append, get_or, drop, refl, sym, ap, ◌∙◌, append_assoc, eqb-true, arith}
use Rattle.std.specs.Prelude.{filter}
use Rattle.std.proofs.lemmas.List.Sums.{length-filter}
use Rattle.star_lexer.specs.Chars.{Chars, newline, newlines, first, passed_over}
use Rattle.star_lexer.proofs.Runs.{both_true}

short_by : (b : Bool) (c : ℕ) (xs : Chars) (n : ℕ) → length xs ≤ n → length (cond b xs (c ∷ xs)) ≤ suc n
short_by true c xs n few = omega arith
short_by false c xs n few = omega arith

pub passed_short : (text : Chars) → length (passed_over text) ≤ length text
passed_short [] = omega arith
passed_short (c ∷ cs) = short_by (c == 13 && first cs == newline) c (passed_over cs) (length cs) (passed_short cs)

-- one turn of the loop
pub passed_turn : (c : ℕ) (cs out all : Chars) (b : Bool) → (c == 13 && first cs == newline) ≡ b → out ++ passed_over (c ∷ cs) ≡ all → (out ++ cond b [] (c ∷ [])) ++ passed_over cs ≡ all
passed_turn c cs out all true e same = append_assoc out [] (passed_over cs) ∙ ap (λ b. out ++ cond b (passed_over cs) (c ∷ passed_over cs)) (sym e) ∙ same
passed_turn c cs out all false e same = append_assoc out (c ∷ []) (passed_over cs) ∙ ap (λ b. out ++ cond b (passed_over cs) (c ∷ passed_over cs)) (sym e) ∙ same

cons_by : (b : Bool) (c : ℕ) (ys : Chars) (n : ℕ) → length ys ≡ n → length (cond b (c ∷ ys) ys) ≡ cond b (suc n) n
cons_by true c ys n e = ap suc e
cons_by false c ys n e = e

newlines-cons : (c : ℕ) (cs : Chars) → newlines (c ∷ cs) ≡ cond (c == newline) (suc (newlines cs)) (newlines cs)
newlines-cons c cs =
    sym (length-filter (λ c. c == newline) (c ∷ cs))
    ∙ cons_by (c == newline) c (filter (λ c. c == newline) cs) (newlines cs) (length-filter (λ c. c == newline) cs)

lines_by : (b : Bool) (c : ℕ) (xs cs : Chars) → (b ≡ true → (c == newline) ≡ false) → newlines xs ≡ newlines cs → newlines (cond b xs (c ∷ xs)) ≡ newlines (c ∷ cs)
lines_by true c xs cs plain e = e ∙ sym (newlines-cons c cs ∙ ap (λ b. cond b (suc (newlines cs)) (newlines cs)) (plain refl))
lines_by false c xs cs plain e = newlines-cons c xs ∙ ap (λ n. cond (c == newline) (suc n) n) e ∙ sym (newlines-cons c cs)

return_plain : (c : ℕ) (b : Bool) → (c == 13 && b) ≡ true → (c == newline) ≡ false
return_plain c b h = ap (λ c. c == newline) (eqb-true c 13 (both_true (c == 13) b h).0)

-- the lines stay as they are
pub passed_lines : (text : Chars) → newlines (passed_over text) ≡ newlines text
passed_lines [] = refl
passed_lines (c ∷ cs) = lines_by (c == 13 && first cs == newline) c (passed_over cs) cs (return_plain c (first cs == newline)) (passed_lines cs)

-- the same for a list that is known to have a first character
pub passed_step : (left out all : Chars) (x : ℕ) (b : Bool) → 1 ≤ length left → x ≡ get_or left 0 x → (x == 13 && first (drop 1 left) == newline) ≡ b → out ++ passed_over left ≡ all → (out ++ cond b [] (x ∷ [])) ++ passed_over (drop 1 left) ≡ all
passed_step [] out all x b some is e same = absurd (omega arith)
passed_step (c ∷ cs) out all x b some is e same = passed_turn x cs out all b e (ap (λ x. out ++ passed_over (x ∷ cs)) is ∙ same)

pub passed_few : (text out source : Chars) → text ++ out ≡ passed_over source → length text ≤ length source
passed_few text out source e = let l = ap length e in omega (arith, l, length-append text out, passed_short source)
