-- What the reader of a text answers.
use Rattle.std.proofs.Common.{◌≡◌, ◌≢◌, ℕ, ◌+◌, ◌≤◌, ◌==◌, true, [], ◌∷◌, length, drop, Ok, Err, refl, ap, le_refl, arith}
use Rattle.star_lexer.specs.declared.error.LexKind.TheVariants.{BadCharacter}
use Rattle.star_lexer.specs.declared.literal.TextFault.TheVariants as f
use Rattle.star_lexer.specs.declared.literal.Style.{Style}
use Rattle.star_lexer.specs.Chars.{Chars, begins}
use Rattle.star_lexer.specs.Flaws.{Flaw}
use Rattle.star_lexer.specs.Texts.{Inside, far, blamed, content, literal, style_at, opening, delimiter}
use Rattle.star_lexer.proofs.Parts.{ContentIs, content_found}
use Rattle.star_lexer.proofs.Runs.{both_true}
use Rattle.star_lexer.proofs.Whole.{ok_same, err_same}

-- what begins with two quotes begins with one
pub begins_less : (c : ℕ) (text : Chars) → begins text (c ∷ c ∷ []) ≡ true → begins text (c ∷ []) ≡ true
begins_less c [] h = h
begins_less c (d ∷ ds) h = let head = (both_true (d == c) (begins ds (c ∷ [])) h).0 in rw head refl

pub content_is : (q : Style) (text : Chars) → ContentIs q text (content q 0 text)
content_is q text = content_found q (length text) text (le_refl _)

long_by : (q : Style) (text : Chars) (k : ℕ) (r : Inside Chars) (p : Chars × ℕ) → ContentIs q text r → blamed (far k r) ≡ Ok p → k + length (delimiter q) ≤ p.1
long_by q text k (Ok x) p found e =
    let (parts, more, inner, value, long) = found in
    let same = ap (λ (p : Chars × ℕ). p.1) (ok_same (x.0, k + x.1) p e) in
    omega (arith, long, same)
long_by q text k (Err (f.Open, n)) p found e = cc
long_by q text k (Err (f.Escape, n)) p found e = cc

-- a text has its quotes at both ends
pub literal_long : (text : Chars) (p : Chars × ℕ) → literal text ≡ Ok p → length (opening (style_at text)) + length (delimiter (style_at text)) ≤ p.1
unfolding literal
literal_long text p e =
    let q = style_at text in
    let n = length (opening q) in
    long_by q (drop n text) n (content q 0 (drop n text)) p (content_is q (drop n text)) e

bad_by : (k : ℕ) (r : Inside Chars) (bad : Flaw) → blamed (far k r) ≡ Err bad → bad.0 ≢ BadCharacter
bad_by k (Ok x) bad e h = cc
bad_by k (Err (f.Open, n)) bad e h = let same = ap (λ (p : Flaw). p.0) (err_same _ bad e) in cc
bad_by k (Err (f.Escape, n)) bad e h = let same = ap (λ (p : Flaw). p.0) (err_same _ bad e) in cc

pub literal_bad : (text : Chars) (bad : Flaw) → literal text ≡ Err bad → bad.0 ≢ BadCharacter
unfolding literal
literal_bad text bad e = bad_by (length (opening (style_at text))) (content (style_at text) 0 (drop (length (opening (style_at text))) text)) bad e
