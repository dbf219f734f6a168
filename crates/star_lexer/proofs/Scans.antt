-- The turns of the scan.
use Rattle.std.proofs.Common.{◌≡◌, ℕ, zero, suc, ◌+◌, ◌-◌, ◌<◌, List, [], ◌∷◌, ◌++◌, length, drop, Ok, Err, refl, sym, ap, ◌∙◌, append_assoc, arith}
use Rattle.std.proofs.lemmas.List.{drop-drop}
use Rattle.star_lexer.specs.declared.layout.Layout.{Layout}
use Rattle.star_syntax.specs.declared.token.Spanned.{Spanned}
use Rattle.star_lexer.specs.Chars.{Chars}
use Rattle.star_lexer.specs.Scan.{Lexed, turn, scan, with_prefix}

pub prefix-prefix : {A : Type 0} (xs ys : List A) (r : Lexed (List A)) → with_prefix xs (with_prefix ys r) ≡ with_prefix (xs ++ ys) r
prefix-prefix xs ys (Ok more) = ap Ok (sym (append_assoc xs ys more))
prefix-prefix xs ys (Err e) = refl

pub prefix-nil : {A : Type 0} (r : Lexed (List A)) → r ≡ with_prefix [] r
prefix-nil (Ok more) = refl
prefix-nil (Err e) = refl

scan_skip : (s : Layout) (n : ℕ) (text : Chars) → scan s n text ≡ scan s 0 (drop n text)
scan_skip s zero text = refl
scan_skip s (suc n) [] = refl
scan_skip s (suc n) (c ∷ cs) = scan_skip s n cs

pub scan_turn : (s s2 : Layout) (given : List Spanned) (n : ℕ) (text : Chars) → 0 < length text → 0 < n → turn s text ≡ Ok (record { layout = s2; given = given; len = n }) → scan s 0 text ≡ with_prefix given (scan s2 0 (drop n text))
scan_turn s s2 given n [] some long read = absurd (omega arith)
scan_turn s s2 given n (c ∷ cs) some long read =
    let e : suc (n - 1) ≡ n = omega arith in
    let whole : scan s 0 (c ∷ cs) ≡ with_prefix given (scan s2 (n - 1) cs) = rw read refl in
    whole ∙ ap (with_prefix given) (scan_skip s2 (n - 1) cs ∙ ap (λ m. scan s2 0 (drop m (c ∷ cs))) e)

-- one turn of the loop
pub loop_turn : (first s s2 : Layout) (out given : List Spanned) (at n : ℕ) (text : Chars) → scan first 0 text ≡ with_prefix out (scan s 0 (drop at text)) → 0 < length (drop at text) → 0 < n → turn s (drop at text) ≡ Ok (record { layout = s2; given = given; len = n }) → scan first 0 text ≡ with_prefix (out ++ given) (scan s2 0 (drop (at + n) text))
loop_turn first s s2 out given at n text same some long read =
    same ∙ ap (with_prefix out) (scan_turn s s2 given n (drop at text) some long read) ∙ prefix-prefix out given _
    ∙ ap (λ xs. with_prefix (out ++ given) (scan s2 0 xs)) (drop-drop n at text)
