-- Texts that start or end with another, from what `str` says of their bytes.
use Rattle.std.proofs.Common.{◌≡◌, ℕ, ◌-◌, ◌≤◌, Bool, true, false, List, ◌++◌, length, take, drop, Option, Some, None, refl, sym, ap, ◌∙◌, subst, IsUtf8, inl, inr, arith}
use Rattle.std.specs.Bool.{MatchBool}
use Rattle.std.specs.Prelude.{MatchOption}
use Rattle.std.specs.Borrow.{Bor}
use Rattle.std.specs.Str.{chars, encode_utf8_all, all_scalars}
use Rattle.std.specs.Str.Pattern.{FindsText, FindsTextPrefix, FindsTextSuffix, HasPrefixMatch, HasSuffixMatch, HasTextAt, SplitsAroundMatch}
use Rattle.std.proofs.lemmas.Bool.{cases_Bool}
use Rattle.std.proofs.lemmas.Bool.Decides.{Decides-eqb}
use Rattle.std.proofs.lemmas.List.{take-append-drop}
use Rattle.std.proofs.lemmas.Slice.Eq.{ends_is}
use Rattle.std.proofs.lemmas.Str.{encodes-append, encodes-chars, encodes_same, IsUtf8-append, IsUtf8-drop, IsUtf8-take, IsCharBoundary-from_drop}
use Rattle.std.proofs.lemmas.Str.Pattern.{starts_text}
use Rattle.star_value.specs.Texts.{starts_with, ends_with, find}
use Rattle.star_value.specs.Cutting.{CutsAt, IsCut}
use Rattle.star_value.proofs.Places.{starts_rest, starts_not, starts_with-append, rest_of_encoded, find_at, find_nowhere}

starts_with-encoded : (text what : List ℕ) → starts_with (encode_utf8_all text) (encode_utf8_all what) ≡ starts_with text what
starts_with-encoded text what = elim (cases_Bool (starts_with text what)) as (λ b. starts_with (encode_utf8_all text) (encode_utf8_all what) ≡ starts_with text what) [
  | inl h ↦ let whole = ap encode_utf8_all (starts_rest text what h) ∙ encodes-append what (drop (length what) text) in
      ap (λ s. starts_with s (encode_utf8_all what)) whole ∙ starts_with-append (encode_utf8_all what) (encode_utf8_all (drop (length what) text)) ∙ sym h
  | inr h ↦ starts_not (encode_utf8_all text) (encode_utf8_all what)
      (λ rest is. let (es, whole, more) = rest_of_encoded what text rest is in
      let yes : starts_with text what ≡ true = ap (λ t. starts_with t what) whole ∙ starts_with-append what es in absurd (cc)) ∙ sym h
]

pub starts_with_is : (answer : Bool) (text what : List ℕ)
    → MatchBool answer (HasPrefixMatch (FindsTextPrefix (encode_utf8_all what)) (encode_utf8_all text)) (FindsTextPrefix (encode_utf8_all what) (encode_utf8_all text) None)
    → answer ≡ starts_with text what
starts_with_is answer text what h = starts_text answer (encode_utf8_all what) (encode_utf8_all text) h ∙ starts_with-encoded text what

ends_with-append : (front what : List ℕ) → ends_with (front ++ what) what ≡ true
ends_with-append front what = (ends_is Decides-eqb (front ++ what) what (ends_with (front ++ what) what) refl).1 front refl

ends_front : (text what : List ℕ) → ends_with text what ≡ true → text ≡ take (length text - length what) text ++ what
ends_front text what h = (ends_is Decides-eqb text what (ends_with text what) refl).0 h

ends_yes : (text what : List ℕ) → IsUtf8 (encode_utf8_all text) → HasSuffixMatch (FindsTextSuffix (encode_utf8_all what)) (encode_utf8_all text) → ends_with text what ≡ true
ends_yes text what utf8 (n, (long, split, cut), within, boundary) =
    let bytes = take (length (encode_utf8_all text) - n) (encode_utf8_all text) in
    let front = chars bytes in
    let fine : IsUtf8 bytes = IsUtf8-take (encode_utf8_all text) (length (encode_utf8_all text) - n) utf8 boundary in
    let whole : encode_utf8_all text ≡ encode_utf8_all (front ++ what) = split ∙ ap (λ b. b ++ encode_utf8_all what) (sym (encodes-chars bytes fine)) ∙ sym (encodes-append front what) in
    ap (λ t. ends_with t what) (encodes_same text (front ++ what) whole) ∙ ends_with-append front what

ends_no : (text what : List ℕ) → ((front : List ℕ) → encode_utf8_all text ≡ front ++ encode_utf8_all what → ⊥) → ends_with text what ≡ false
ends_no text what never = elim (cases_Bool (ends_with text what)) as (λ b. ends_with text what ≡ false)
    [ inl h ↦ let front = take (length text - length what) text in absurd (never (encode_utf8_all front) (ap encode_utf8_all (ends_front text what h) ∙ encodes-append front what)) | inr h ↦ h ]

pub ends_with_is : (answer : Bool) (text what : List ℕ) → all_scalars text ≡ true
    → MatchBool answer (HasSuffixMatch (FindsTextSuffix (encode_utf8_all what)) (encode_utf8_all text)) (FindsTextSuffix (encode_utf8_all what) (encode_utf8_all text) None)
    → answer ≡ ends_with text what
ends_with_is true text what scalar h = sym (ends_yes text what (text, (scalar, refl)) h)
ends_with_is false text what scalar h = sym (ends_no text what h)

-- ---- a text that is cut in two

cut_here : (text what before after : List ℕ) (i j : ℕ) → FindsText (encode_utf8_all what) (encode_utf8_all text) (Some (i, j))
    → before ≡ take i (encode_utf8_all text) → after ≡ drop j (encode_utf8_all text) → length before ≡ i → IsUtf8 before → IsUtf8 after → IsCut text what before after
cut_here text what before after i j (first, here) front back long utf8 rest_utf8 =
    let spelt : encode_utf8_all (chars before) ≡ before = encodes-chars before utf8 in
    let bytes : encode_utf8_all text ≡ encode_utf8_all (chars before) ++ drop i (encode_utf8_all text) =
    sym (take-append-drop i (encode_utf8_all text)) ∙ ap (λ b. b ++ drop i (encode_utf8_all text)) (sym front ∙ sym spelt) in
    let (rest, whole, more) = rest_of_encoded (chars before) text (drop i (encode_utf8_all text)) bytes in
    let (es, inner, left) = rest_of_encoded what rest (drop j (encode_utf8_all text)) (more ∙ here.split) in
    let last : es ≡ chars after = encodes_same es (chars after) (left ∙ sym back ∙ sym (encodes-chars after rest_utf8)) in
    let starts : starts_with rest what ≡ true = ap (λ t. starts_with t what) inner ∙ starts_with-append what es in
    let places : length (encode_utf8_all (chars before)) ≡ i = ap length spelt ∙ long in
    record {
      place = ap (λ t. find t what) whole ∙ find_at (chars before) rest what starts (λ k below rest_bytes is. first k (omega arith) rest_bytes (ap (λ t. drop k (encode_utf8_all t)) whole ∙ is));
      parts = whole ∙ ap (λ t. chars before ++ t) (inner ∙ ap (λ t. what ++ t) last);
      spelt = rest_utf8;
    }

utf8_after : (text what : List ℕ) (i j : ℕ) → IsUtf8 text → HasTextAt what text i j → IsUtf8 (drop j text)
utf8_after text what i j utf8 here = IsUtf8-drop text j utf8 (rw here.ends here.after)

utf8_before : (text what : List ℕ) (i j : ℕ) → IsUtf8 text → IsUtf8 what → HasTextAt what text i j → IsUtf8 (take i text)
utf8_before text what i j utf8 utf8_what here =
    let rest : IsUtf8 (drop i text) = subst IsUtf8 (sym here.split) (IsUtf8-append what (drop j text) utf8_what (utf8_after text what i j utf8 here)) in
    let within : i ≤ length text = let after = here.after in omega arith in
    IsUtf8-take text i utf8 (IsCharBoundary-from_drop text i within rest)

pub cuts_at : (bytes what : List ℕ) (cut : Option (Bor (List ℕ) × Bor (List ℕ))) → IsUtf8 bytes → all_scalars what ≡ true
    → MatchOption cut (FindsText (encode_utf8_all what) bytes None) (λ x. SplitsAroundMatch (FindsText (encode_utf8_all what)) bytes x.0.now x.1.now) → CutsAt (chars bytes) what cut
cuts_at bytes what None utf8 scalar never = let spelt : encode_utf8_all (chars bytes) ≡ bytes = encodes-chars bytes utf8 in
    find_nowhere (chars bytes) what (rw spelt never)
cuts_at bytes what (Some cut) utf8 scalar (i, j, found, front, back, order, long, left) =
    let spelt : encode_utf8_all (chars bytes) ≡ bytes = encodes-chars bytes utf8 in
    let before : IsUtf8 cut.0.now = subst IsUtf8 (sym front) (utf8_before bytes (encode_utf8_all what) i j utf8 (what, (scalar, refl)) found.1) in
    let after : IsUtf8 cut.1.now = subst IsUtf8 (sym back) (utf8_after bytes (encode_utf8_all what) i j utf8 found.1) in
    cut_here (chars bytes) what cut.0.now cut.1.now i j (rw spelt found) (front ∙ ap (take i) (sym spelt)) (back ∙ ap (drop j) (sym spelt)) long before after
