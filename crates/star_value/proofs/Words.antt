-- Texts that are cut at a code point of a set, from what `str` says of their bytes.
use Rattle.std.proofs.Common.{◌≡◌, ◌<◌, ℕ, zero, suc, Bool, true, false, ◌&&◌, List, [], ◌∷◌, ◌++◌, length, take, drop, Option, Some, None, refl, sym, ap, ◌∙◌, subst, append_assoc, append-nil, IsUtf8, arith}
use Rattle.std.specs.Prelude.{◌==◌, not, MatchOption}
use Rattle.std.specs.Borrow.{Bor}
use Rattle.std.specs.Char.{char_set_contains}
use Rattle.std.specs.List.{filter, onto_first, slice_split}
use Rattle.std.specs.Str.{NonePass, NoCharPasses, chars, encode_utf8_all, all_scalars}
use Rattle.std.specs.Str.Pattern.{FindsBy, FindsChar, HasPassingCharAt, SplitsAroundMatch}
use Rattle.std.proofs.lemmas.Bool.Decides.{Decides-eqb, nat_tests}
use Rattle.std.proofs.lemmas.List.{length-append, take-append-drop}
use Rattle.std.proofs.lemmas.List.Elements.{filter-append}
use Rattle.std.proofs.lemmas.List.Splits.{slice_split-cons_yes, slice_split-cons_no}
use Rattle.std.proofs.lemmas.Str.{chars-encodes, cons_from_encodes, encodes-chars, encodes_same, length-le-encodes, scalars-chars, IsUtf8-drop}
use Rattle.star_value.specs.Cutting.{CutsAtPoint, IsPointCut}
use Rattle.star_value.specs.Texts.{is_among, is_some_text, white}
use Rattle.star_value.proofs.Places.{rest_of_encoded}

module _ (p : ℕ → Bool) where
  slice_split-none : (cs : List ℕ) → NonePass p cs → slice_split p cs ≡ cs ∷ []
  slice_split-none [] h = refl
  slice_split-none (c ∷ cs) (first, rest) = slice_split-cons_no p c cs first ∙ ap (onto_first c) (slice_split-none cs rest)

  slice_split-append : (front : List ℕ) (c : ℕ) (back : List ℕ) → NonePass p front → p c ≡ true → slice_split p (front ++ c ∷ back) ≡ front ∷ slice_split p back
  slice_split-append [] c back h passes = slice_split-cons_yes p c back passes
  slice_split-append (d ∷ front) c back (first, rest) passes = slice_split-cons_no p d (front ++ c ∷ back) first ∙ ap (onto_first d) (slice_split-append front c back rest passes)

pub both : (a b : Bool) → (a && b) ≡ true → (a ≡ true) × (b ≡ true)
both true b h = (refl, h)
both false b h = absurd (cc)

scalars-front : (front back : List ℕ) → all_scalars (front ++ back) ≡ true → all_scalars front ≡ true
scalars-front [] back h = refl
scalars-front (c ∷ front) back h = let (first, rest) = both _ (all_scalars (front ++ back)) h in rw (first, scalars-front front back rest) refl

pub scalars-back : (front back : List ℕ) → all_scalars (front ++ back) ≡ true → all_scalars back ≡ true
scalars-back [] back h = h
scalars-back (c ∷ front) back h = scalars-back front back (both _ (all_scalars (front ++ back)) h).1

module _ (test : ℕ → Bool) where
  cut_here : (bytes before after : List ℕ) (i j : ℕ) → IsUtf8 bytes → NoCharPasses test (take i bytes) → HasPassingCharAt test bytes i j
      → before ≡ take i bytes → after ≡ drop j bytes → IsPointCut test (chars bytes) before after
  cut_here bytes before after i j utf8 (front, spelt, none) (c, passes, here) is_front is_back =
      let whole : encode_utf8_all (chars bytes) ≡ encode_utf8_all front ++ drop i bytes =
      encodes-chars bytes utf8 ∙ sym (take-append-drop i bytes) ∙ ap (λ b. b ++ drop i bytes) (sym spelt) in
      let (rest, parts, more) = rest_of_encoded front (chars bytes) (drop i bytes) whole in
      let (es, inner, left) = cons_from_encodes rest (drop j bytes) c (more ∙ here.split) in
      let fine : IsUtf8 after = subst IsUtf8 (sym is_back) (IsUtf8-drop bytes j utf8 (rw here.ends here.after)) in
      let first : chars before ≡ front = ap chars (is_front ∙ sym spelt) ∙ chars-encodes front (scalars-front front rest (ap all_scalars (sym parts) ∙ scalars-chars bytes utf8)) in
      let last : es ≡ chars after = encodes_same es (chars after) (left ∙ sym is_back ∙ sym (encodes-chars after fine)) in
      record {
        point = c;
        passes = passes;
        first = subst (NonePass test) (sym first) none;
        parts = parts ∙ ap (λ t. front ++ t) (inner ∙ ap (λ t. c ∷ t) last) ∙ ap (λ t. t ++ c ∷ chars after) (sym first);
        spelt = fine;
      }

  cut_nowhere : (bytes : List ℕ) → IsUtf8 bytes → NoCharPasses test bytes → NonePass test (chars bytes)
  cut_nowhere bytes utf8 (cs, spelt, none) = subst (NonePass test) (encodes_same cs (chars bytes) (spelt ∙ sym (encodes-chars bytes utf8))) none

  -- `split_once` at the code points that pass
  pub cuts_at_point : (bytes : List ℕ) (cut : Option (Bor (List ℕ) × Bor (List ℕ))) → IsUtf8 bytes
      → MatchOption cut (FindsBy test bytes None) (λ x. SplitsAroundMatch (FindsBy test) bytes x.0.now x.1.now) → CutsAtPoint test (chars bytes) cut
  cuts_at_point bytes None utf8 none = cut_nowhere bytes utf8 none
  cuts_at_point bytes (Some cut) utf8 (i, j, found, front, back, order, long, left) = cut_here bytes cut.0.now cut.1.now i j utf8 found.0 found.1 front back

-- the same at the code points of a set, and at one code point
module _ (set : List ℕ) where
  abbrev FindsAmong : List ℕ → Option (ℕ × ℕ) → Type 0
  FindsAmong bytes found = (k : ℕ → Bool) → ((c : ℕ) → char_set_contains set c ≡ k c) → FindsBy k bytes found

  pub cuts_at_set : (bytes : List ℕ) (cut : Option (Bor (List ℕ) × Bor (List ℕ))) → IsUtf8 bytes
      → MatchOption cut (FindsAmong bytes None) (λ x. SplitsAroundMatch FindsAmong bytes x.0.now x.1.now) → CutsAtPoint (is_among set) (chars bytes) cut
  cuts_at_set bytes None utf8 never = cut_nowhere (is_among set) bytes utf8 (never (is_among set) (λ c. refl))
  cuts_at_set bytes (Some cut) utf8 (i, j, found, front, back, order, long, left) =
      let here = found (is_among set) (λ c. refl) in
      cut_here (is_among set) bytes cut.0.now cut.1.now i j utf8 here.0 here.1 front back

pub cuts_at_char : (c : ℕ) (bytes : List ℕ) (cut : Option (Bor (List ℕ) × Bor (List ℕ))) → IsUtf8 bytes
    → MatchOption cut (FindsChar c bytes None) (λ x. SplitsAroundMatch (FindsChar c) bytes x.0.now x.1.now) → CutsAtPoint (λ d. d == c) (chars bytes) cut
cuts_at_char c bytes None utf8 never = cut_nowhere (λ d. d == c) bytes utf8 never
cuts_at_char c bytes (Some cut) utf8 (i, j, found, front, back, order, long, left) =
    cut_here (λ d. d == c) bytes cut.0.now cut.1.now i j utf8 found.0 (c, (Decides-eqb c c).1 refl, found.1) front back

-- each cut takes code points off the front
pub shorter : (test : ℕ → Bool) (text before after : List ℕ) → IsPointCut test text before after → length (chars after) < length text
shorter test text before after cut = let long = ap length cut.parts ∙ length-append (chars before) (cut.point ∷ chars after) in omega arith

-- ---- the pieces between white code points

abbrev pub between_white : List ℕ → List (List ℕ)
between_white text = slice_split (is_among white) text

pub between_white_none : (text : List ℕ) → NonePass (is_among white) text → between_white text ≡ text ∷ []
between_white_none text none = slice_split-none (is_among white) text none

between_white-cut : (text before after : List ℕ) → IsPointCut (is_among white) text before after → between_white text ≡ chars before ∷ between_white (chars after)
between_white-cut text before after cut = ap between_white cut.parts ∙ slice_split-append (is_among white) (chars before) cut.point (chars after) cut.first cut.passes

-- ---- a loop that pushes each piece that is not empty

filter-cons : (word : List ℕ) (rest : List (List ℕ)) → filter is_some_text (word ∷ rest) ≡ filter is_some_text (word ∷ []) ++ filter is_some_text rest
filter-cons word rest = filter-append is_some_text (word ∷ []) rest

pub words_more : (done : List (List ℕ)) (text before after : List ℕ) → IsPointCut (is_among white) text before after
    → (done ++ filter is_some_text (chars before ∷ [])) ++ filter is_some_text (between_white (chars after)) ≡ done ++ filter is_some_text (between_white text)
words_more done text before after cut =
    append_assoc done (filter is_some_text (chars before ∷ [])) (filter is_some_text (between_white (chars after)))
    ∙ ap (λ all. done ++ all) (sym (filter-cons (chars before) (between_white (chars after))) ∙ ap (filter is_some_text) (sym (between_white-cut text before after cut)))

no_points : (cs : List ℕ) → length cs ≡ 0 → length (encode_utf8_all cs) ≡ 0
no_points [] none = refl
no_points (c ∷ cs) none = absurd (omega arith)

both_empty : (n m : ℕ) → (n ≡ 0 → m ≡ 0) → (m ≡ 0 → n ≡ 0) → (n == 0) ≡ (m == 0)
both_empty zero m f g = rw (f refl) refl
both_empty (suc n) m f g = let a = (Decides-eqb (suc n) 0).0 in let b = (Decides-eqb m 0).0 in grind (arith, nat_tests)

-- a text is empty where its bytes are
pub is_some_text-chars : (bytes : List ℕ) → IsUtf8 bytes → is_some_text (chars bytes) ≡ not (length bytes == 0)
is_some_text-chars bytes utf8 =
    let spelt : encode_utf8_all (chars bytes) ≡ bytes = encodes-chars bytes utf8 in
    ap not (both_empty (length (chars bytes)) (length bytes)
    (λ none. sym (ap length spelt) ∙ no_points (chars bytes) none)
    (λ none. let short = length-le-encodes (chars bytes) in let same = ap length spelt in omega arith))

pub no_word : (done : List (List ℕ)) (bytes : List ℕ) → IsUtf8 bytes → true ≡ (length bytes == 0) → done ≡ done ++ filter is_some_text (chars bytes ∷ [])
no_word done bytes utf8 none = rw (is_some_text-chars bytes utf8, ← none) (sym (append-nil done))

pub some_word : (done : List (List ℕ)) (bytes : List ℕ) → IsUtf8 bytes → false ≡ (length bytes == 0) → done ++ chars bytes ∷ [] ≡ done ++ filter is_some_text (chars bytes ∷ [])
some_word done bytes utf8 some = rw (is_some_text-chars bytes utf8, ← some) refl

pub ruleset steps = (words_more, between_white_none, shorter)

pub ruleset pushes = (no_word, some_word)
