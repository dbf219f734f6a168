-- What is left of a text that is trimmed, from what `str` says of its bytes.
use Rattle.std.proofs.Common.{◌≡◌, ℕ, ◌-◌, ◌≤◌, Bool, true, false, List, [], ◌∷◌, ◌++◌, length, drop, reverse, Option, Some, None, refl, sym, ap, ◌∙◌, subst, append-nil, IsUtf8, inl, inr, arith}
use Rattle.std.specs.Prelude.{◌==◌, encode_utf8, MatchOption}
use Rattle.std.specs.Char.{IsScalar, char_set_contains}
use Rattle.std.specs.Str.{chars, encode_utf8_all, all_scalars}
use Rattle.std.specs.Str.Pattern.{CutsPrefixes, CutsSuffixes, FindsPrefixBy, FindsSuffixBy, HasPassingCharAt, IsTrimStartMatches, IsTrimEndMatches}
use Rattle.std.proofs.lemmas.Bool.{cases_Bool}
use Rattle.std.proofs.lemmas.Bool.Decides.{Decides-eqb}
use Rattle.std.proofs.lemmas.List.{reverse-append, reverse-reverse, take-append-drop}
use Rattle.std.proofs.lemmas.Str.{chars_past_char, encodes-append, encodes-chars, len_utf8_bounds, scalars-chars, IsUtf8-encode, IsUtf8-past_char, IsUtf8-take, IsCharBoundary-from_drop}
use Rattle.std.proofs.Math.Seq.{drop-length}
use Rattle.chex_base.proofs.Points.{one_more_point}
use Rattle.star_value.specs.Texts.{is_among, without_front, without_end}
use Rattle.star_value.proofs.Words.{both, scalars-back}

module _ (set : List ℕ) where
  abbrev FindsFront : List ℕ → Option ℕ → Type 0
  FindsFront bytes found = (k : ℕ → Bool) → ((c : ℕ) → char_set_contains set c ≡ k c) → FindsPrefixBy k bytes found

  abbrev FindsEnd : List ℕ → Option ℕ → Type 0
  FindsEnd bytes found = (k : ℕ → Bool) → ((c : ℕ) → char_set_contains set c ≡ k c) → FindsSuffixBy k bytes found

  without_front-yes : (c : ℕ) (cs : List ℕ) → is_among set c ≡ true → without_front set (c ∷ cs) ≡ without_front set cs
  without_front-yes c cs h = rw h refl

  without_front-no : (c : ℕ) (cs : List ℕ) → is_among set c ≡ false → without_front set (c ∷ cs) ≡ c ∷ cs
  without_front-no c cs h = rw h refl

  -- ---- the front

  pub front_kept : (ns bytes rest : List ℕ) → IsUtf8 bytes → CutsPrefixes FindsFront bytes ns rest → IsUtf8 rest × (without_front set (chars bytes) ≡ without_front set (chars rest))
  front_kept [] bytes rest utf8 is = (subst IsUtf8 (sym is) utf8, ap (λ b. without_front set (chars b)) (sym is))
  front_kept (n ∷ ns) bytes rest utf8 (middle, cuts, found, is) =
      let (fine, same) = front_kept ns bytes middle utf8 cuts in
      let (c, passes, here) = found (is_among set) (λ c. refl) in
      let split : middle ≡ encode_utf8 c ++ rest = here.split ∙ ap (λ b. encode_utf8 c ++ b) (sym is) in (
        IsUtf8-past_char middle rest c fine split,
        same ∙ ap (without_front set) (chars_past_char middle rest c fine split) ∙ without_front-yes c (chars rest) passes,
      )

  front_stays : (cs : List ℕ) → all_scalars cs ≡ true → ((c : ℕ) (rest : List ℕ) → IsScalar c → encode_utf8_all cs ≡ encode_utf8 c ++ rest → is_among set c ≡ false) → without_front set cs ≡ cs
  front_stays [] scalar stops = refl
  front_stays (c ∷ cs) scalar stops = without_front-no c cs (stops c (encode_utf8_all cs) (both _ (all_scalars cs) scalar).0 refl)

  nothing_cut : (bytes : List ℕ) (i n : ℕ) → n ≡ i → HasPassingCharAt (is_among set) bytes i n → ⊥
  nothing_cut bytes i n is (c, passes, here) = let some = len_utf8_bounds c in let ends = here.ends in omega arith

  front_done : (bytes : List ℕ) (found : Option ℕ) → IsUtf8 bytes → FindsFront bytes found → MatchOption found (Unit {0}) (λ n. n ≡ 0) → without_front set (chars bytes) ≡ chars bytes
  front_done bytes None utf8 h stop = front_stays (chars bytes) (scalars-chars bytes utf8)
      (λ c rest scalar is. h (is_among set) (λ d. refl) c rest scalar (sym (encodes-chars bytes utf8) ∙ is))
  front_done bytes (Some n) utf8 h stop = absurd (nothing_cut bytes 0 n stop (h (is_among set) (λ d. refl)))

  pub front_is : (bytes rest : List ℕ) → IsUtf8 bytes → IsTrimStartMatches FindsFront bytes rest → chars rest ≡ without_front set (chars bytes)
  front_is bytes rest utf8 ((ns, cuts), (found, says, stop)) =
      let (fine, same) = front_kept ns bytes rest utf8 cuts in
      sym (same ∙ front_done rest found fine says stop)

  -- ---- the end

  scalar_among : (ds : List ℕ) (c : ℕ) → all_scalars ds ≡ true → char_set_contains ds c ≡ true → IsScalar c
  scalar_among [] c scalar h = absurd (cc)
  scalar_among (d ∷ ds) c scalar h =
      let (first, rest) = both _ (all_scalars ds) scalar in
      elim (cases_Bool (d == c)) as (λ b. IsScalar c)
      [ inl same ↦ subst IsScalar ((Decides-eqb d c).0 same) first | inr other ↦ scalar_among ds c rest (rw other at h) ]

  without_end-push : (cs : List ℕ) (c : ℕ) → is_among set c ≡ true → without_end set (cs ++ c ∷ []) ≡ without_end set cs
  without_end-push cs c passes = ap (λ r. reverse (without_front set r)) (reverse-append cs (c ∷ [])) ∙ ap reverse (without_front-yes c (reverse cs) passes)

  end_stays : (back : List ℕ) → ((c : ℕ) (cs : List ℕ) → back ≡ c ∷ cs → is_among set c ≡ false) → without_front set back ≡ back
  end_stays [] stops = refl
  end_stays (c ∷ cs) stops = without_front-no c cs (stops c cs refl)

  module _ (scalar : all_scalars set ≡ true) where
    end_kept : (ns bytes rest : List ℕ) → IsUtf8 bytes → CutsSuffixes FindsEnd bytes ns rest → IsUtf8 rest × (without_end set (chars bytes) ≡ without_end set (chars rest))
    end_kept [] bytes rest utf8 is = (subst IsUtf8 (sym is) utf8, ap (λ b. without_end set (chars b)) (sym is))
    end_kept (n ∷ ns) bytes rest utf8 (middle, cuts, found, is) =
        let (fine, same) = end_kept ns bytes middle utf8 cuts in
        let (c, passes, here) = found (is_among set) (λ c. refl) in
        let at = length middle - n in
        let last : drop at middle ≡ encode_utf8 c = here.split ∙ ap (λ b. encode_utf8 c ++ b) (drop-length middle) ∙ append-nil (encode_utf8 c) in
        let within : at ≤ length middle = omega arith in
        let cut : IsUtf8 (drop at middle) = subst IsUtf8 (sym last) (IsUtf8-encode c (scalar_among set c scalar passes)) in
        let good : IsUtf8 rest = subst IsUtf8 (sym is) (IsUtf8-take middle at fine (IsCharBoundary-from_drop middle at within cut)) in
        let whole : middle ≡ rest ++ encode_utf8 c = sym (take-append-drop at middle) ∙ ap (λ b. b ++ drop at middle) (sym is) ∙ ap (λ b. rest ++ b) last in
        (good, same ∙ ap (without_end set) (one_more_point rest middle c good fine whole) ∙ without_end-push (chars rest) c passes)

    end_fails : (bytes : List ℕ) → IsUtf8 bytes → ((c : ℕ) (front : List ℕ) → IsScalar c → bytes ≡ front ++ encode_utf8 c → is_among set c ≡ false)
        → (c : ℕ) (cs : List ℕ) → reverse (chars bytes) ≡ c ∷ cs → is_among set c ≡ false
    end_fails bytes utf8 stops c cs is =
        let points : chars bytes ≡ reverse cs ++ c ∷ [] = sym (reverse-reverse (chars bytes)) ∙ ap reverse is ∙ reverse-append (c ∷ []) cs in
        let whole : bytes ≡ encode_utf8_all (reverse cs) ++ encode_utf8 c =
        sym (encodes-chars bytes utf8) ∙ ap encode_utf8_all points ∙ encodes-append (reverse cs) (c ∷ []) ∙ ap (λ b. encode_utf8_all (reverse cs) ++ b) (append-nil (encode_utf8 c)) in
        let fine : all_scalars (c ∷ []) ≡ true = scalars-back (reverse cs) (c ∷ []) (ap all_scalars (sym points) ∙ scalars-chars bytes utf8) in
        stops c (encode_utf8_all (reverse cs)) (both _ true fine).0 whole

    end_done : (bytes : List ℕ) (found : Option ℕ) → IsUtf8 bytes → FindsEnd bytes found → MatchOption found (Unit {0}) (λ n. n ≡ 0) → without_end set (chars bytes) ≡ chars bytes
    end_done bytes None utf8 h stop = ap reverse (end_stays (reverse (chars bytes)) (end_fails bytes utf8 (h (is_among set) (λ d. refl)))) ∙ reverse-reverse (chars bytes)
    end_done bytes (Some n) utf8 h stop = absurd (nothing_cut bytes (length bytes - n) (length bytes) (omega arith) (h (is_among set) (λ d. refl)))

    pub end_is : (bytes rest : List ℕ) → IsUtf8 bytes → IsTrimEndMatches FindsEnd bytes rest → chars rest ≡ without_end set (chars bytes)
    end_is bytes rest utf8 ((ns, cuts), (found, says, stop)) =
        let (fine, same) = end_kept ns bytes rest utf8 cuts in
        sym (same ∙ end_done rest found fine says stop)
