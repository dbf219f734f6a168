-- The digits of a numeral, whose size counts only up to what fits 128 bits.
use Rattle.std.proofs.Common.{◌≡◌, ℕ, zero, suc, ◌+◌, ◌*◌, ◌^◌, ◌<◌, ◌≤◌, append_assoc, append-nil, Bool, true, false, List, [], ◌∷◌, ◌++◌, refl, sym, ap, ◌∙◌, arith, Option, Some, None, ℤ, pos, inl, inr, ◌⊎◌}
use Rattle.std.specs.Prelude.{min, option_map, neg_ℤ, ◌==◌, if◌then◌else◌}
use Rattle.std.proofs.lemmas.Bool.{cases_lt}
use Rattle.std.proofs.lemmas.Bool.Decides.{nat_tests}
use Rattle.star_meaning.specs.Builtins.{digit, digits, digits_from, read_int, with_digit}
use Rattle.star_meaning.specs.Values.{in_range}
use Rattle.star_builtins.specs.Numerals.{continued, whole}
use Rattle.star_builtins.specs.declared.functions.numerals.Reading.{Reading}
use Rattle.star_builtins.specs.declared.functions.numerals.Reading.TheVariants.{Nothing, Sign, Size, Bad}

-- ---- sizes that are too large

too_large : (negative : Bool) (n : ℕ) → 2 ^ 127 < n → whole negative n ≡ None
unfolding in_range
too_large false n h = grind (arith, nat_tests)
too_large true zero h = absurd (omega arith)
too_large true (suc n) h = grind (arith, nat_tests)

near : (negative : Bool) (n m : ℕ) → min n (2 ^ 127 + 1) ≡ min m (2 ^ 127 + 1) → whole negative n ≡ whole negative m
near negative n m h = by (cases_lt (2 ^ 127) n)
  where
    by : (2 ^ 127 < n) ⊎ (n ≤ 2 ^ 127) → whole negative n ≡ whole negative m
    by (inl large) = let both : 2 ^ 127 < m = omega arith in too_large negative n large ∙ sym (too_large negative m both)
    by (inr small) = let same : n ≡ m = omega arith in ap (whole negative) same

same_digits : (negative : Bool) (cs : List ℕ) (n m : ℕ) → min n (2 ^ 127 + 1) ≡ min m (2 ^ 127 + 1) → option_map (whole negative) (digits_from (Some n) cs) ≡ option_map (whole negative) (digits_from (Some m) cs)
same_digits negative [] n m h = ap Some (near negative n m h)
same_digits negative (c ∷ cs) n m h =
    elim (digit c) as (λ o. option_map (whole negative) (digits_from (with_digit (Some n) o) cs) ≡ option_map (whole negative) (digits_from (with_digit (Some m) o) cs))
    [ None ↦ refl | Some d ↦ same_digits negative cs (10 * n + d) (10 * m + d) (omega arith) ]

-- ---- one more digit

digits_none : (cs : List ℕ) → digits_from None cs ≡ None
digits_none [] = refl
digits_none (c ∷ cs) = digits_none cs

capped : (a m : ℕ) → m ≡ min a (2 ^ 127 + 1) → min a (2 ^ 127 + 1) ≡ min m (2 ^ 127 + 1)
capped a m is = omega arith

module _ (negative : Bool) (size c : ℕ) (more : List ℕ) where
  pub digit_more : (d n : ℕ) → Some d ≡ digit c → n ≡ min (10 * size + d) (2 ^ 127 + 1) → option_map (whole negative) (digits_from (Some size) (c ∷ more)) ≡ continued (Size negative n) more
  unfolding continued
  digit_more d n is size_is = ap (λ o. option_map (whole negative) (digits_from (with_digit (Some size) o) more)) (sym is) ∙ same_digits negative more (10 * size + d) n (capped (10 * size + d) n size_is)

  pub digit_bad : None ≡ digit c → option_map (whole negative) (digits_from (Some size) (c ∷ more)) ≡ continued Bad more
  unfolding continued
  digit_bad is = ap (λ o. option_map (whole negative) (digits_from (with_digit (Some size) o) more)) (sym is) ∙ ap (option_map (whole negative)) (digits_none more)

pub ruleset digits_read = (digit_more, digit_bad)

-- ---- the first digit

first_digit : (o : Option ℕ) → with_digit (Some 0) o ≡ o
first_digit None = refl
first_digit (Some d) = let same : 10 * 0 + d ≡ d = omega arith in ap Some same

first_of : (c : ℕ) (more : List ℕ) → digits (c ∷ more) ≡ digits_from (Some 0) (c ∷ more)
first_of c more = ap (λ o. digits_from o more) (sym (first_digit (digit c)))

map_both : (f : ℤ → Option ℤ) (g : ℕ → ℤ) (o : Option ℕ) → option_map f (option_map g o) ≡ option_map (λ n. f (g n)) o
map_both f g None = refl
map_both f g (Some n) = refl

module _ (c : ℕ) (more : List ℕ) where
  pub minus : c ≡ 45 → option_map in_range (read_int (c ∷ more)) ≡ continued (Sign true) more
  unfolding read_int continued
  minus is = rw is (map_both in_range (λ n. neg_ℤ (pos n)) (digits more))

  pub plus : c ≡ 43 → option_map in_range (read_int (c ∷ more)) ≡ continued (Sign false) more
  unfolding read_int continued
  plus is = rw is (map_both in_range pos (digits more))

  no_sign : (a b : Bool) → a ≡ false → b ≡ false
      → option_map in_range (if a then option_map (λ n. neg_ℤ (pos n)) (digits more) else if b then option_map pos (digits more) else option_map pos (digits (c ∷ more))) ≡ option_map (whole false) (digits_from (Some 0) (c ∷ more))
  no_sign true b is_a is_b = absurd (cc)
  no_sign false true is_a is_b = absurd (cc)
  no_sign false false is_a is_b = map_both in_range pos (digits (c ∷ more)) ∙ ap (option_map (whole false)) (first_of c more)

  differs : (n : ℕ) → (c ≡ n → ⊥) → (c == n) ≡ false
  differs n h = grind (arith, nat_tests)

  pub unsigned : (c ≡ 45 → ⊥) → (c ≡ 43 → ⊥) → option_map in_range (read_int (c ∷ more)) ≡ option_map (whole false) (digits_from (Some 0) (c ∷ more))
  unfolding read_int
  unsigned a b = no_sign (c == 45) (c == 43) (differs 45 a) (differs 43 b)

  pub after_sign : (negative : Bool) → continued (Sign negative) (c ∷ more) ≡ option_map (whole negative) (digits_from (Some 0) (c ∷ more))
  unfolding continued
  after_sign negative = ap (option_map (whole negative)) (first_of c more)

pub ruleset firsts = (minus, plus, unsigned)

-- ---- one more code point

pub read_more : (reading after : Reading) (done more : List ℕ) (c : ℕ) → continued reading (c ∷ more) ≡ continued after more → continued reading (c ∷ more) ≡ continued Nothing (done ++ c ∷ more) → continued after more ≡ continued Nothing ((done ++ c ∷ []) ++ more)
read_more reading after done more c step before = sym step ∙ before ∙ ap (continued Nothing) (sym (append_assoc done (c ∷ []) more))

pub read_all : (reading : Reading) (done points : List ℕ) (r : Option (Option ℤ)) → r ≡ continued reading [] → continued reading [] ≡ continued Nothing (done ++ []) → done ≡ points → r ≡ option_map in_range (read_int points)
unfolding continued
read_all reading done points r is before all = is ∙ before ∙ ap (λ cs. option_map in_range (read_int cs)) (append-nil done ∙ all)
