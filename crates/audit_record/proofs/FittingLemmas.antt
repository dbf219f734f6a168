-- Where two lists differ first.
use Rattle.std.proofs.Common.{◌≡◌, ◌≢◌, ℕ, Bool, true, false, zero, suc, ◌≤◌, List, [], ◌∷◌, length, take, Some, None, refl, sym, ap, ◌∙◌, arith}
use Rattle.std.specs.Prelude.{bytes_eq, not}
use Rattle.std.specs.List.{slice_get}
use Rattle.std.proofs.lemmas.Bool.{false≢true}
use Rattle.std.proofs.lemmas.Slice.Eq.{bytes_eq-Decides}
use Rattle.std.proofs.lemmas.List.{take_all}
use Rattle.std.proofs.lemmas.Option.{slice_get_past}
use Rattle.audit_record.specs.Fitting.{DifferFirst}
use Rattle.audit_record.proofs.DigestLemmas.{some_same}

holds : (b : Bool) → not b ≡ false → b ≡ true
holds true h = refl
holds false h = absurd (false≢true (sym h))

fails : (b : Bool) → not b ≡ true → b ≡ true → ⊥
fails true h is = false≢true h
fails false h is = false≢true is

-- digests that were found equal, and different ones
pub equal : (xs ys : List ℕ) → not (bytes_eq xs ys) ≡ false → xs ≡ ys
equal xs ys h = (bytes_eq-Decides xs ys).0 (holds (bytes_eq xs ys) h)

pub different : (xs ys : List ℕ) → not (bytes_eq xs ys) ≡ true → Some xs ≢ Some ys
different xs ys h = λ is. fails (bytes_eq xs ys) h ((bytes_eq-Decides xs ys).1 (some_same xs ys is))

none_past : {X : Type 0} (xs : List X) (k : ℕ) → slice_get xs k ≡ None → length xs ≤ k
none_past [] k h = omega arith
none_past (x ∷ xs) zero h = absurd (cc)
none_past (x ∷ xs) (suc k) h = let rest = none_past xs k h in omega (arith, rest)

same_place : (m n : ℕ) → m ≤ n → n ≤ m → n ≡ m
same_place m n low high = omega (arith, low, high)

-- lists that are equal before the end of the first, where the second has no item
pub whole : {X : Type 0} (xs ys : List X) (n : ℕ) → take n xs ≡ take n ys → length xs ≤ n → n ≤ length xs → slice_get ys (length xs) ≡ None → xs ≡ ys
whole xs ys n same low high none =
    let past = none_past ys (length xs) none in
    sym (take_all n xs low) ∙ same ∙ take_all n ys (omega (arith, past, low))

-- and where it has one
pub longer : {X : Type 0} (xs ys : List X) (n : ℕ) (y : X) → take n xs ≡ take n ys → length xs ≤ n → n ≤ length xs → slice_get ys (length xs) ≡ Some y
    → DifferFirst xs ys (length xs) None (Some y)
longer xs ys n y same low high some = record {
  before = ap (λ k. take k xs) (sym (same_place (length xs) n low high)) ∙ same ∙ ap (λ k. take k ys) (same_place (length xs) n low high);
  left = slice_get_past xs (length xs) (omega arith);
  right = some;
  apart = λ e. absurd (cc);
}
