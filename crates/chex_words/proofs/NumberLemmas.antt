-- A number of 1 to 19 digits, beside what `parse` reads.
use Rattle.std.proofs.Common.{◌≡◌, ◌≢◌, ◌<◌, ◌≤◌, ℕ, List, Bool, true, false, Some, None, Result, Ok, Err, length, [], ◌∷◌, get_or, arith, refl, sym, ◌∙◌, ap}
use Rattle.std.specs.Result.{result_ok}
use Rattle.std.specs.Str.{all_ascii_digits}
use Rattle.std.specs.Str.Parse.{ParsesUnsigned, digits_value}
use Rattle.std.proofs.lemmas.Str.Parse.{IsNumeralModel, numerals_by_value, tells_all_ascii_digits, parse_plain, digits_value_short, not_in_digits}
use Rattle.std.proofs.lemmas.Grind.{common_steps}
use Rattle.chex_words.specs.Numbers.{number_of}

own : IsNumeralModel (λ ds. all_ascii_digits ds ≡ true) (digits_value 10)
own = numerals_by_value _ tells_all_ascii_digits

pub too_long : (t : List ℕ) → 19 < length t → number_of t ≡ None
unfolding number_of
too_long t long = grind (arith, common_steps)

none_if : (t : List ℕ) (b : Bool) → all_ascii_digits t ≡ b → (b ≡ true → ⊥) → number_of t ≡ None
unfolding number_of
none_if t true is not = absurd (not refl)
none_if t false is not = grind (arith, common_steps)

pub no_plus : (t : List ℕ) → get_or t 0 0 ≡ 43 → number_of t ≡ None
unfolding number_of
no_plus [] plus = refl
no_plus (c ∷ cs) plus = none_if (c ∷ cs) _ refl (λ digits. not_in_digits own (c ∷ cs) 43 digits (λ r. omega arith) 0 (omega arith) plus)

is_number : (t : List ℕ) → all_ascii_digits t ≡ true → 0 < length t → length t ≤ 19 → number_of t ≡ Some (digits_value 10 t)
unfolding number_of
is_number t digits some short = grind (arith, common_steps)

is_none : (t : List ℕ) → (all_ascii_digits t ≡ true → 0 < length t → ⊥) → number_of t ≡ None
unfolding number_of
is_none [] not = refl
is_none (c ∷ cs) not = none_if (c ∷ cs) _ refl (λ digits. not digits (omega arith))

pub parsed : {E : Type 0} (t : List ℕ) (r : Result ℕ E) → ParsesUnsigned 64 10 t r → length t ≤ 19 → get_or t 0 0 ≢ 43 → result_ok r ≡ number_of t
parsed {E} t (Ok n) read short plain =
    let p = parse_plain own {E = E} 64 t (Ok n) read plain in
    sym (is_number t p.0.0 p.0.1 short ∙ ap Some (sym p.1))
parsed {E} t (Err e) read short plain =
    let p = parse_plain own {E = E} 64 t (Err e) read plain in
    sym (is_none t (λ digits some. p (digits, some, omega (arith, digits_value_short own t 19 digits short))))
