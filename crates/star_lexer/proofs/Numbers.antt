-- Digits past the widest number.
use Rattle.std.proofs.Common.{◌≡◌, ℕ, suc, ◌+◌, ◌*◌, ◌<◌, ◌≤◌, List, [], ◌∷◌, Err, arith, rules, length, get_or, drop, sym, ap, add-one, drop-cons}
use Rattle.std.proofs.lemmas.Nat.{mul-le}
use Rattle.std.specs.Char.{digit_value}
use Rattle.std.specs.Str.Parse.{digits_value, digits_value_after}
use Rattle.star_lexer.specs.declared.error.LexKind.TheVariants.{WideNumber}
use Rattle.star_lexer.specs.Numbers.{fitting, widest}

pub grows : (radix n : ℕ) (ds : List ℕ) → 0 < radix → n ≤ digits_value_after radix n ds
grows radix n [] some = omega arith
grows radix n (d ∷ ds) some =
    let more = grows radix (n * radix + digit_value d) ds some in
    let product : n * 1 ≤ n * radix = mul-le n 1 n radix (omega arith) (omega arith) in
    omega arith

pub too_wide : (radix n d : ℕ) (ds all : List ℕ) → 0 < radix → widest < n * radix + digit_value d → digits_value_after radix n (d ∷ ds) ≡ digits_value radix all → fitting (digits_value radix all) ≡ Err WideNumber
too_wide radix n d ds all some wide e =
    let more = grows radix (n * radix + digit_value d) ds some in
    search rules

pub drop_here : (xs : List ℕ) (i x : ℕ) → i < length xs → x ≡ get_or xs i x → drop i xs ≡ x ∷ drop (i + 1) xs
drop_here xs i x room is = rw (add-one, drop-cons xs i x) (ap (λ y. y ∷ drop (suc i) xs) (sym is))
