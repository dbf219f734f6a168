-- The place of a number among those that are met, as a set gives it.
use Rattle.std.proofs.Common.{◌≡◌, ◌≤◌, ◌+◌, ℕ, Bool, true, false, cond, List, [], ◌∷◌, length, refl, arith}
use Rattle.std.proofs.lemmas.Bool.Decides.{nat_tests}
use Rattle.std.specs.List.{position}
use Rattle.std.specs.Prelude.{nat_eq, nat_lt, not, Some, None}
use Rattle.snapshot_codec.specs.Writing.{number_in}

number_low : (order : List ℕ) (id : ℕ) → number_in order id ≤ length order
number_low [] id = omega arith
number_low (x ∷ xs) id = by (nat_eq id x) (number_low xs id)
  where
    by : (t : Bool) → number_in xs id ≤ length xs → cond (not t) (1 + number_in xs id) 0 ≤ length (x ∷ xs)
    by true l = omega arith
    by false l = omega (arith, l)

pub number_found : (order : List ℕ) (id place : ℕ) → position (nat_eq id) order ≡ Some place → place ≡ number_in order id
number_found order id place e = by (nat_lt (number_in order id) (length order)) e
  where
    by : (t : Bool) → cond t (Some (number_in order id)) None ≡ Some place → place ≡ number_in order id
    by true e = cc
    by false e = absurd (cc)

pub number_absent : (order : List ℕ) (id : ℕ) → position (nat_eq id) order ≡ None → length order ≡ number_in order id
number_absent order id e = by (nat_lt (number_in order id) (length order)) refl e
  where
    by : (t : Bool) → nat_lt (number_in order id) (length order) ≡ t → cond t (Some (number_in order id)) None ≡ None → length order ≡ number_in order id
    by true f e = absurd (cc)
    by false f e = let low = number_low order id in grind (arith, nat_tests, f, low)
