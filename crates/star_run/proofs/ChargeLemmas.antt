-- What results cost, of which 1 is paid already.
use Rattle.std.proofs.Common.{◌≡◌, ℕ, ◌+◌, ◌-◌, ◌≤◌, List, length, refl, sym, ap, ◌∙◌, arith}
use Rattle.std.specs.Prelude.{Result, Ok}
use Rattle.std.proofs.lemmas.Bool.Decides.{nat_tests}
use Rattle.star_value.specs.declared.failure.Failure.{Failure}
use Rattle.star_value.specs.Charge.{charged}
use Rattle.star_value.specs.Weight.{weight, sum_of_weights}
use Rattle.star_value.specs.declared.value.Value.{Value}
use Rattle.star_value.specs.declared.value.Value.TheVariants as value
use Rattle.star_meaning.proofs.Equations.{weight_none, weight_bool, weight_int, weight_text, weight_tuple, weight_range, weight_list, weight_dict, weight_function, weight_builtin}

pub nothing_charged : (left : ℕ) → charged left 0 ≡ (Ok tt, left)
nothing_charged left = grind (arith, nat_tests)

pub charged_spends : (left n after : ℕ) (r : Result (Unit {0}) Failure) → charged left n ≡ (r, after) → after ≤ left
charged_spends left n after r h = grind (arith, nat_tests)

one_paid : (n m : ℕ) → n ≡ m + 1 → n - 1 ≡ m
one_paid n m is = omega arith

pub rest_text : (left : ℕ) (points : List ℕ) → charged left (weight (value.Text points) - 1) ≡ charged left (length points)
rest_text left points = ap (charged left) (one_paid _ _ (weight_text points))

pub rest_tuple : (left : ℕ) (items : List Value) → charged left (weight (value.Tuple items) - 1) ≡ charged left (sum_of_weights items)
rest_tuple left items = ap (charged left) (one_paid _ _ (weight_tuple items))

pub ruleset rests = (nothing_charged, rest_text, rest_tuple, weight_none, weight_bool, weight_int, weight_range, weight_list, weight_dict, weight_function, weight_builtin)
