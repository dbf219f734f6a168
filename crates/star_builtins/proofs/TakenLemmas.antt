-- The items that a slice takes, one after the other.
use Rattle.std.proofs.Common.{◌≡◌, ℕ, suc, ◌+◌, ◌-◌, ◌<◌, ◌≤◌, List, [], ◌∷◌, ◌++◌, map, Some, None, refl, sym, ap, ◌∙◌, arith, append_assoc}
use Rattle.std.specs.Prelude.{Result, Ok, Err}
use Rattle.std.specs.List.{filter_map, range_with_len}
use Rattle.star_value.specs.declared.failure.Failure.{Failure}
use Rattle.star_value.specs.declared.range.Range.{Range}
use Rattle.star_value.specs.declared.value.Value.{Value}
use Rattle.star_value.specs.Charge.{charged}
use Rattle.star_value.specs.Ranges.{range_count}
use Rattle.star_value.specs.Weight.{weight, sum_of_weights}
use Rattle.star_meaning.specs.Operators.{at_int}
use Rattle.star_meaning.specs.Values.{range_item, integers_of}
use Rattle.star_builtins.specs.Taken.{taken_from}
use Rattle.star_builtins.proofs.ChargeLemmas.{charged_more, charged_stop, weights_cons}

from_here : (place count : ℕ) → place < count → range_with_len place (count - place) ≡ place ∷ range_with_len (place + 1) (count - (place + 1))
from_here place count h =
    let e : count - place ≡ suc (count - (place + 1)) = omega arith in
    ap (range_with_len place) e

module _ {A : Type 0} (xs : List A) (r : Range) (place count : ℕ) (h : place < count) where
  pub taken_more : (x : A) → at_int xs (range_item r place) ≡ Some x → taken_from xs r place count ≡ x ∷ taken_from xs r (place + 1) count
  taken_more x is = rw (from_here place count h, is) refl

  pub taken_less : at_int xs (range_item r place) ≡ None → taken_from xs r place count ≡ taken_from xs r (place + 1) count
  taken_less is = rw (from_here place count h, is) refl

  pub taken_push : (done all : List A) (x : A) → at_int xs (range_item r place) ≡ Some x → done ++ taken_from xs r place count ≡ all → (done ++ x ∷ []) ++ taken_from xs r (place + 1) count ≡ all
  taken_push done all x is before = append_assoc done (x ∷ []) (taken_from xs r (place + 1) count) ∙ ap (λ ys. done ++ ys) (sym (taken_more x is)) ∙ before

  pub taken_pass : (done all : List A) → at_int xs (range_item r place) ≡ None → done ++ taken_from xs r place count ≡ all → done ++ taken_from xs r (place + 1) count ≡ all
  taken_pass done all is before = ap (λ ys. done ++ ys) (sym (taken_less is)) ∙ before

pub taken_start : {A : Type 0} (xs : List A) (r : Range) (count : ℕ) → count ≡ range_count r → taken_from xs r 0 count ≡ filter_map (at_int xs) (integers_of r)
unfolding integers_of
taken_start xs r count is = let e : count - 0 ≡ range_count r = omega (arith, is) in ap (λ n. filter_map (at_int xs) (map (range_item r) (range_with_len 0 n))) e

pub taken_end : {A : Type 0} (xs : List A) (r : Range) (place count : ℕ) → count ≤ place → taken_from xs r place count ≡ []
taken_end xs r place count past = let e : count - place ≡ 0 = omega arith in ap (λ n. filter_map (at_int xs) (map (range_item r) (range_with_len place n))) e

-- the charge of what is taken: nothing for a place without an item, and the item's weight before those of the rest
module _ (xs : List Value) (r : Range) (place count left : ℕ) (total : Result (Unit {0}) Failure × ℕ) (h : place < count) where
  pub charge_pass : at_int xs (range_item r place) ≡ None → charged left (sum_of_weights (taken_from xs r place count)) ≡ total → charged left (sum_of_weights (taken_from xs r (place + 1) count)) ≡ total
  charge_pass is before = ap (λ ys. charged left (sum_of_weights ys)) (sym (taken_less xs r place count h is)) ∙ before

  weights_of : (x : Value) → at_int xs (range_item r place) ≡ Some x → sum_of_weights (taken_from xs r place count) ≡ weight x + sum_of_weights (taken_from xs r (place + 1) count)
  weights_of x is = ap sum_of_weights (taken_more xs r place count h x is) ∙ weights_cons x (taken_from xs r (place + 1) count)

  pub charge_more : (x : Value) (rest : ℕ) (done : Unit {0}) → at_int xs (range_item r place) ≡ Some x → charged left (weight x) ≡ (Ok done, rest) → charged left (sum_of_weights (taken_from xs r place count)) ≡ total
      → charged rest (sum_of_weights (taken_from xs r (place + 1) count)) ≡ total
  charge_more x rest done is paid before = sym (charged_more left (weight x) (sum_of_weights (taken_from xs r (place + 1) count)) rest done paid) ∙ ap (charged left) (sym (weights_of x is)) ∙ before

  pub charge_stop : (x : Value) (rest : ℕ) (e : Failure) → at_int xs (range_item r place) ≡ Some x → charged left (weight x) ≡ (Err e, rest) → charged left (sum_of_weights (taken_from xs r place count)) ≡ total
      → total ≡ (Err e, rest)
  charge_stop x rest e is paid before = sym before ∙ ap (charged left) (weights_of x is) ∙ charged_stop left (weight x) (sum_of_weights (taken_from xs r (place + 1) count)) rest e paid
