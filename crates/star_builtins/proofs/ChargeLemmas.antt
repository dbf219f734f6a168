-- Charges in parts.
use Rattle.std.proofs.Common.{◌≡◌, ℕ, ◌+◌, ◌<◌, List, ◌∷◌, drop, length, get_or, sym, ap, ◌∙◌, arith}
use Rattle.std.specs.Prelude.{Result, Ok, Err}
use Rattle.std.specs.List.{sum_by}
use Rattle.std.proofs.lemmas.List.Sums.{sum_by-cons, sum_by-drop_more, sum-map}
use Rattle.std.proofs.lemmas.Bool.Decides.{nat_tests}
use Rattle.star_value.specs.declared.failure.Failure.{Failure}
use Rattle.star_value.specs.declared.value.Value.{Value}
use Rattle.star_value.specs.declared.value.Value.TheVariants as value
use Rattle.star_meaning.proofs.Equations.{weight_tuple}
use Rattle.star_value.specs.Charge.{charged}
use Rattle.star_value.specs.Weight.{weight, sum_of_weights}

pub charged_more : (left a b rest : ℕ) (done : Unit {0}) → charged left a ≡ (Ok done, rest) → charged left (a + b) ≡ charged rest b
charged_more left a b rest done h = grind (arith, nat_tests)

pub charged_stop : (left a b rest : ℕ) (e : Failure) → charged left a ≡ (Err e, rest) → charged left (a + b) ≡ (Err e, rest)
charged_stop left a b rest e h = grind (arith, nat_tests)

weights_more : (values : List Value) (i : ℕ) (v : Value) → i < length values → v ≡ get_or values i v
    → sum_of_weights (drop i values) ≡ weight v + sum_of_weights (drop (i + 1) values)
weights_more values i v within is =
    sum-map weight (drop i values) ∙ sum_by-drop_more weight values i v within ∙ ap (λ x. weight x + sum_by weight (drop (i + 1) values)) (sym is)
    ∙ ap (λ n. weight v + n) (sym (sum-map weight (drop (i + 1) values)))

pub items_step : (values : List Value) (i : ℕ) (v : Value) (left rest : ℕ) (done : Unit {0}) (all : Result (Unit {0}) Failure × ℕ) → i < length values → v ≡ get_or values i v
    → charged left (weight v) ≡ (Ok done, rest) → charged left (sum_of_weights (drop i values)) ≡ all → charged rest (sum_of_weights (drop (i + 1) values)) ≡ all
items_step values i v left rest done all within is paid h =
    sym (charged_more left (weight v) (sum_of_weights (drop (i + 1) values)) rest done paid) ∙ ap (charged left) (sym (weights_more values i v within is)) ∙ h

pub items_stop : (values : List Value) (i : ℕ) (v : Value) (left rest : ℕ) (e : Failure) (all : Result (Unit {0}) Failure × ℕ) → i < length values → v ≡ get_or values i v
    → charged left (weight v) ≡ (Err e, rest) → charged left (sum_of_weights (drop i values)) ≡ all → all ≡ (Err e, rest)
items_stop values i v left rest e all within is paid h =
    sym h ∙ ap (charged left) (weights_more values i v within is) ∙ charged_stop left (weight v) (sum_of_weights (drop (i + 1) values)) rest e paid

pub weights_cons : (v : Value) (values : List Value) → sum_of_weights (v ∷ values) ≡ weight v + sum_of_weights values
weights_cons v values = sum-map weight (v ∷ values) ∙ sum_by-cons weight v values ∙ ap (λ n. weight v + n) (sym (sum-map weight values))

add_one : (n : ℕ) → n + 1 ≡ 1 + n
add_one n = omega arith

pub charged_tuple : (left rest : ℕ) (done : Unit {0}) (items : List Value) → charged left 1 ≡ (Ok done, rest) → charged left (weight (value.Tuple items)) ≡ charged rest (sum_of_weights items)
charged_tuple left rest done items paid = ap (charged left) (weight_tuple items ∙ add_one (sum_of_weights items)) ∙ charged_more left 1 (sum_of_weights items) rest done paid

pub charged_tuple_stop : (left rest : ℕ) (e : Failure) (items : List Value) → charged left 1 ≡ (Err e, rest) → charged left (weight (value.Tuple items)) ≡ (Err e, rest)
charged_tuple_stop left rest e items paid = ap (charged left) (weight_tuple items ∙ add_one (sum_of_weights items)) ∙ charged_stop left 1 (sum_of_weights items) rest e paid

pub ruleset parts = (charged_tuple, charged_tuple_stop, items_step, items_stop)
