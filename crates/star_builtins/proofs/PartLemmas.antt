-- What is put together of parts: what it weighs, and that it fits where the parts do.
use Rattle.std.proofs.Common.{◌≡◌, ℕ, suc, zero, ◌+◌, ◌-◌, ◌<◌, length, append_assoc, Bool, List, [], ◌∷◌, ◌++◌, refl, sym, ap, ◌∙◌, arith, IsTrue}
use Rattle.std.specs.Prelude.{Result, Ok, Err}
use Rattle.std.specs.List.{list_all, repeat}
use Rattle.heap_store.proofs.Tested.{and_left, and_right, and_both}
use Rattle.star_value.specs.declared.failure.Failure.{Failure}
use Rattle.star_value.specs.declared.value.Value.{Value}
use Rattle.star_value.specs.declared.value.Value.TheVariants as value
use Rattle.star_value.specs.Charge.{charged}
use Rattle.star_value.specs.Weight.{sum_of_weights}
use Rattle.star_meaning.specs.Validity.{MachineState, fits, is_proper}
use Rattle.star_builtins.specs.Reached.{Fits, AllFit}
use Rattle.star_builtins.proofs.ChargeLemmas.{charged_more, charged_stop, weights_cons}
use Rattle.star_builtins.proofs.FitLemmas.{inside, inside_tuple, tuple_inside}

pub weights_append : (xs ys : List Value) → sum_of_weights (xs ++ ys) ≡ sum_of_weights xs + sum_of_weights ys
weights_append [] ys = omega arith
weights_append (x ∷ xs) ys =
    let rest = weights_append xs ys in
    let front = weights_cons x xs in
    let whole = weights_cons x (xs ++ ys) in
    omega arith

pub both_paid : (left rest : ℕ) (xs ys : List Value) (done : Unit {0}) → charged left (sum_of_weights xs) ≡ (Ok done, rest) → charged left (sum_of_weights (xs ++ ys)) ≡ charged rest (sum_of_weights ys)
both_paid left rest xs ys done paid = ap (charged left) (weights_append xs ys) ∙ charged_more left (sum_of_weights xs) (sum_of_weights ys) rest done paid

pub first_over : (left rest : ℕ) (xs ys : List Value) (e : Failure) → charged left (sum_of_weights xs) ≡ (Err e, rest) → charged left (sum_of_weights (xs ++ ys)) ≡ (Err e, rest)
first_over left rest xs ys e over = ap (charged left) (weights_append xs ys) ∙ charged_stop left (sum_of_weights xs) (sum_of_weights ys) rest e over

pub ruleset charges_of_both = (both_paid, first_over)

module _ (test : Value → Bool) where
  all_append : (xs ys : List Value) → IsTrue (list_all test xs) → IsTrue (list_all test ys) → IsTrue (list_all test (xs ++ ys))
  all_append [] ys h k = k
  all_append (x ∷ xs) ys h k = and_both (test x) (list_all test (xs ++ ys)) (and_left (test x) (list_all test xs) h) (all_append xs ys (and_right (test x) (list_all test xs) h) k)

  all_repeat : (n : ℕ) (xs : List Value) → IsTrue (list_all test xs) → IsTrue (list_all test (repeat n xs))
  all_repeat zero xs h = refl
  all_repeat (suc n) xs h = all_append xs (repeat n xs) h (all_repeat n xs h)

pub joined_fits : (m : MachineState) (xs ys : List Value) → Fits m (value.Tuple xs) → Fits m (value.Tuple ys) → Fits m (value.Tuple (xs ++ ys))
joined_fits m xs ys h k = inside_tuple m (xs ++ ys) (all_append (inside m.state.objects) xs ys (tuple_inside m xs h) (tuple_inside m ys k))

pub joined_all : (m : MachineState) (xs ys : List Value) → AllFit m xs → AllFit m ys → AllFit m (xs ++ ys)
joined_all m xs ys h k = record {
  references = all_append (fits m.state.objects) xs ys h.references k.references;
  proper = all_append is_proper xs ys h.proper k.proper;
}

pub repeated_fits : (m : MachineState) (n : ℕ) (xs : List Value) → Fits m (value.Tuple xs) → Fits m (value.Tuple (repeat n xs))
repeated_fits m n xs h = inside_tuple m (repeat n xs) (all_repeat (inside m.state.objects) n xs (tuple_inside m xs h))

pub repeated_all : (m : MachineState) (n : ℕ) (xs : List Value) → AllFit m xs → AllFit m (repeat n xs)
repeated_all m n xs h = record {
  references = all_repeat (fits m.state.objects) n xs h.references;
  proper = all_repeat is_proper n xs h.proper;
}

-- ---- what is repeated

pub repeat_nothing : {A : Type 0} (n : ℕ) (xs : List A) → length xs ≡ 0 → repeat n xs ≡ []
repeat_nothing zero xs h = refl
repeat_nothing (suc n) [] h = repeat_nothing n [] h
repeat_nothing (suc n) (x ∷ xs) h = absurd (omega (arith, h))

-- one time more
one_time : {A : Type 0} (xs : List A) (place count : ℕ) → place < count → repeat (count - place) xs ≡ xs ++ repeat (count - (place + 1)) xs
one_time xs place count h = let e : count - place ≡ suc (count - (place + 1)) = omega arith in ap (λ n. repeat n xs) e

pub repeat_more : {A : Type 0} (done xs all : List A) (place count : ℕ) → place < count → done ++ repeat (count - place) xs ≡ all → (done ++ xs) ++ repeat (count - (place + 1)) xs ≡ all
repeat_more done xs all place count h before = append_assoc done xs (repeat (count - (place + 1)) xs) ∙ ap (λ ys. done ++ ys) (sym (one_time xs place count h)) ∙ before

module _ (xs : List Value) (place count left : ℕ) (total : Result (Unit {0}) Failure × ℕ) (h : place < count) where
  pub paid_more : (rest : ℕ) (done : Unit {0}) → charged left (sum_of_weights xs) ≡ (Ok done, rest) → charged left (sum_of_weights (repeat (count - place) xs)) ≡ total
      → charged rest (sum_of_weights (repeat (count - (place + 1)) xs)) ≡ total
  paid_more rest done paid before = sym (both_paid left rest xs (repeat (count - (place + 1)) xs) done paid) ∙ ap (λ ys. charged left (sum_of_weights ys)) (sym (one_time xs place count h)) ∙ before

  pub paid_over : (rest : ℕ) (e : Failure) → charged left (sum_of_weights xs) ≡ (Err e, rest) → charged left (sum_of_weights (repeat (count - place) xs)) ≡ total → total ≡ (Err e, rest)
  paid_over rest e over before = sym before ∙ ap (λ ys. charged left (sum_of_weights ys)) (one_time xs place count h) ∙ first_over left rest xs (repeat (count - (place + 1)) xs) e over

pub ruleset repeats = (repeat_more, paid_more, paid_over)
