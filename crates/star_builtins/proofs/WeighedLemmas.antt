-- Results that are not made, since their weight passes what is left.
use Rattle.std.proofs.Common.{◌≡◌, ℕ, ◌+◌, ◌-◌, ◌*◌, ◌<◌, List, length, length-append, refl, sym, ap, ◌∙◌, arith, suc, zero}
use Rattle.std.specs.Prelude.{Result, Ok, Err}
use Rattle.std.specs.List.{repeat}
use Rattle.std.proofs.lemmas.Bool.Decides.{nat_tests}
use Rattle.star_value.specs.declared.failure.Failure.{Failure}
use Rattle.star_value.specs.declared.failure.Failure.TheVariants as failure
use Rattle.star_value.specs.declared.stop.Stop.{Stop}
use Rattle.star_value.specs.declared.stop.Stop.TheVariants as stop
use Rattle.star_value.specs.declared.value.Value.{Value}
use Rattle.star_value.specs.declared.value.Value.TheVariants as value
use Rattle.star_value.specs.Charge.{charged}
use Rattle.star_value.specs.Weight.{weight, sum_of_weights}
use Rattle.star_meaning.proofs.Equations.{weight_text, weight_tuple}
use Rattle.star_meaning.specs.State.{State}
use Rattle.star_meaning.specs.Steps.{Outcome, Went, Failed, Store, Gives, charge}
use Rattle.star_builtins.specs.Reached.{weighed, GivesWeighed}
use Rattle.star_builtins.proofs.PartLemmas.{weights_append}

zero_times : (m : ℕ) → 0 ≡ 0 * m
zero_times m = omega arith

suc_times : (n m : ℕ) → suc n * m ≡ m + n * m
suc_times n m = omega arith

pub gives_weighed : {C : Type 0} (outcome : Outcome (Store C) Failure Value) (r : Result Value Stop) (new : Store C) → Gives outcome r new → GivesWeighed outcome r new
gives_weighed outcome (Ok v) new h = h
gives_weighed outcome (Err (stop.Failure e)) new h = ap weighed h
gives_weighed outcome (Err stop.NoMemory) new h = h

length_repeat : {A : Type 0} (n : ℕ) (xs : List A) → length (repeat n xs) ≡ n * length xs
length_repeat zero xs = zero_times (length xs)
length_repeat (suc n) xs = length-append xs (repeat n xs) ∙ ap (λ m. length xs + m) (length_repeat n xs) ∙ sym (suc_times n (length xs))

weights_repeat : (n : ℕ) (xs : List Value) → sum_of_weights (repeat n xs) ≡ n * sum_of_weights xs
weights_repeat zero xs = zero_times (sum_of_weights xs)
weights_repeat (suc n) xs = weights_append xs (repeat n xs) ∙ ap (λ m. sum_of_weights xs + m) (weights_repeat n xs) ∙ sym (suc_times n (sum_of_weights xs))

over : (left n : ℕ) → left < n → charged left n ≡ (Err failure.StepLimit, 0)
over left n h = grind (arith, nat_tests)

-- a value is not made where the charge of its weight stops the cell
pub stopped : (v : Value) (s : State ℕ) (left n : ℕ) → weight v ≡ n + 1 → left < n
    → weighed (Went v (record { state = s; left = left })) ≡ Failed failure.StepLimit (record { state = s; left = 0 })
unfolding charge
stopped v s left n is h =
    let rest : weight v - 1 ≡ n = omega (arith, is) in
    rw (rest, over left n h) refl

pub text_stopped : (s : State ℕ) (left n : ℕ) (xs : List ℕ) → left < n * length xs
    → weighed (Went (value.Text (repeat n xs)) (record { state = s; left = left })) ≡ Failed failure.StepLimit (record { state = s; left = 0 })
text_stopped s left n xs h = stopped (value.Text (repeat n xs)) s left (n * length xs) (weight_text (repeat n xs) ∙ ap (λ m. m + 1) (length_repeat n xs)) h

pub tuple_stopped : (s : State ℕ) (left n : ℕ) (xs : List Value) → left < n * sum_of_weights xs
    → weighed (Went (value.Tuple (repeat n xs)) (record { state = s; left = left })) ≡ Failed failure.StepLimit (record { state = s; left = 0 })
tuple_stopped s left n xs h = stopped (value.Tuple (repeat n xs)) s left (n * sum_of_weights xs) (weight_tuple (repeat n xs) ∙ ap (λ m. m + 1) (weights_repeat n xs)) h

pub ruleset weighing = (gives_weighed, text_stopped, tuple_stopped)
