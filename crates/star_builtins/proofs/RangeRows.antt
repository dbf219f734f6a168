-- The rows of `range`, and which ranges fit a machine.
use Rattle.std.proofs.Common.{◌≡◌, ℕ, suc, zero, ◌<◌, ◌≤◌, Bool, true, false, List, [], ◌∷◌, length, get_or, refl, sym, ap, ◌∙◌, subst, arith, IsTrue, Option, Some, None, ℤ, pos, negsuc}
use Rattle.std.specs.Prelude.{Result, Ok, Err, FitsSigned, not, ◌&&◌}
use Rattle.std.specs.Int.{w128}
use Rattle.std.proofs.lemmas.Bool.Decides.{nat_tests}
use Rattle.heap_store.proofs.Tested.{and_both}
use Rattle.star_value.specs.declared.failure.Failure.{Failure}
use Rattle.star_value.specs.declared.failure.Failure.TheVariants as failure
use Rattle.star_value.specs.declared.range.Range.{Range}
use Rattle.star_value.specs.declared.value.Value.{Value, fold-roll-Value}
use Rattle.star_value.specs.declared.value.Value.TheVariants as value
use Rattle.star_value.specs.Weight.{depth_step}
use Rattle.star_meaning.proofs.Equations.{out_int}
use Rattle.star_meaning.specs.Builtins as spec
use Rattle.star_meaning.specs.Steps.{Outcome, Went, Failed, Action, Store, given_or, ◌>>=◌}
use Rattle.star_meaning.specs.Validity.{MachineState, fits, fits_step, is_proper, proper_step}
use Rattle.star_meaning.specs.Values.{int_at, int_in, has_128_bits, is_zero}
use Rattle.star_builtins.specs.Reached.{Answers, Fits}
use Rattle.star_builtins.specs.Rows.{ranged}

pub answers_as : {A : Type 0} (o p : Outcome (Store ℕ) Failure A) (r : Result A Failure) (s : Store ℕ) → o ≡ p → Answers p r s → Answers o r s
answers_as o p r s same h = subst (λ q. Answers q r s) (sym same) h

-- ---- the arguments

after_start : (o p q : Option ℤ) (s : Store ℕ)
    → (given_or failure.WrongType o >>= (λ start. given_or failure.WrongType p >>= (λ stop. given_or failure.WrongType q >>= (λ step. spec.new_range start stop step)))) s ≡ ranged o p q s
after_start (Some a) (Some b) (Some c) s = refl
after_start (Some a) (Some b) None s = refl
after_start (Some a) None q s = refl
after_start None p q s = refl

zero_is : int_in (value.Int (pos 0)) ≡ Some (pos 0)
zero_is = ap int_at (out_int (pos 0))

module _ (s : Store ℕ) where
  one_row : (b : Value) → spec.range (b ∷ []) s ≡ ranged (Some (pos 0)) (int_in b) (Some (pos 1)) s
  unfolding spec.range
  one_row b =
      ap (λ o. (given_or failure.WrongType o >>= (λ start. given_or failure.WrongType (int_in b) >>= (λ stop. spec.new_range start stop (pos 1)))) s) zero_is
      ∙ after_start (Some (pos 0)) (int_in b) (Some (pos 1)) s

  two_row : (a b : Value) → spec.range (a ∷ b ∷ []) s ≡ ranged (int_in a) (int_in b) (Some (pos 1)) s
  unfolding spec.range
  two_row a b = after_start (int_in a) (int_in b) (Some (pos 1)) s

  three_row : (a b c : Value) → spec.range (a ∷ b ∷ c ∷ []) s ≡ ranged (int_in a) (int_in b) (int_in c) s
  unfolding spec.range
  three_row a b c = after_start (int_in a) (int_in b) (int_in c) s

  pub range_one : (values : List Value) (b : Value) → length values ≡ 1 → b ≡ get_or values 0 b → spec.range values s ≡ ranged (Some (pos 0)) (int_in b) (Some (pos 1)) s
  range_one [] b h is = absurd (omega (arith, h))
  range_one (x ∷ []) b h is = rw is (one_row x)
  range_one (x ∷ y ∷ more) b h is = absurd (omega (arith, h))

  pub range_two : (values : List Value) (a b : Value) → length values ≡ 2 → a ≡ get_or values 0 a → b ≡ get_or values 1 b → spec.range values s ≡ ranged (int_in a) (int_in b) (Some (pos 1)) s
  range_two [] a b h is_a is_b = absurd (omega (arith, h))
  range_two (x ∷ []) a b h is_a is_b = absurd (omega (arith, h))
  range_two (x ∷ y ∷ []) a b h is_a is_b = rw (is_a, is_b) (two_row x y)
  range_two (x ∷ y ∷ z ∷ more) a b h is_a is_b = absurd (omega (arith, h))

  pub range_three : (values : List Value) (a b c : Value) → length values ≡ 3 → a ≡ get_or values 0 a → b ≡ get_or values 1 b → c ≡ get_or values 2 c → spec.range values s ≡ ranged (int_in a) (int_in b) (int_in c) s
  range_three [] a b c h is_a is_b is_c = absurd (omega (arith, h))
  range_three (x ∷ []) a b c h is_a is_b is_c = absurd (omega (arith, h))
  range_three (x ∷ y ∷ []) a b c h is_a is_b is_c = absurd (omega (arith, h))
  range_three (x ∷ y ∷ z ∷ []) a b c h is_a is_b is_c = rw (is_a, is_b, is_c) (three_row x y z)
  range_three (x ∷ y ∷ z ∷ w ∷ more) a b c h is_a is_b is_c = absurd (omega (arith, h))

  pub range_other : (values : List Value) → (length values ≡ 1 → ⊥) → (length values ≡ 2 → ⊥) → (length values ≡ 3 → ⊥) → spec.range values s ≡ Failed failure.WrongArguments s
  unfolding spec.range
  range_other [] one two three = refl
  range_other (x ∷ []) one two three = absurd (one refl)
  range_other (x ∷ y ∷ []) one two three = absurd (two refl)
  range_other (x ∷ y ∷ z ∷ []) one two three = absurd (three refl)
  range_other (x ∷ y ∷ z ∷ w ∷ more) one two three = refl

pub ruleset rows = (range_one, range_two, range_three, range_other)

-- ---- a range that fits

has_bits : (z : ℤ) → FitsSigned w128 z → IsTrue (has_128_bits z)
has_bits (pos n) h = grind (arith, nat_tests)
has_bits (negsuc n) h = grind (arith, nat_tests)

pub fits_range : (m : MachineState) (r : Range) → FitsSigned w128 r.start → FitsSigned w128 r.stop → FitsSigned w128 r.step → is_zero r.step ≡ false → Fits m (value.Range r)
unfolding fits is_proper
fits_range m r start stop step some = record {
  references = rw (← value.rolls-Range r, fold-roll-Value Bool (fits_step m.state.objects)) refl;
  proper = rw (← value.rolls-Range r, fold-roll-Value ℕ depth_step, fold-roll-Value Bool proper_step)
      (and_both ((has_128_bits r.start && has_128_bits r.stop) && has_128_bits r.step) (not (is_zero r.step))
      (and_both (has_128_bits r.start && has_128_bits r.stop) (has_128_bits r.step) (and_both (has_128_bits r.start) (has_128_bits r.stop) (has_bits r.start start) (has_bits r.stop stop)) (has_bits r.step step))
      (ap not some));
}
