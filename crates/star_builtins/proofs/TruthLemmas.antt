-- Which values count as true.
use Rattle.std.proofs.Common.{◌≡◌, ℕ, Bool, true, false, List, [], ◌∷◌, length, refl, ap, ◌∙◌, sym, arith, ℤ, pos, negsuc, IsTrue}
use Rattle.std.specs.Prelude.{not, nat_eq}
use Rattle.std.proofs.lemmas.Bool.Decides.{nat_tests}
use Rattle.star_value.specs.declared.builtin.Builtin.{Builtin}
use Rattle.star_value.specs.declared.range.Range.{Range}
use Rattle.star_value.specs.declared.value.Value.{Value, fold-roll-Value, out-Value}
use Rattle.star_value.specs.declared.value.Value.TheVariants as value
use Rattle.star_value.specs.Ranges.{range_count}
use Rattle.star_value.specs.Weight.{depth_step}
use Rattle.star_meaning.proofs.Equations.{out_none, out_bool, out_int, out_text, out_tuple, out_range, out_list, out_dict, out_function, out_builtin}
use Rattle.star_meaning.specs.State.{Object, State, list, dict}
use Rattle.star_meaning.specs.Validity.{MachineState, fits, fits_step, is_proper, proper_step}
use Rattle.star_meaning.specs.Values.{is_true, truth_at, is_empty, is_zero}
use Rattle.star_builtins.specs.Reached.{Fits}

empty_is : {A : Type 0} (xs : List A) → is_empty xs ≡ nat_eq (length xs) 0
empty_is [] = refl
empty_is (x ∷ xs) = let some : nat_eq (length (x ∷ xs)) 0 ≡ false = grind (arith, nat_tests) in sym some

module _ (s : State ℕ) where
  pub true_none : is_true s value.None ≡ false
  unfolding is_true
  true_none = ap (truth_at s) out_none

  pub true_bool : (b : Bool) → is_true s (value.Bool b) ≡ b
  unfolding is_true
  true_bool b = ap (truth_at s) (out_bool b)

  pub true_int : (z : ℤ) → is_true s (value.Int z) ≡ not (is_zero z)
  unfolding is_true
  true_int z = ap (truth_at s) (out_int z)

  pub true_text : (points : List ℕ) → is_true s (value.Text points) ≡ not (nat_eq (length points) 0)
  unfolding is_true
  true_text points = ap (truth_at s) (out_text points) ∙ ap not (empty_is points)

  pub true_tuple : (items : List Value) → is_true s (value.Tuple items) ≡ not (nat_eq (length items) 0)
  unfolding is_true
  true_tuple items = ap (truth_at s) (out_tuple items) ∙ ap not (empty_is items)

  pub true_range : (r : Range) → is_true s (value.Range r) ≡ not (nat_eq (range_count r) 0)
  unfolding is_true
  true_range r = ap (truth_at s) (out_range r)

  pub true_list : (id : ℕ) → is_true s (value.List id) ≡ not (nat_eq (length (list s id)) 0)
  unfolding is_true
  true_list id = ap (truth_at s) (out_list id) ∙ ap not (empty_is (list s id))

  pub true_dict : (id : ℕ) → is_true s (value.Dict id) ≡ not (nat_eq (length (dict s id)) 0)
  unfolding is_true
  true_dict id = ap (truth_at s) (out_dict id) ∙ ap not (empty_is (dict s id))

  pub true_function : (id : ℕ) → is_true s (value.Function id) ≡ true
  unfolding is_true
  true_function id = ap (truth_at s) (out_function id)

  pub true_builtin : (which : Builtin) → is_true s (value.Builtin which) ≡ true
  unfolding is_true
  true_builtin which = ap (truth_at s) (out_builtin which)

pub ruleset truths = (true_none, true_bool, true_int, true_text, true_tuple, true_range, true_list, true_dict, true_function, true_builtin)

pub fits_bool : (m : MachineState) (b : Bool) → Fits m (value.Bool b)
unfolding fits is_proper
fits_bool m b = record {
  references = rw (← value.rolls-Bool b, fold-roll-Value Bool (fits_step m.state.objects)) refl;
  proper = rw (← value.rolls-Bool b, fold-roll-Value ℕ depth_step, fold-roll-Value Bool proper_step) refl;
}

pub fits_none : (m : MachineState) → Fits m value.None
unfolding fits is_proper
fits_none m = record {
  references = rw (← value.rolls-None, fold-roll-Value Bool (fits_step m.state.objects)) refl;
  proper = rw (← value.rolls-None, fold-roll-Value ℕ depth_step, fold-roll-Value Bool proper_step) refl;
}
