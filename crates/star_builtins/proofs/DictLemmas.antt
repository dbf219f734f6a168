-- The rows of the methods of dicts over what the code has found out.
use Rattle.std.proofs.Common.{◌≡◌, ℕ, Bool, List, length, refl, sym, ap, ◌∙◌, subst, IsTrue, Option, Some, None, slice_get}
use Rattle.std.specs.Prelude.{Result, Ok, Err, unwrap_or}
use Rattle.star_value.specs.declared.failure.Failure.{Failure}
use Rattle.star_value.specs.declared.failure.Failure.TheVariants as failure
use Rattle.star_value.specs.declared.key.Key.{Key}
use Rattle.star_value.specs.declared.stop.Stop.{Stop}
use Rattle.star_value.specs.declared.value.Value.{Value, fold-roll-Value}
use Rattle.star_value.specs.declared.value.Value.TheVariants as value
use Rattle.star_value.specs.Charge.{charged}
use Rattle.star_value.specs.Keys.{key_of, value_of}
use Rattle.star_value.specs.Weight.{weight, sum_of_weights, depth_step}
use Rattle.star_meaning.specs.Builtins.{tuples}
use Rattle.star_meaning.specs.Methods as spec
use Rattle.star_meaning.specs.Operators.{check_unlocked}
use Rattle.star_meaning.specs.State.{Object, State, dict, dict_get, dict_put, dict_without, with_dict}
use Rattle.star_meaning.specs.Steps.{Went, Failed, Gives, Store, charge}
use Rattle.star_meaning.specs.Validity.{MachineState, fits, fits_step, is_dict, is_proper, proper_step}
use Rattle.star_builtins.specs.MethodRows as rows
use Rattle.star_builtins.specs.Reached.{Fits, store}
use Rattle.star_builtins.specs.Walks.{given}
use Rattle.star_builtins.proofs.KeyLemmas.{key_weight}
use Rattle.star_builtins.proofs.WalkLemmas.{given_dict, keys_length}

found_went : (d o : Option Value) (v : Value) (s : Store ℕ) → rows.found_check d o ≡ Ok tt → unwrap_or o (unwrap_or d value.None) ≡ v → spec.found_or o d s ≡ Went v s
found_went (Some x) (Some y) v s ok is = ap (λ w. Went w s) is
found_went (Some x) None v s ok is = ap (λ w. Went w s) is
found_went None (Some y) v s ok is = ap (λ w. Went w s) is
found_went None None v s ok is = absurd (cc)

found_failed : (d o : Option Value) (e : Failure) (s : Store ℕ) → rows.found_check d o ≡ Err e → spec.found_or o d s ≡ Failed e s
found_failed (Some x) o e s bad = absurd (cc)
found_failed None (Some y) e s bad = absurd (cc)
found_failed None None e s bad = let same : failure.NoKey ≡ e = cc in ap (λ x. Failed x s) same

module _ (m : MachineState) (id left rest : ℕ) (k : Value) (key : Key) (known : key_of k ≡ Some key) where
  paid : (r : Result (Unit {0}) Failure × ℕ) → charged left (weight (value_of key)) ≡ r → charged left (weight k) ≡ r
  paid r h = ap (charged left) (sym (key_weight k key known)) ∙ h

  -- ---- get

  pub got : (d : Option Value) (v : Value) → charged left (weight (value_of key)) ≡ (Ok tt, rest) → unwrap_or (dict_get (dict m.state id) key) (unwrap_or d value.None) ≡ v → rows.get_value id k d (store m left) ≡ Went v (store m rest)
  unfolding charge
  got d v h is = rw (known, paid (Ok tt, rest) h, is) refl

  pub got_over : (d : Option Value) (e : Failure) → charged left (weight (value_of key)) ≡ (Err e, rest) → rows.get_value id k d (store m left) ≡ Failed e (store m rest)
  unfolding charge
  got_over d e h = rw (known, paid (Err e, rest) h) refl

  module _ (locked : List ℕ) (free : (s : Store ℕ) → check_unlocked locked id s ≡ Went tt s) where
    -- ---- pop

    pub popped : (after : MachineState) (d : Option Value) (v : Value) → Ok tt ≡ rows.found_check d (dict_get (dict m.state id) key) → unwrap_or (dict_get (dict m.state id) key) (unwrap_or d value.None) ≡ v → charged left (weight (value_of key)) ≡ (Ok tt, rest)
        → after ≡ record m { state = with_dict m.state id (dict_without (dict m.state id) key) } → rows.pop_value locked id k d (store m left) ≡ Went v (store after rest)
    unfolding charge
    popped after d v ok found h is = rw (known, free (store m left), found_went d (dict_get (dict m.state id) key) v (store m left) (sym ok) found, paid (Ok tt, rest) h, is) refl

    pub popped_over : (d : Option Value) (e : Failure) → Ok tt ≡ rows.found_check d (dict_get (dict m.state id) key) → charged left (weight (value_of key)) ≡ (Err e, rest) → rows.pop_value locked id k d (store m left) ≡ Failed e (store m rest)
    unfolding charge
    popped_over d e ok h =
        rw (known, free (store m left), found_went d (dict_get (dict m.state id) key) (unwrap_or (dict_get (dict m.state id) key) (unwrap_or d value.None)) (store m left) (sym ok) refl, paid (Err e, rest) h) refl

    pub unpopped : (d : Option Value) (e : Failure) → Err e ≡ rows.found_check d (dict_get (dict m.state id) key) → rows.pop_value locked id k d (store m left) ≡ Failed e (store m left)
    unpopped d e bad = rw (known, free (store m left), found_failed d (dict_get (dict m.state id) key) e (store m left) (sym bad)) refl

    -- ---- setdefault

    pub found : (d : Option Value) (v : Value) → charged left (weight (value_of key)) ≡ (Ok tt, rest) → dict_get (dict m.state id) key ≡ Some v → rows.default_value locked id k d (store m left) ≡ Went v (store m rest)
    unfolding charge
    found d v h is = rw (known, free (store m left), paid (Ok tt, rest) h, is) refl

    pub defaulted : (after : MachineState) (d : Option Value) (v : Value) → charged left (weight (value_of key)) ≡ (Ok tt, rest) → dict_get (dict m.state id) key ≡ None → unwrap_or d value.None ≡ v
        → after ≡ record m { state = with_dict m.state id (dict_put (dict m.state id) key v) } → rows.default_value locked id k d (store m left) ≡ Went v (store after rest)
    unfolding charge
    defaulted after d v h none default is = rw (known, free (store m left), paid (Ok tt, rest) h, none, default, is) refl

    pub default_over : (d : Option Value) (e : Failure) → charged left (weight (value_of key)) ≡ (Err e, rest) → rows.default_value locked id k d (store m left) ≡ Failed e (store m rest)
    unfolding charge
    default_over d e h = rw (known, free (store m left), paid (Err e, rest) h) refl

-- ---- update

module _ (m : MachineState) (locked : List ℕ) (id left rest : ℕ) (more : List (Key × Value)) (free : (s : Store ℕ) → check_unlocked locked id s ≡ Went tt s) where
  pub updated : (after : MachineState) → charged left (sum_of_weights (rows.flat_pairs more)) ≡ (Ok tt, rest) → after ≡ record m { state = with_dict m.state id (spec.put_all (dict m.state id) more) }
      → rows.update_pairs locked id more (store m left) ≡ Went value.None (store after rest)
  unfolding charge
  updated after h is = rw (free (store m left), h, is) refl

  pub update_over : (e : Failure) → charged left (sum_of_weights (rows.flat_pairs more)) ≡ (Err e, rest) → rows.update_pairs locked id more (store m left) ≡ Failed e (store m rest)
  unfolding charge
  update_over e h = rw (free (store m left), h) refl

-- ---- keys

references_dict : (os : List (Object ℕ)) (id : ℕ) → IsTrue (is_dict (slice_get os id)) → IsTrue (fits os (value.Dict id))
unfolding fits
references_dict os id is = rw (← value.rolls-Dict id, fold-roll-Value Bool (fits_step os)) is

proper_dict : (id : ℕ) → IsTrue (is_proper (value.Dict id))
unfolding is_proper
proper_dict id = rw (← value.rolls-Dict id, fold-roll-Value ℕ depth_step, fold-roll-Value Bool proper_step) refl

pub dict_fits : (m : MachineState) (id : ℕ) → IsTrue (is_dict (slice_get m.state.objects id)) → Fits m (value.Dict id)
dict_fits m id is = record { references = references_dict m.state.objects id is; proper = proper_dict id }

pub dict_count : (s : State ℕ) (id n : ℕ) → n ≡ length (dict s id) → length (given s (value.Dict id)) ≡ n
dict_count s id n is = ap length (given_dict s id) ∙ keys_length (dict s id) ∙ sym is

-- ---- items

pub rows_of : (pairs other : List (Key × Value)) (s t : Store ℕ) (r : Result (List Value) Stop) → pairs ≡ other → Gives (tuples (spec.pair_rows pairs) s) r t → Gives (tuples (spec.pair_rows other) s) r t
rows_of pairs other s t r same h = subst (λ ps. Gives (tuples (spec.pair_rows ps) s) r t) same h
