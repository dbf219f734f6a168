-- Values that fit a machine, and what an object's kind says of it.
use Rattle.std.proofs.Common.{◌≡◌, ℕ, Bool, ◌||◌, List, [], ◌∷◌, map, refl, IsTrue, Option, Some, None, slice_get}
use Rattle.std.specs.Prelude.{ℤ, option_map}
use Rattle.std.specs.List.{list_all}
use Rattle.star_value.specs.declared.builtin.Builtin.{Builtin}
use Rattle.star_value.specs.declared.key.Key.{Key}
use Rattle.star_value.specs.declared.range.Range.{Range}
use Rattle.star_value.specs.declared.value.Value.{Value, fold-roll-Value}
use Rattle.star_value.specs.declared.value.Value.TheVariants as value
use Rattle.star_meaning.specs.State.{Object, AList, ADict, AFunction, dict_put}
use Rattle.star_meaning.specs.Validity.{MachineState, is_list, is_dict, is_function, fits, fits_step, is_proper, proper_step}
use Rattle.star_meaning.proofs.Equations.{depth_list}
use Rattle.star_builtins.specs.Reached.{Fits}
use Rattle.heap_store.proofs.PairLemmas.{values_put}
use Rattle.heap_store.specs.Objects.{kind_of}
use Rattle.heap_store.specs.declared.kind.Kind.TheVariants as kind

-- ---- values that name an object

pub fits_list : (os : List (Object ℕ)) (id : ℕ) → IsTrue (is_list (slice_get os id)) → IsTrue (fits os (value.List id))
unfolding fits
fits_list os id is = rw (← value.rolls-List id, fold-roll-Value Bool (fits_step os)) is

pub fits_dict : (os : List (Object ℕ)) (id : ℕ) → IsTrue (is_dict (slice_get os id)) → IsTrue (fits os (value.Dict id))
unfolding fits
fits_dict os id is = rw (← value.rolls-Dict id, fold-roll-Value Bool (fits_step os)) is

pub fits_function : (os : List (Object ℕ)) (id : ℕ) → IsTrue (is_function (slice_get os id)) → IsTrue (fits os (value.Function id))
unfolding fits
fits_function os id is = rw (← value.rolls-Function id, fold-roll-Value Bool (fits_step os)) is

pub ruleset references = (fits_list, fits_dict, fits_function)

pub proper_list : (id : ℕ) → IsTrue (is_proper (value.List id))
unfolding is_proper
proper_list id = rw (depth_list id, ← value.rolls-List id, fold-roll-Value Bool proper_step) refl

pub lists : (m : MachineState) (id : ℕ) → IsTrue (is_list (slice_get m.state.objects id)) → Fits m (value.List id)
lists m id is = record { references = fits_list m.state.objects id is; proper = proper_list id }

-- ---- values that name none

pub fits_none : (os : List (Object ℕ)) → IsTrue (fits os value.None)
unfolding fits
fits_none os = rw (← value.rolls-None, fold-roll-Value Bool (fits_step os)) refl

pub fits_int : (os : List (Object ℕ)) (n : ℤ) → IsTrue (fits os (value.Int n))
unfolding fits
fits_int os n = rw (← value.rolls-Int n, fold-roll-Value Bool (fits_step os)) refl

pub fits_text : (os : List (Object ℕ)) (points : List ℕ) → IsTrue (fits os (value.Text points))
unfolding fits
fits_text os points = rw (← value.rolls-Text points, fold-roll-Value Bool (fits_step os)) refl

pub fits_range : (os : List (Object ℕ)) (r : Range) → IsTrue (fits os (value.Range r))
unfolding fits
fits_range os r = rw (← value.rolls-Range r, fold-roll-Value Bool (fits_step os)) refl

pub fits_builtin : (os : List (Object ℕ)) (which : Builtin) → IsTrue (fits os (value.Builtin which))
unfolding fits
fits_builtin os which = rw (← value.rolls-Builtin which, fold-roll-Value Bool (fits_step os)) refl

pub ruleset plain = (fits_none, fits_int, fits_text, fits_range, fits_builtin)

fits_tuple : (os : List (Object ℕ)) (items : List Value) → IsTrue (list_all (λ b. b) (map (fits os) items)) → IsTrue (fits os (value.Tuple items))
unfolding fits
fits_tuple os items h = rw (← value.rolls-Tuple items, fold-roll-Value Bool (fits_step os)) h

pub fits_two : (os : List (Object ℕ)) (m n : ℤ) → IsTrue (fits os (value.Tuple (value.Int m ∷ value.Int n ∷ [])))
fits_two os m n = fits_tuple os (value.Int m ∷ value.Int n ∷ []) (rw (fits_int os m, fits_int os n) refl)

-- an integer that is put among pairs that fit
pub put_fits : (os : List (Object ℕ)) (pairs : List (Key × Value)) (key : Key) (n : ℤ) → IsTrue (list_all (λ pair. fits os pair.1) pairs) → IsTrue (list_all (λ pair. fits os pair.1) (dict_put pairs key (value.Int n)))
put_fits os pairs key n h = values_put (fits os) key (value.Int n) (fits_int os n) pairs h

-- ---- kinds

pub kind_list : (o : Option (Object ℕ)) → option_map kind_of o ≡ Some kind.List → IsTrue (is_list o)
kind_list (Some (AList items)) h = refl
kind_list (Some (ADict pairs)) h = absurd (cc)
kind_list (Some (AFunction cell number defaults)) h = absurd (cc)
kind_list None h = absurd (cc)

pub kind_dict : (o : Option (Object ℕ)) → option_map kind_of o ≡ Some kind.Dict → IsTrue (is_dict o)
kind_dict (Some (AList items)) h = absurd (cc)
kind_dict (Some (ADict pairs)) h = refl
kind_dict (Some (AFunction cell number defaults)) h = absurd (cc)
kind_dict None h = absurd (cc)

pub kind_function : (o : Option (Object ℕ)) → option_map kind_of o ≡ Some kind.Function → IsTrue (is_function o)
kind_function (Some (AList items)) h = absurd (cc)
kind_function (Some (ADict pairs)) h = absurd (cc)
kind_function (Some (AFunction cell number defaults)) h = refl
kind_function None h = absurd (cc)

pub cleared_dict : (o : Option (Object ℕ)) → IsTrue (is_dict o) → IsTrue (is_list o || is_dict o)
cleared_dict (Some (AList items)) h = refl
cleared_dict (Some (ADict pairs)) h = refl
cleared_dict (Some (AFunction cell number defaults)) h = h
cleared_dict None h = h
