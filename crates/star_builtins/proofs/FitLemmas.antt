-- Which values fit a machine.
use Rattle.std.proofs.Common.{◌≡◌, ℕ, suc, zero, ◌+◌, ◌<◌, Bool, true, false, cond, List, [], ◌∷◌, map, max, refl, sym, subst, arith, IsTrue, Option, Some, slice_get}
use Rattle.std.specs.Prelude.{ℤ, pos, negsuc, FitsSigned, nat_le, nat_lt, ◌&&◌}
use Rattle.std.specs.Int.{w128}
use Rattle.std.specs.Str.{all_scalars}
use Rattle.std.specs.List.{list_all}
use Rattle.std.proofs.lemmas.Bool.Decides.{nat_tests}
use Rattle.heap_store.proofs.Kept.{items_fit, pairs_fit}
use Rattle.heap_store.proofs.Tested.{and_left, and_right, and_both, all_mono}
use Rattle.star_value.specs.KeyOrder.{same_key}
use Rattle.star_value.specs.Keys.{value_of}
use Rattle.star_meaning.specs.Values.{has_128_bits}
use Rattle.star_value.specs.Weight.{depth, depth_step, greatest}
use Rattle.star_value.specs.declared.key.Key.{Key}
use Rattle.star_value.specs.declared.value.Value.{Value, fold-Value, fold-roll-Value}
use Rattle.star_value.specs.declared.value.Value.TheVariants as value
use Rattle.star_meaning.specs.State.{Object, State, object, list, dict, dict_get}
use Rattle.star_meaning.specs.Validity.{MachineState, IsMachine, fits, fits_step, is_proper, proper_step, is_list, is_dict, all_in, all_in_pair, all_in_object}
use Rattle.star_meaning.proofs.Equations.{depth_tuple}
use Rattle.star_builtins.specs.Reached.{Fits, AllFit}

-- ---- values without others in them

pub references_int : (os : List (Object ℕ)) (z : ℤ) → IsTrue (fits os (value.Int z))
unfolding fits
references_int os z = rw (← value.rolls-Int z, fold-roll-Value Bool (fits_step os)) refl

has_bits : (z : ℤ) → FitsSigned w128 z → IsTrue (has_128_bits z)
has_bits (pos n) h = grind (arith, nat_tests)
has_bits (negsuc n) h = grind (arith, nat_tests)

pub proper_int : (z : ℤ) → FitsSigned w128 z → IsTrue (is_proper (value.Int z))
unfolding is_proper
proper_int z h = rw (← value.rolls-Int z, fold-roll-Value ℕ depth_step, fold-roll-Value Bool proper_step) (has_bits z h)

pub fits_int : (m : MachineState) (z : ℤ) → FitsSigned w128 z → Fits m (value.Int z)
fits_int m z h = record { references = references_int m.state.objects z; proper = proper_int z h }

pub ruleset int_fits = (fits_int)

pub references_text : (os : List (Object ℕ)) (points : List ℕ) → IsTrue (fits os (value.Text points))
unfolding fits
references_text os points = rw (← value.rolls-Text points, fold-roll-Value Bool (fits_step os)) refl

pub proper_text : (points : List ℕ) → all_scalars points ≡ true → IsTrue (is_proper (value.Text points))
unfolding is_proper
proper_text points h = rw (← value.rolls-Text points, fold-roll-Value ℕ depth_step, fold-roll-Value Bool proper_step) h

pub fits_text : (m : MachineState) (points : List ℕ) → all_scalars points ≡ true → Fits m (value.Text points)
fits_text m points h = record { references = references_text m.state.objects points; proper = proper_text points h }

pub ruleset text_fits = (fits_text)

-- ---- lists and dicts

pub references_list : (os : List (Object ℕ)) (id : ℕ) → IsTrue (is_list (slice_get os id)) → IsTrue (fits os (value.List id))
unfolding fits
references_list os id is = rw (← value.rolls-List id, fold-roll-Value Bool (fits_step os)) is

pub proper_list : (id : ℕ) → IsTrue (is_proper (value.List id))
unfolding is_proper
proper_list id = rw (← value.rolls-List id, fold-roll-Value ℕ depth_step, fold-roll-Value Bool proper_step) refl

pub is_list_of : (m : MachineState) (id : ℕ) → Fits m (value.List id) → IsTrue (is_list (slice_get m.state.objects id))
unfolding fits
is_list_of m id fit = rw (← value.rolls-List id, fold-roll-Value Bool (fits_step m.state.objects)) at fit.references

pub is_dict_of : (m : MachineState) (id : ℕ) → Fits m (value.Dict id) → IsTrue (is_dict (slice_get m.state.objects id))
unfolding fits
is_dict_of m id fit = rw (← value.rolls-Dict id, fold-roll-Value Bool (fits_step m.state.objects)) at fit.references

objects_are : (test : Value → Bool) (s : State ℕ) → IsTrue (all_in test s) → IsTrue (list_all (all_in_object test) s.objects)
objects_are test s h = and_right (list_all (λ global. test global.1) s.globals) (list_all (all_in_object test) s.objects) h

pub list_items : (m : MachineState) (id : ℕ) → IsMachine m → IsTrue (all_in is_proper m.state) → AllFit m (list m.state id)
unfolding list object
list_items m id kept proper = record {
  references = items_fit (fits m.state.objects) m.state.objects id (objects_are (fits m.state.objects) m.state kept.references);
  proper = items_fit is_proper m.state.objects id (objects_are is_proper m.state proper);
}

found_passes : (test : Value → Bool) (key : Key) (pair : Key × Value) (b : Bool) (o : Option Value) (v : Value) → IsTrue (all_in_pair test pair) → (o ≡ Some v → IsTrue (test v)) → cond b (Some pair.1) o ≡ Some v → IsTrue (test v)
found_passes test key pair true o v here there is = let same : pair.1 ≡ v = cc in subst (λ y. IsTrue (test y)) same (and_right (test (value_of pair.0)) (test pair.1) here)
found_passes test key pair false o v here there is = there is

value_passes : (test : Value → Bool) (pairs : List (Key × Value)) (key : Key) (v : Value) → IsTrue (list_all (all_in_pair test) pairs) → dict_get pairs key ≡ Some v → IsTrue (test v)
unfolding dict_get
value_passes test [] key v h is = absurd (cc)
value_passes test (pair ∷ pairs) key v h is =
    found_passes test key pair (same_key key pair.0) (dict_get pairs key) v (and_left (all_in_pair test pair) (list_all (all_in_pair test) pairs) h)
    (λ found. value_passes test pairs key v (and_right (all_in_pair test pair) (list_all (all_in_pair test) pairs) h) found) is

pub dict_value : (m : MachineState) (id : ℕ) (key : Key) (v : Value) → IsMachine m → IsTrue (all_in is_proper m.state) → Some v ≡ dict_get (dict m.state id) key → Fits m v
unfolding dict object
dict_value m id key v kept proper is = record {
  references = value_passes (fits m.state.objects) (dict m.state id) key v (pairs_fit (fits m.state.objects) m.state.objects id (objects_are (fits m.state.objects) m.state kept.references)) (sym is);
  proper = value_passes is_proper (dict m.state id) key v (pairs_fit is_proper m.state.objects id (objects_are is_proper m.state proper)) (sym is);
}

-- ---- one of many

pub item_passes : (test : Value → Bool) (values : List Value) (i : ℕ) (v : Value) → IsTrue (list_all test values) → slice_get values i ≡ Some v → IsTrue (test v)
item_passes test [] i v h is = absurd (cc)
item_passes test (x ∷ xs) zero v h is = let same : x ≡ v = cc in subst (λ y. IsTrue (test y)) same (and_left (test x) (list_all test xs) h)
item_passes test (x ∷ xs) (suc i) v h is = item_passes test xs i v (and_right (test x) (list_all test xs) h) is

pub item_fits : (m : MachineState) (values : List Value) (i : ℕ) (v : Value) → AllFit m values → slice_get values i ≡ Some v → Fits m v
item_fits m values i v fit is = record { references = item_passes (fits m.state.objects) values i v fit.references is; proper = item_passes is_proper values i v fit.proper is }

-- ---- the items of a tuple

-- what an item of a tuple is: it fits, and nests less deep than the tuple may
abbrev pub inside : List (Object ℕ) → Value → Bool
inside os v = fits os v && (nat_lt (depth v) 64 && fold-Value Bool proper_step v)

inside_all : (os : List (Object ℕ)) (values : List Value) → IsTrue (list_all (λ b. b) (map (fits os) values)) → IsTrue (nat_le (greatest (map depth values) + 1) 64 && list_all (λ b. b) (map (fold-Value Bool proper_step) values))
    → IsTrue (list_all (inside os) values)
inside_all os [] h k = refl
inside_all os (v ∷ vs) h k =
    let fit = and_left (fits os v) (list_all (λ b. b) (map (fits os) vs)) h in
    let low = and_left (nat_le (max (depth v) (greatest (map depth vs)) + 1) 64) (list_all (λ b. b) (map (fold-Value Bool proper_step) (v ∷ vs))) k in
    let steps = and_right (nat_le (max (depth v) (greatest (map depth vs)) + 1) 64) (list_all (λ b. b) (map (fold-Value Bool proper_step) (v ∷ vs))) k in
    let here : IsTrue (nat_lt (depth v) 64) = grind (arith, nat_tests) in
    let there : IsTrue (nat_le (greatest (map depth vs) + 1) 64) = grind (arith, nat_tests) in
    and_both (inside os v) (list_all (inside os) vs)
    (and_both (fits os v) (nat_lt (depth v) 64 && fold-Value Bool proper_step v) fit (and_both (nat_lt (depth v) 64) (fold-Value Bool proper_step v) here (and_left (fold-Value Bool proper_step v) (list_all (λ b. b) (map (fold-Value Bool proper_step) vs)) steps)))
    (inside_all os vs (and_right (fits os v) (list_all (λ b. b) (map (fits os) vs)) h)
    (and_both (nat_le (greatest (map depth vs) + 1) 64) (list_all (λ b. b) (map (fold-Value Bool proper_step) vs)) there (and_right (fold-Value Bool proper_step v) (list_all (λ b. b) (map (fold-Value Bool proper_step) vs)) steps)))

pub tuple_inside : (m : MachineState) (values : List Value) → Fits m (value.Tuple values) → IsTrue (list_all (inside m.state.objects) values)
unfolding fits is_proper
tuple_inside m values fit =
    inside_all m.state.objects values
    (rw (← value.rolls-Tuple values, fold-roll-Value Bool (fits_step m.state.objects)) at fit.references)
    (rw (depth_tuple values, ← value.rolls-Tuple values, fold-roll-Value Bool proper_step) at fit.proper)

references_from : (os : List (Object ℕ)) (values : List Value) → IsTrue (list_all (inside os) values) → IsTrue (list_all (λ b. b) (map (fits os) values))
references_from os [] h = refl
references_from os (v ∷ vs) h =
    and_both (fits os v) (list_all (λ b. b) (map (fits os) vs)) (and_left (fits os v) (nat_lt (depth v) 64 && fold-Value Bool proper_step v) (and_left (inside os v) (list_all (inside os) vs) h))
    (references_from os vs (and_right (inside os v) (list_all (inside os) vs) h))

steps_from : (os : List (Object ℕ)) (values : List Value) → IsTrue (list_all (inside os) values) → IsTrue (list_all (λ b. b) (map (fold-Value Bool proper_step) values))
steps_from os [] h = refl
steps_from os (v ∷ vs) h =
    and_both (fold-Value Bool proper_step v) (list_all (λ b. b) (map (fold-Value Bool proper_step) vs))
    (and_right (nat_lt (depth v) 64) (fold-Value Bool proper_step v) (and_right (fits os v) (nat_lt (depth v) 64 && fold-Value Bool proper_step v) (and_left (inside os v) (list_all (inside os) vs) h)))
    (steps_from os vs (and_right (inside os v) (list_all (inside os) vs) h))

depth_from : (os : List (Object ℕ)) (values : List Value) → IsTrue (list_all (inside os) values) → greatest (map depth values) < 64
depth_from os [] h = omega arith
depth_from os (v ∷ vs) h =
    let here = and_left (nat_lt (depth v) 64) (fold-Value Bool proper_step v) (and_right (fits os v) (nat_lt (depth v) 64 && fold-Value Bool proper_step v) (and_left (inside os v) (list_all (inside os) vs) h)) in
    let rest = depth_from os vs (and_right (inside os v) (list_all (inside os) vs) h) in
    let low : depth v < 64 = grind (arith, nat_tests) in
    omega arith

pub inside_tuple : (m : MachineState) (values : List Value) → IsTrue (list_all (inside m.state.objects) values) → Fits m (value.Tuple values)
unfolding fits is_proper
inside_tuple m values h =
    let low = depth_from m.state.objects values h in
    let shallow : IsTrue (nat_le (greatest (map depth values) + 1) 64) = grind (arith, nat_tests) in
    record {
      references = rw (← value.rolls-Tuple values, fold-roll-Value Bool (fits_step m.state.objects)) (references_from m.state.objects values h);
      proper = rw (depth_tuple values, ← value.rolls-Tuple values, fold-roll-Value Bool proper_step)
          (and_both (nat_le (greatest (map depth values) + 1) 64) (list_all (λ b. b) (map (fold-Value Bool proper_step) values)) shallow (steps_from m.state.objects values h));
    }

inside_references : (os : List (Object ℕ)) (v : Value) → IsTrue (inside os v) → IsTrue (fits os v)
inside_references os v h = and_left (fits os v) (nat_lt (depth v) 64 && fold-Value Bool proper_step v) h

inside_proper : (os : List (Object ℕ)) (v : Value) → IsTrue (inside os v) → IsTrue (is_proper v)
unfolding is_proper
inside_proper os v h =
    let both = and_right (fits os v) (nat_lt (depth v) 64 && fold-Value Bool proper_step v) h in
    let low = and_left (nat_lt (depth v) 64) (fold-Value Bool proper_step v) both in
    let shallow : IsTrue (nat_le (depth v) 64) = grind (arith, nat_tests) in
    and_both (nat_le (depth v) 64) (fold-Value Bool proper_step v) shallow (and_right (nat_lt (depth v) 64) (fold-Value Bool proper_step v) both)

pub tuple_items : (m : MachineState) (values : List Value) → Fits m (value.Tuple values) → AllFit m values
tuple_items m values fit =
    let h = tuple_inside m values fit in
    record {
      references = all_mono (inside m.state.objects) (fits m.state.objects) (inside_references m.state.objects) values h;
      proper = all_mono (inside m.state.objects) is_proper (inside_proper m.state.objects) values h;
    }

pub ruleset held = (is_list_of, is_dict_of, list_items, tuple_items)
