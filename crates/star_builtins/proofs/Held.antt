-- References in the parts of a value that fits.
use Rattle.std.proofs.Common.{◌≡◌, ℕ, suc, zero, ◌<◌, Bool, true, false, List, [], ◌∷◌, map, length, get_or, refl, sym, ap, ◌∙◌, subst, arith, IsTrue, Some, slice_get, Option}
use Rattle.std.specs.List.{list_all}
use Rattle.std.specs.Prelude.{if◌then◌else◌}
use Rattle.star_value.specs.KeyOrder.{same_key}
use Rattle.star_value.specs.declared.key.Key.{Key}
use Rattle.star_value.specs.declared.value.Value.{Value, fold-roll-Value, out-Value, roll-Value, roll-out-Value}
use Rattle.star_value.specs.declared.value.Value.TheOpen.{Value-F}
use Rattle.star_value.specs.declared.value.Value.TheVariants as value
use Rattle.star_value.specs.Keys.{value_of}
use Rattle.star_meaning.specs.State.{Object, list, dict, dict_get, object}
use Rattle.star_meaning.specs.Validity.{MachineState, IsMachine, is_list, is_dict, is_function, fits, fits_step, all_in_pair, all_in_object}
use Rattle.star_builtins.specs.Weighing.{tuple_at, list_at, dict_at}
use Rattle.heap_store.proofs.References as heap
use Rattle.heap_store.proofs.Kept.{items_fit, pairs_fit}
use Rattle.heap_store.proofs.Tested.{and_left, and_right, and_both}

pub objects_fit : (m : MachineState) → IsMachine m → IsTrue (list_all (all_in_object (fits m.state.objects)) m.state.objects)
objects_fit m kept = and_right (list_all (λ global. fits m.state.objects global.1) m.state.globals) _ kept.references

pub list_fits : (m : MachineState) (id : ℕ) → IsMachine m → IsTrue (list_all (fits m.state.objects) (list m.state id))
unfolding list object
list_fits m id kept = items_fit (fits m.state.objects) m.state.objects id (objects_fit m kept)

pub dict_fits : (m : MachineState) (id : ℕ) → IsMachine m → IsTrue (list_all (all_in_pair (fits m.state.objects)) (dict m.state id))
unfolding dict object
dict_fits m id kept = pairs_fit (fits m.state.objects) m.state.objects id (objects_fit m kept)

pub list_is : (os : List (Object ℕ)) (id : ℕ) → IsTrue (fits os (value.List id)) → IsTrue (is_list (slice_get os id))
unfolding fits
list_is os id h = rw (← value.rolls-List id, fold-roll-Value Bool (fits_step os)) at h

pub dict_is : (os : List (Object ℕ)) (id : ℕ) → IsTrue (fits os (value.Dict id)) → IsTrue (is_dict (slice_get os id))
unfolding fits
dict_is os id h = rw (← value.rolls-Dict id, fold-roll-Value Bool (fits_step os)) at h

pub function_is : (os : List (Object ℕ)) (id : ℕ) → IsTrue (fits os (value.Function id)) → IsTrue (is_function (slice_get os id))
unfolding fits
function_is os id h = rw (← value.rolls-Function id, fold-roll-Value Bool (fits_step os)) at h

all_of : (os : List (Object ℕ)) (items : List Value) → IsTrue (list_all (λ b. b) (map (fits os) items)) → IsTrue (list_all (fits os) items)
all_of os [] h = refl
all_of os (x ∷ xs) h = and_both (fits os x) (list_all (fits os) xs) (and_left (fits os x) _ h) (all_of os xs (and_right (fits os x) _ h))

of_all : (os : List (Object ℕ)) (items : List Value) → IsTrue (list_all (fits os) items) → IsTrue (list_all (λ b. b) (map (fits os) items))
of_all os [] h = refl
of_all os (x ∷ xs) h = and_both (fits os x) (list_all (λ b. b) (map (fits os) xs)) (and_left (fits os x) _ h) (of_all os xs (and_right (fits os x) _ h))

tuple_step : (os : List (Object ℕ)) (items : List Value) → fits os (value.Tuple items) ≡ list_all (λ b. b) (map (fits os) items)
unfolding fits
tuple_step os items = rw (← value.rolls-Tuple items, fold-roll-Value Bool (fits_step os)) refl

pub tuple_fits : (os : List (Object ℕ)) (items : List Value) → IsTrue (fits os (value.Tuple items)) → IsTrue (list_all (fits os) items)
tuple_fits os items h = all_of os items (rw (tuple_step os items) at h)

pub item_fits : {X : Type 0} (p : X → Bool) (xs : List X) (i : ℕ) (x : X) → i < length xs → x ≡ get_or xs i x → IsTrue (list_all p xs) → IsTrue (p x)
item_fits p [] i x within is h = absurd (omega arith)
item_fits p (y ∷ ys) zero x within is h = rw is (and_left (p y) (list_all p ys) h)
item_fits p (y ∷ ys) (suc i) x within is h = item_fits p ys i x (omega arith) is (and_right (p y) (list_all p ys) h)

got_fits : {X : Type 0} (p : X → Bool) (xs : List X) (i : ℕ) (x : X) → slice_get xs i ≡ Some x → IsTrue (list_all p xs) → IsTrue (p x)
got_fits p [] i x got h = absurd (cc)
got_fits p (y ∷ ys) zero x got h = let same : y ≡ x = cc in subst (λ z. IsTrue (p z)) same (and_left (p y) (list_all p ys) h)
got_fits p (y ∷ ys) (suc i) x got h = got_fits p ys i x got (and_right (p y) (list_all p ys) h)

pub value_fits : (m : MachineState) (id place : ℕ) (k : Key) (v : Value) → IsMachine m → slice_get (dict m.state id) place ≡ Some (k, v) → IsTrue (fits m.state.objects v)
value_fits m id place k v kept got =
    and_right (fits m.state.objects (value_of k)) (fits m.state.objects v) (got_fits (all_in_pair (fits m.state.objects)) (dict m.state id) place (k, v) got (dict_fits m id kept))

-- a key refers to no object
pub key_fits : (os : List (Object ℕ)) (k : Key) → IsTrue (fits os (value_of k))
key_fits = heap.key_fits

-- ---- what a value is, if it is of one type

rolled : (v : Value) (x : Value-F Value) → out-Value v ≡ x → v ≡ roll-Value x
rolled v x is = sym (roll-out-Value v) ∙ ap roll-Value is

tuple_shape : (x : Value-F Value) (items : List Value) → Some items ≡ tuple_at x → x ≡ Value-F.Tuple items
tuple_shape (Value-F.Tuple all) items is = let same : all ≡ items = cc in ap Value-F.Tuple same
tuple_shape _ items is = absurd (cc)

pub tuple_of_fits : (os : List (Object ℕ)) (v : Value) (items : List Value) → Some items ≡ tuple_at (out-Value v) → IsTrue (fits os v) → IsTrue (list_all (fits os) items)
tuple_of_fits os v items is h = tuple_fits os items (subst (λ w. IsTrue (fits os w)) (rolled v _ (tuple_shape (out-Value v) items is) ∙ value.rolls-Tuple items) h)

list_shape : (x : Value-F Value) (id : ℕ) → Some id ≡ list_at x → x ≡ Value-F.List id
list_shape (Value-F.List other) id is = let same : other ≡ id = cc in ap Value-F.List same
list_shape _ id is = absurd (cc)

pub list_of_is : (os : List (Object ℕ)) (v : Value) (id : ℕ) → Some id ≡ list_at (out-Value v) → IsTrue (fits os v) → IsTrue (is_list (slice_get os id))
list_of_is os v id is h = list_is os id (subst (λ w. IsTrue (fits os w)) (rolled v _ (list_shape (out-Value v) id is) ∙ value.rolls-List id) h)

dict_shape : (x : Value-F Value) (id : ℕ) → Some id ≡ dict_at x → x ≡ Value-F.Dict id
dict_shape (Value-F.Dict other) id is = let same : other ≡ id = cc in ap Value-F.Dict same
dict_shape _ id is = absurd (cc)

pub dict_of_is : (os : List (Object ℕ)) (v : Value) (id : ℕ) → Some id ≡ dict_at (out-Value v) → IsTrue (fits os v) → IsTrue (is_dict (slice_get os id))
dict_of_is os v id is h = dict_is os id (subst (λ w. IsTrue (fits os w)) (rolled v _ (dict_shape (out-Value v) id is) ∙ value.rolls-Dict id) h)

found_case : (p : Value → Bool) (b : Bool) (q v : Value) (rest : Option Value) → Some v ≡ (if b then Some q else rest) → IsTrue (p q) → (Some v ≡ rest → IsTrue (p v)) → IsTrue (p v)
found_case p true q v rest is here later = let same : q ≡ v = cc in subst (λ w. IsTrue (p w)) same here
found_case p false q v rest is here later = later is

found_fits : (p : Value → Bool) (pairs : List (Key × Value)) (k : Key) (v : Value) → Some v ≡ dict_get pairs k → IsTrue (list_all (all_in_pair p) pairs) → IsTrue (p v)
unfolding dict_get
found_fits p [] k v is h = absurd (cc)
found_fits p (pair ∷ pairs) k v is h = found_case p (same_key k pair.0) pair.1 v (dict_get pairs k) is
    (and_right (p (value_of pair.0)) (p pair.1) (and_left (all_in_pair p pair) _ h)) (λ later. found_fits p pairs k v later (and_right (all_in_pair p pair) _ h))

pub found_value_fits : (m : MachineState) (id : ℕ) (k : Key) (v : Value) → IsMachine m → Some v ≡ dict_get (dict m.state id) k → IsTrue (fits m.state.objects v)
found_value_fits m id k v kept is = found_fits (fits m.state.objects) (dict m.state id) k v is (dict_fits m id kept)

pub ruleset references = (list_fits, value_fits, list_is, dict_is, function_is, tuple_fits, item_fits, key_fits)

pub ruleset shapes = (tuple_of_fits, list_of_is, dict_of_is, found_value_fits)
