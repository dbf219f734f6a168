-- Each change of a machine leaves a machine.
use Rattle.std.proofs.Common.{◌≡◌, ℕ, suc, zero, ◌*◌, ◌<◌, Bool, true, false, ◌||◌, List, [], ◌∷◌, ◌++◌, length, refl, arith, IsTrue, Option, Some, None, slice_get, slice_set, get_or, length-append, ap, ◌∙◌, subst}
use Rattle.std.specs.Ordering.{match_ordering}
use Rattle.std.specs.Prelude.{IfSome}
use Rattle.std.proofs.Math.ListN.{length-set}
use Rattle.std.specs.BTreeMap.{insert_entry}
use Rattle.std.specs.List.{list_all, insert, remove}
use Rattle.std.specs.List.Sorted.{IsStrictlySortedBy}
use Rattle.std.specs.Map.{keys_of}
use Rattle.std.specs.Str.{all_scalars}
use Rattle.std.specs.declared.cmp.Ordering.{Ordering}
use Rattle.std.specs.declared.cmp.Ordering.TheVariants.{Less, Equal, Greater}
use Rattle.chex_base.specs.TextOrder.{text_cmp}
use Rattle.star_value.specs.Keys.{value_of}
use Rattle.star_value.specs.declared.key.Key.{Key}
use Rattle.star_value.specs.declared.value.Value.{Value}
use Rattle.star_meaning.specs.State.{Object, AList, ADict, AFunction, items_held, pairs_held, function_held, dict_put, dict_without, function, object, with_list, with_dict}
use Rattle.star_meaning.specs.Validity.{MachineState, IsMachine, is_list, is_dict, is_function, fits, all_in_object, all_in_pair, are_distinct, has_distinct_keys, has_32_bits, has_small_numbers}
use Rattle.heap_store.specs.Objects.{defaults, defaults_in, emptied, with_defaults, with_nothing}
use Rattle.heap_store.proofs.Tested.{and_left, and_right, and_both, all_push, all_both, all_set, all_insert, all_remove, one_passes}
use Rattle.heap_store.proofs.PairLemmas.{all_put, all_without, distinct_put, distinct_without}
use Rattle.heap_store.proofs.References.{Alike, key_fits, object_fits, objects_stay, globals_stay, stay_new, stay_set}

abbrev pub Objects : Type 0
Objects = List (Object ℕ)

abbrev pub Globals : Type 0
Globals = List (List ℕ × Value)

-- ---- what one object of a machine keeps

pub items_fit : (test : Value → Bool) (os : Objects) (i : ℕ) → IsTrue (list_all (all_in_object test) os) → IsTrue (list_all test (items_held (slice_get os i)))
items_fit test [] i h = refl
items_fit test (AList items ∷ os) zero h = and_left (list_all test items) (list_all (all_in_object test) os) h
items_fit test (ADict pairs ∷ os) zero h = refl
items_fit test (AFunction cell number defaults ∷ os) zero h = refl
items_fit test (o ∷ os) (suc i) h = items_fit test os i (and_right (all_in_object test o) (list_all (all_in_object test) os) h)

pub pairs_fit : (test : Value → Bool) (os : Objects) (i : ℕ) → IsTrue (list_all (all_in_object test) os) → IsTrue (list_all (all_in_pair test) (pairs_held (slice_get os i)))
pairs_fit test [] i h = refl
pairs_fit test (AList items ∷ os) zero h = refl
pairs_fit test (ADict pairs ∷ os) zero h = and_left (list_all (all_in_pair test) pairs) (list_all (all_in_object test) os) h
pairs_fit test (AFunction cell number defaults ∷ os) zero h = refl
pairs_fit test (o ∷ os) (suc i) h = pairs_fit test os i (and_right (all_in_object test o) (list_all (all_in_object test) os) h)

pub defaults_fit : (test : Value → Bool) (os : Objects) (i : ℕ) → IsTrue (list_all (all_in_object test) os) → IsTrue (list_all test (defaults_in (function_held (slice_get os i))))
defaults_fit test [] i h = refl
defaults_fit test (AList items ∷ os) zero h = refl
defaults_fit test (ADict pairs ∷ os) zero h = refl
defaults_fit test (AFunction cell number defaults ∷ os) zero h = and_left (list_all test defaults) (list_all (all_in_object test) os) h
defaults_fit test (o ∷ os) (suc i) h = defaults_fit test os i (and_right (all_in_object test o) (list_all (all_in_object test) os) h)

pub keys_distinct : (os : Objects) (i : ℕ) → IsTrue (list_all has_distinct_keys os) → IsTrue (are_distinct (pairs_held (slice_get os i)))
keys_distinct [] i h = refl
keys_distinct (AList items ∷ os) zero h = refl
keys_distinct (ADict pairs ∷ os) zero h = and_left (are_distinct pairs) (list_all has_distinct_keys os) h
keys_distinct (AFunction cell number defaults ∷ os) zero h = refl
keys_distinct (o ∷ os) (suc i) h = keys_distinct os i (and_right (has_distinct_keys o) (list_all has_distinct_keys os) h)

-- ---- changes

abbrev pub with_objects : MachineState → Objects → MachineState
with_objects m objects = record m { state = record { globals = m.state.globals; objects = objects } }

globals_fit : (m : MachineState) → IsMachine m → IsTrue (list_all (λ global. fits m.state.objects global.1) m.state.globals)
globals_fit m kept = and_left (list_all (λ global. fits m.state.objects global.1) m.state.globals) (list_all (all_in_object (fits m.state.objects)) m.state.objects) kept.references

pub objects_fit : (m : MachineState) → IsMachine m → IsTrue (list_all (all_in_object (fits m.state.objects)) m.state.objects)
objects_fit m kept = and_right (list_all (λ global. fits m.state.objects global.1) m.state.globals) (list_all (all_in_object (fits m.state.objects)) m.state.objects) kept.references

pub kept_enter : (m : MachineState) (node : ℕ) → IsMachine m → IsTrue (has_32_bits node) → length m.ran < 64 → IsMachine (record m { ran = m.ran ++ node ∷ [] })
kept_enter m node kept small few = record {
  names = kept.names;
  characters = kept.characters;
  nodes = all_push has_32_bits m.ran node kept.nodes small;
  numbers = kept.numbers;
  keys = kept.keys;
  references = kept.references;
  few = simp length-append (omega (arith, kept.few));
  room = simp length-append (omega (arith, kept.room));
}

entry_fits : (test : Value → Bool) (name : List ℕ) (v : Value) → IsTrue (test v) → (g : List ℕ × Value) (gs more : Globals) (o : Ordering)
    → IsTrue (list_all (λ global. test global.1) (g ∷ gs)) → IsTrue (list_all (λ global. test global.1) more)
    → IsTrue (list_all (λ global. test global.1) (match_ordering o ((name, v) ∷ g ∷ gs) ((g.0, v) ∷ gs) (g ∷ more)))
entry_fits test name v fine g gs more Less h k = and_both (test v) (list_all (λ global. test global.1) (g ∷ gs)) fine h
entry_fits test name v fine g gs more Equal h k = and_both (test v) (list_all (λ global. test global.1) gs) fine (and_right (test g.1) (list_all (λ global. test global.1) gs) h)
entry_fits test name v fine g gs more Greater h k = and_both (test g.1) (list_all (λ global. test global.1) more) (and_left (test g.1) (list_all (λ global. test global.1) gs) h) k

entries_fit : (test : Value → Bool) (name : List ℕ) (v : Value) → IsTrue (test v) → (gs : Globals) → IsTrue (list_all (λ global. test global.1) gs) → IsTrue (list_all (λ global. test global.1) (insert_entry text_cmp gs name v))
entries_fit test name v fine [] h = and_both (test v) true fine refl
entries_fit test name v fine (g ∷ gs) h =
    entry_fits test name v fine g gs (insert_entry text_cmp gs name v) (text_cmp name g.0) h
    (entries_fit test name v fine gs (and_right (test g.1) (list_all (λ global. test global.1) gs) h))

entry_named : (test : List ℕ → Bool) (name : List ℕ) (v : Value) → IsTrue (test name) → (g : List ℕ × Value) (gs more : Globals) (o : Ordering)
    → IsTrue (list_all test (keys_of (g ∷ gs))) → IsTrue (list_all test (keys_of more)) → IsTrue (list_all test (keys_of (match_ordering o ((name, v) ∷ g ∷ gs) ((g.0, v) ∷ gs) (g ∷ more))))
entry_named test name v fine g gs more Less h k = and_both (test name) (list_all test (keys_of (g ∷ gs))) fine h
entry_named test name v fine g gs more Equal h k = h
entry_named test name v fine g gs more Greater h k = and_both (test g.0) (list_all test (keys_of more)) (and_left (test g.0) (list_all test (keys_of gs)) h) k

entries_named : (test : List ℕ → Bool) (name : List ℕ) (v : Value) → IsTrue (test name) → (gs : Globals) → IsTrue (list_all test (keys_of gs)) → IsTrue (list_all test (keys_of (insert_entry text_cmp gs name v)))
entries_named test name v fine [] h = and_both (test name) true fine refl
entries_named test name v fine (g ∷ gs) h =
    entry_named test name v fine g gs (insert_entry text_cmp gs name v) (text_cmp name g.0) h
    (entries_named test name v fine gs (and_right (test g.0) (list_all test (keys_of gs)) h))

pub kept_set_global : (m : MachineState) (name : List ℕ) (v : Value) → IsMachine m → IsTrue (all_scalars name) → IsTrue (fits m.state.objects v)
    → IsStrictlySortedBy text_cmp (keys_of (insert_entry text_cmp m.state.globals name v))
    → IsMachine (record m { state = record { globals = insert_entry text_cmp m.state.globals name v; objects = m.state.objects } })
kept_set_global m name v kept scalars fit sorted = record {
  names = sorted;
  characters = entries_named all_scalars name v scalars m.state.globals kept.characters;
  nodes = kept.nodes;
  numbers = kept.numbers;
  keys = kept.keys;
  references = and_both (list_all (λ global. fits m.state.objects global.1) (insert_entry text_cmp m.state.globals name v)) (list_all (all_in_object (fits m.state.objects)) m.state.objects)
      (entries_fit (fits m.state.objects) name v fit m.state.globals (globals_fit m kept)) (objects_fit m kept);
  few = kept.few;
  room = kept.room;
}

pub kept_new : (m : MachineState) (o : Object ℕ) → IsMachine m → IsTrue (has_distinct_keys o) → IsTrue (has_small_numbers o) → IsTrue (all_in_object (fits m.state.objects) o)
    → length m.state.objects < 1000000 * length m.ran → IsMachine (with_objects m (m.state.objects ++ o ∷ []))
kept_new m o kept distinct small fit room =
    let before = m.state.objects in
    let after = before ++ o ∷ [] in
    let stay = stay_new before o in
    record {
      names = kept.names;
      characters = kept.characters;
      nodes = kept.nodes;
      numbers = all_push has_small_numbers before o kept.numbers small;
      keys = all_push has_distinct_keys before o kept.keys distinct;
      references = and_both (list_all (λ global. fits after global.1) m.state.globals) (list_all (all_in_object (fits after)) after)
          (globals_stay before after stay m.state.globals (globals_fit m kept))
          (all_push (all_in_object (fits after)) before o (objects_stay before after stay before (objects_fit m kept)) (object_fits before after stay o fit));
      few = kept.few;
      room = simp length-append (omega arith);
    }

-- pairs whose values fit, as keys hold no reference
pairs_all_fit : (os : Objects) (pairs : List (Key × Value)) → IsTrue (list_all (λ pair. fits os pair.1) pairs) → IsTrue (list_all (all_in_pair (fits os)) pairs)
pairs_all_fit os [] h = refl
pairs_all_fit os (pair ∷ pairs) h =
    and_both (all_in_pair (fits os) pair) (list_all (all_in_pair (fits os)) pairs)
    (and_both (fits os (value_of pair.0)) (fits os pair.1) (key_fits os pair.0) (and_left (fits os pair.1) (list_all (λ p. fits os p.1) pairs) h))
    (pairs_all_fit os pairs (and_right (fits os pair.1) (list_all (λ p. fits os p.1) pairs) h))

pub kept_new_dict : (m : MachineState) (pairs : List (Key × Value)) → IsMachine m → IsTrue (are_distinct pairs) → IsTrue (list_all (λ pair. fits m.state.objects pair.1) pairs)
    → length m.state.objects < 1000000 * length m.ran → IsMachine (with_objects m (m.state.objects ++ ADict pairs ∷ []))
kept_new_dict m pairs kept distinct fit = kept_new m (ADict pairs) kept distinct refl (pairs_all_fit m.state.objects pairs fit)

pub kept_changed : (m : MachineState) (id : ℕ) (o : Object ℕ) → IsMachine m → Alike (slice_get m.state.objects id) o → IsTrue (has_distinct_keys o) → IsTrue (has_small_numbers o) → IsTrue (all_in_object (fits m.state.objects) o)
    → IsMachine (with_objects m (slice_set m.state.objects id o))
kept_changed m id o kept alike distinct small fit =
    let before = m.state.objects in
    let after = slice_set before id o in
    let stay = stay_set before id o alike in
    record {
      names = kept.names;
      characters = kept.characters;
      nodes = kept.nodes;
      numbers = all_set has_small_numbers before id o kept.numbers small;
      keys = all_set has_distinct_keys before id o kept.keys distinct;
      references = and_both (list_all (λ global. fits after global.1) m.state.globals) (list_all (all_in_object (fits after)) after)
          (globals_stay before after stay m.state.globals (globals_fit m kept))
          (all_set (all_in_object (fits after)) before id o (objects_stay before after stay before (objects_fit m kept)) (object_fits before after stay o fit));
      few = kept.few;
      room = simp length-set (omega (arith, kept.room));
    }

-- ---- objects of one kind

other_dict : (o : Option (Object ℕ)) → IsTrue (is_list o) → IsTrue (is_dict o) → ⊥
other_dict (Some (AList items)) h k = absurd (cc)
other_dict (Some (ADict pairs)) h k = absurd (cc)
other_dict (Some (AFunction cell number defaults)) h k = absurd (cc)
other_dict None h k = absurd (cc)

other_function : (o : Option (Object ℕ)) → IsTrue (is_list o) → IsTrue (is_function o) → ⊥
other_function (Some (AList items)) h k = absurd (cc)
other_function (Some (ADict pairs)) h k = absurd (cc)
other_function (Some (AFunction cell number defaults)) h k = absurd (cc)
other_function None h k = absurd (cc)

dict_function : (o : Option (Object ℕ)) → IsTrue (is_dict o) → IsTrue (is_function o) → ⊥
dict_function (Some (AList items)) h k = absurd (cc)
dict_function (Some (ADict pairs)) h k = absurd (cc)
dict_function (Some (AFunction cell number defaults)) h k = absurd (cc)
dict_function None h k = absurd (cc)

pub alike_list : (o : Option (Object ℕ)) (items : List Value) → IsTrue (is_list o) → Alike o (AList items)
alike_list o items is = record { list = λ h. refl; dict = λ h. absurd (other_dict o is h); function = λ h. absurd (other_function o is h) }

pub alike_dict : (o : Option (Object ℕ)) (pairs : List (Key × Value)) → IsTrue (is_dict o) → Alike o (ADict pairs)
alike_dict o pairs is = record { list = λ h. absurd (other_dict o h is); dict = λ h. refl; function = λ h. absurd (dict_function o is h) }

alike_function : (o : Option (Object ℕ)) (cell number : ℕ) (defaults : List Value) → IsTrue (is_function o) → Alike o (AFunction cell number defaults)
alike_function o cell number defaults is = record { list = λ h. absurd (other_function o h is); dict = λ h. absurd (dict_function o h is); function = λ h. refl }

pub kept_list : (m : MachineState) (id : ℕ) (items : List Value) → IsMachine m → IsTrue (is_list (slice_get m.state.objects id)) → IsTrue (list_all (fits m.state.objects) items)
    → IsMachine (with_objects m (slice_set m.state.objects id (AList items)))
kept_list m id items kept is fit = kept_changed m id (AList items) kept (alike_list (slice_get m.state.objects id) items is) refl refl fit

pub kept_dict : (m : MachineState) (id : ℕ) (pairs : List (Key × Value)) → IsMachine m → IsTrue (is_dict (slice_get m.state.objects id)) → IsTrue (are_distinct pairs)
    → IsTrue (list_all (all_in_pair (fits m.state.objects)) pairs) → IsMachine (with_objects m (slice_set m.state.objects id (ADict pairs)))
kept_dict m id pairs kept is distinct fit = kept_changed m id (ADict pairs) kept (alike_dict (slice_get m.state.objects id) pairs is) distinct refl fit

pub kept_function : (m : MachineState) (id cell number : ℕ) (defaults : List Value) → IsMachine m → IsTrue (is_function (slice_get m.state.objects id)) → IsTrue (has_small_numbers (AFunction cell number defaults)) → IsTrue (list_all (fits m.state.objects) defaults)
    → IsMachine (with_objects m (slice_set m.state.objects id (AFunction cell number defaults)))
kept_function m id cell number defaults kept is small fit = kept_changed m id (AFunction cell number defaults) kept (alike_function (slice_get m.state.objects id) cell number defaults is) refl small fit

-- ---- an object that was changed in its place

-- what was made of the object at a place was made of what stands there
module _ (test : Option (Object ℕ) → Bool) (none : test None ≡ false) where
  stands_at : (os : Objects) (id : ℕ) (o : Object ℕ) → IsTrue (test (slice_get os id)) → o ≡ get_or os id o → Some o ≡ slice_get os id
  stands_at [] id o is read = absurd (cc)
  stands_at (x ∷ os) zero o is read = ap Some read
  stands_at (x ∷ os) (suc id) o is read = stands_at os id o is read

  pub made_of : {X : Type 0} (f : Option (Object ℕ) → X) (os : Objects) (id : ℕ) (o : Object ℕ) (made : X) → IsTrue (test (slice_get os id)) → o ≡ get_or os id o → made ≡ f (Some o) → made ≡ f (slice_get os id)
  made_of f os id o made is read equal = equal ∙ ap f (stands_at os id o is read)

  pub holds_of : (P : Option (Object ℕ) → Type 0) (os : Objects) (id : ℕ) (o : Object ℕ) → IsTrue (test (slice_get os id)) → o ≡ get_or os id o → P (Some o) → P (slice_get os id)
  holds_of P os id o is read h = subst P (stands_at os id o is read) h

pub changed_same : (m : MachineState) (id : ℕ) (a b : Object ℕ) → a ≡ b → with_objects m (slice_set m.state.objects id a) ≡ with_objects m (slice_set m.state.objects id b)
changed_same m id a b same = ap (λ o. with_objects m (slice_set m.state.objects id o)) same

pub kept_insert : (m : MachineState) (id : ℕ) (o : Object ℕ) (place : ℕ) (v : Value) → IsMachine m → IsTrue (is_list (slice_get m.state.objects id)) → IsTrue (fits m.state.objects v)
    → o ≡ AList (insert (items_held (slice_get m.state.objects id)) place v) → IsMachine (with_objects m (slice_set m.state.objects id o))
kept_insert m id o place v kept is fit made =
    let items = items_held (slice_get m.state.objects id) in
    rw made (kept_list m id (insert items place v) kept is (all_insert (fits m.state.objects) items place v (items_fit (fits m.state.objects) m.state.objects id (objects_fit m kept)) fit))

pub kept_more : (m : MachineState) (id : ℕ) (o : Object ℕ) (more : List Value) → IsMachine m → IsTrue (is_list (slice_get m.state.objects id)) → IsTrue (list_all (fits m.state.objects) more)
    → o ≡ AList (items_held (slice_get m.state.objects id) ++ more) → IsMachine (with_objects m (slice_set m.state.objects id o))
kept_more m id o more kept is fit made =
    let items = items_held (slice_get m.state.objects id) in
    rw made (kept_list m id (items ++ more) kept is (all_both (fits m.state.objects) items more (items_fit (fits m.state.objects) m.state.objects id (objects_fit m kept)) fit))

pub kept_set : (m : MachineState) (id : ℕ) (o : Object ℕ) (place : ℕ) (v : Value) → IsMachine m → IsTrue (is_list (slice_get m.state.objects id)) → IsTrue (fits m.state.objects v)
    → o ≡ AList (slice_set (items_held (slice_get m.state.objects id)) place v) → IsMachine (with_objects m (slice_set m.state.objects id o))
kept_set m id o place v kept is fit made =
    let items = items_held (slice_get m.state.objects id) in
    rw made (kept_list m id (slice_set items place v) kept is (all_set (fits m.state.objects) items place v (items_fit (fits m.state.objects) m.state.objects id (objects_fit m kept)) fit))

pub kept_remove : (m : MachineState) (id : ℕ) (o : Object ℕ) (place : ℕ) → IsMachine m → IsTrue (is_list (slice_get m.state.objects id))
    → o ≡ AList (remove (items_held (slice_get m.state.objects id)) place) → IsMachine (with_objects m (slice_set m.state.objects id o))
kept_remove m id o place kept is made =
    let items = items_held (slice_get m.state.objects id) in
    rw made (kept_list m id (remove items place) kept is (all_remove (fits m.state.objects) items place (items_fit (fits m.state.objects) m.state.objects id (objects_fit m kept))))

pub kept_put : (m : MachineState) (id : ℕ) (o : Object ℕ) (key : Key) (v : Value) → IsMachine m → IsTrue (is_dict (slice_get m.state.objects id)) → IsTrue (fits m.state.objects v)
    → o ≡ ADict (dict_put (pairs_held (slice_get m.state.objects id)) key v) → IsMachine (with_objects m (slice_set m.state.objects id o))
kept_put m id o key v kept is fit made =
    let pairs = pairs_held (slice_get m.state.objects id) in
    rw made (kept_dict m id (dict_put pairs key v) kept is (distinct_put key v pairs (keys_distinct m.state.objects id kept.keys))
    (all_put (fits m.state.objects) key v (key_fits m.state.objects key) fit pairs (pairs_fit (fits m.state.objects) m.state.objects id (objects_fit m kept))))

pub kept_without : (m : MachineState) (id : ℕ) (o : Object ℕ) (key : Key) → IsMachine m → IsTrue (is_dict (slice_get m.state.objects id))
    → o ≡ ADict (dict_without (pairs_held (slice_get m.state.objects id)) key) → IsMachine (with_objects m (slice_set m.state.objects id o))
kept_without m id o key kept is made =
    let pairs = pairs_held (slice_get m.state.objects id) in
    rw made (kept_dict m id (dict_without pairs key) kept is (distinct_without key pairs (keys_distinct m.state.objects id kept.keys))
    (all_without (fits m.state.objects) key pairs (pairs_fit (fits m.state.objects) m.state.objects id (objects_fit m kept))))

-- ---- a list or a dict that was cleared

abbrev pub Cleared : Object ℕ → Option (Object ℕ) → Type 0
Cleared o before = IfSome before (λ old. o ≡ emptied old)

abbrev pub is_clearable : Option (Object ℕ) → Bool
is_clearable before = is_list before || is_dict before

pub kept_cleared : (m : MachineState) (id : ℕ) (o : Object ℕ) (before : Option (Object ℕ)) → slice_get m.state.objects id ≡ before → IsTrue (is_clearable before) → Cleared o before → IsMachine m
    → IsMachine (with_objects m (slice_set m.state.objects id o))
kept_cleared m id o (Some (AList items)) here is made kept = rw made (kept_list m id [] kept (rw here refl) refl)
kept_cleared m id o (Some (ADict pairs)) here is made kept = rw made (kept_dict m id [] kept (rw here refl) refl refl)
kept_cleared m id o (Some (AFunction cell number defaults)) here is made kept = absurd (cc)
kept_cleared m id o None here is made kept = absurd (cc)

pub cleared_is : (m : MachineState) (id : ℕ) (o : Object ℕ) (before : Option (Object ℕ)) → slice_get m.state.objects id ≡ before → IsTrue (is_clearable before) → Cleared o before
    → with_objects m (slice_set m.state.objects id o) ≡ record m { state = with_nothing m.state id }
unfolding with_nothing with_list with_dict object
cleared_is m id o (Some (AList items)) here is made = rw (here, made) refl
cleared_is m id o (Some (ADict pairs)) here is made = rw (here, made) refl
cleared_is m id o (Some (AFunction cell number defaults)) here is made = absurd (cc)
cleared_is m id o None here is made = absurd (cc)

-- ---- a function with another default

abbrev pub Redefaulted : Object ℕ → ℕ → Value → Option (Object ℕ) → Type 0
Redefaulted o place v before = IfSome (function_held before) (λ parts. o ≡ AFunction parts.0 parts.1 (slice_set parts.2 place v))

pub kept_default : (m : MachineState) (id : ℕ) (o : Object ℕ) (place : ℕ) (v : Value) (before : Option (Object ℕ)) → slice_get m.state.objects id ≡ before → IsTrue (is_function before) → Redefaulted o place v before
    → IsMachine m → IsTrue (fits m.state.objects v) → IsMachine (with_objects m (slice_set m.state.objects id o))
kept_default m id o place v (Some (AFunction cell number defaults)) here is made kept fit =
    rw made (kept_function m id cell number (slice_set defaults place v) kept (rw here refl) (one_passes has_small_numbers m.state.objects id (AFunction cell number defaults) kept.numbers here)
    (all_set (fits m.state.objects) defaults place v (rw here at (defaults_fit (fits m.state.objects) m.state.objects id (objects_fit m kept))) fit))
kept_default m id o place v (Some (AList items)) here is made kept fit = absurd (cc)
kept_default m id o place v (Some (ADict pairs)) here is made kept fit = absurd (cc)
kept_default m id o place v None here is made kept fit = absurd (cc)

pub default_is : (m : MachineState) (id : ℕ) (o : Object ℕ) (place : ℕ) (v : Value) (before : Option (Object ℕ)) → slice_get m.state.objects id ≡ before → IsTrue (is_function before) → Redefaulted o place v before
    → with_objects m (slice_set m.state.objects id o) ≡ record m { state = with_defaults m.state id (slice_set (defaults m.state id) place v) }
unfolding with_defaults defaults function object
default_is m id o place v (Some (AFunction cell number held)) here is made = rw (here, made) refl
default_is m id o place v (Some (AList items)) here is made = absurd (cc)
default_is m id o place v (Some (ADict pairs)) here is made = absurd (cc)
default_is m id o place v None here is made = absurd (cc)
