-- Which references stay good when objects are added or changed.
use Rattle.std.proofs.Common.{◌≡◌, ℕ, suc, zero, Bool, false, List, [], ◌∷◌, ◌++◌, map, refl, subst, IsTrue, Option, Some, None, slice_get, slice_set}
use Rattle.std.specs.List.{list_all}
use Rattle.star_value.specs.Keys.{value_of, value_step}
use Rattle.star_value.specs.declared.key.Key.{Key, fold-roll-Key, ind-Key, map-Key, roll-Key}
use Rattle.star_value.specs.declared.key.Key.TheOpen.{Key-F}
use Rattle.star_value.specs.declared.value.Value.TheVariants as value
use Rattle.star_value.specs.declared.value.Value.{Value, fold-roll-Value, ind-Value, roll-Value, map-Value}
use Rattle.star_value.specs.declared.value.Value.TheOpen.{Value-F}
use Rattle.star_meaning.specs.State.{Object, AList, ADict, AFunction}
use Rattle.star_meaning.specs.Validity.{is_list, is_dict, is_function, fits, fits_step, all_in_pair, all_in_object}
use Rattle.heap_store.proofs.Tested.{and_left, and_right, and_both, all_mono}

abbrev Objects : Type 0
Objects = List (Object ℕ)

-- each object keeps its kind
pub record Stay (old new : Objects) : Type 0 where
  pub lists : (i : ℕ) → IsTrue (is_list (slice_get old i)) → IsTrue (is_list (slice_get new i))
  pub dicts : (i : ℕ) → IsTrue (is_dict (slice_get old i)) → IsTrue (is_dict (slice_get new i))
  pub functions : (i : ℕ) → IsTrue (is_function (slice_get old i)) → IsTrue (is_function (slice_get new i))

module _ (old new : Objects) (stay : Stay old new) where
  abbrev Stays : Value → Type 0
  Stays v = IsTrue (fits old v) → IsTrue (fits new v)

  tuple_stays : (all : List ((v : Value) × Stays v)) → IsTrue (list_all (λ b. b) (map (fits old) (map (λ e. e.0) all))) → IsTrue (list_all (λ b. b) (map (fits new) (map (λ e. e.0) all)))
  tuple_stays [] h = refl
  tuple_stays (e ∷ all) h =
      let rest_old = list_all (λ b. b) (map (fits old) (map (λ e. e.0) all)) in
      let rest_new = list_all (λ b. b) (map (fits new) (map (λ e. e.0) all)) in
      and_both (fits new e.0) rest_new (e.1 (and_left (fits old e.0) rest_old h)) (tuple_stays all (and_right (fits old e.0) rest_old h))

  layer_stays : (y : Value-F ((v : Value) × Stays v)) → Stays (roll-Value (map-Value ((v : Value) × Stays v) Value (λ e. e.0) y))
  unfolding fits
  layer_stays (Value-F.Tuple all) h = rw (fold-roll-Value Bool (fits_step new)) (tuple_stays all (rw (fold-roll-Value Bool (fits_step old)) at h))
  layer_stays (Value-F.List id) h = rw (fold-roll-Value Bool (fits_step new)) (stay.lists id (rw (fold-roll-Value Bool (fits_step old)) at h))
  layer_stays (Value-F.Dict id) h = rw (fold-roll-Value Bool (fits_step new)) (stay.dicts id (rw (fold-roll-Value Bool (fits_step old)) at h))
  layer_stays (Value-F.Function id) h = rw (fold-roll-Value Bool (fits_step new)) (stay.functions id (rw (fold-roll-Value Bool (fits_step old)) at h))
  layer_stays Value-F.None h = rw (fold-roll-Value Bool (fits_step new)) refl
  layer_stays (Value-F.Bool truth) h = rw (fold-roll-Value Bool (fits_step new)) refl
  layer_stays (Value-F.Int number) h = rw (fold-roll-Value Bool (fits_step new)) refl
  layer_stays (Value-F.Text points) h = rw (fold-roll-Value Bool (fits_step new)) refl
  layer_stays (Value-F.Range range) h = rw (fold-roll-Value Bool (fits_step new)) refl
  layer_stays (Value-F.Builtin which) h = rw (fold-roll-Value Bool (fits_step new)) refl

  pub fits_stays : (v : Value) → Stays v
  fits_stays = ind-Value Stays (λ x y is. subst (λ z. Stays (roll-Value z)) is (layer_stays y))

  pair_stays : (pair : Key × Value) → IsTrue (all_in_pair (fits old) pair) → IsTrue (all_in_pair (fits new) pair)
  pair_stays pair h =
      and_both (fits new (value_of pair.0)) (fits new pair.1) (fits_stays (value_of pair.0) (and_left (fits old (value_of pair.0)) (fits old pair.1) h))
      (fits_stays pair.1 (and_right (fits old (value_of pair.0)) (fits old pair.1) h))

  object_stays : (o : Object ℕ) → IsTrue (all_in_object (fits old) o) → IsTrue (all_in_object (fits new) o)
  object_stays (AList items) h = all_mono (fits old) (fits new) fits_stays items h
  object_stays (ADict pairs) h = all_mono (all_in_pair (fits old)) (all_in_pair (fits new)) pair_stays pairs h
  object_stays (AFunction cell number defaults) h = all_mono (fits old) (fits new) fits_stays defaults h

  pub object_fits : (o : Object ℕ) → IsTrue (all_in_object (fits old) o) → IsTrue (all_in_object (fits new) o)
  object_fits = object_stays

  pub objects_stay : (os : Objects) → IsTrue (list_all (all_in_object (fits old)) os) → IsTrue (list_all (all_in_object (fits new)) os)
  objects_stay = all_mono (all_in_object (fits old)) (all_in_object (fits new)) object_stays

  pub globals_stay : (gs : List (List ℕ × Value)) → IsTrue (list_all (λ g. fits old g.1) gs) → IsTrue (list_all (λ g. fits new g.1) gs)
  globals_stay = all_mono (λ g. fits old g.1) (λ g. fits new g.1) (λ g. fits_stays g.1)

-- ---- a key holds no reference

module _ (os : Objects) where
  abbrev KeyFits : Key → Type 0
  KeyFits k = IsTrue (fits os (value_of k))

  parts_fit : (all : List ((k : Key) × KeyFits k)) → IsTrue (list_all (λ b. b) (map (fits os) (map value_of (map (λ e. e.0) all))))
  parts_fit [] = refl
  parts_fit (e ∷ all) = and_both (fits os (value_of e.0)) (list_all (λ b. b) (map (fits os) (map value_of (map (λ f. f.0) all)))) e.1 (parts_fit all)

  layer_fits : (x : Value-F Value) → IsTrue (fits_step os (map-Value Value Bool (fits os) x)) → IsTrue (fits os (roll-Value x))
  unfolding fits
  layer_fits x h = rw (fold-roll-Value Bool (fits_step os) x) h

  key_layer : (y : Key-F ((k : Key) × KeyFits k)) → KeyFits (roll-Key (map-Key ((k : Key) × KeyFits k) Key (λ e. e.0) y))
  key_layer (Key-F.Tuple all) = rw (fold-roll-Key Value value_step, ← value.rolls-Tuple (map value_of (map (λ e. e.0) all))) (layer_fits (Value-F.Tuple (map value_of (map (λ e. e.0) all))) (parts_fit all))
  key_layer (Key-F.Text points) = rw (fold-roll-Key Value value_step, ← value.rolls-Text points) (layer_fits (Value-F.Text points) refl)
  key_layer (Key-F.Int z) = rw (fold-roll-Key Value value_step, ← value.rolls-Int z) (layer_fits (Value-F.Int z) refl)
  key_layer (Key-F.Bool b) = rw (fold-roll-Key Value value_step, ← value.rolls-Bool b) (layer_fits (Value-F.Bool b) refl)
  key_layer Key-F.None = rw (fold-roll-Key Value value_step, ← value.rolls-None) (layer_fits Value-F.None refl)

  pub key_fits : (k : Key) → IsTrue (fits os (value_of k))
  key_fits = ind-Key KeyFits (λ x y is. subst (λ z. KeyFits (roll-Key z)) is (key_layer y))

-- ---- new and changed objects

module _ (test : Option (Object ℕ) → Bool) where
  -- what passes a test is still there once an object is added
  passes_before : test None ≡ false → (os : Objects) (o : Object ℕ) (i : ℕ) → IsTrue (test (slice_get os i)) → IsTrue (test (slice_get (os ++ o ∷ []) i))
  passes_before none [] o i h = absurd (cc)
  passes_before none (x ∷ os) o zero h = h
  passes_before none (x ∷ os) o (suc i) h = passes_before none os o i h

  -- and once one is changed into one that passes too
  passes_after : (os : Objects) (at : ℕ) (o : Object ℕ) → (IsTrue (test (slice_get os at)) → IsTrue (test (Some o))) → (i : ℕ) → IsTrue (test (slice_get os i)) → IsTrue (test (slice_get (slice_set os at o) i))
  passes_after [] at o same i h = h
  passes_after (x ∷ os) zero o same zero h = same h
  passes_after (x ∷ os) zero o same (suc i) h = h
  passes_after (x ∷ os) (suc at) o same zero h = h
  passes_after (x ∷ os) (suc at) o same (suc i) h = passes_after os at o same i h

pub stay_new : (os : Objects) (o : Object ℕ) → Stay os (os ++ o ∷ [])
stay_new os o = record { lists = passes_before is_list refl os o; dicts = passes_before is_dict refl os o; functions = passes_before is_function refl os o }

-- two objects of one kind
pub record Alike (before : Option (Object ℕ)) (after : Object ℕ) : Type 0 where
  pub list : IsTrue (is_list before) → IsTrue (is_list (Some after))
  pub dict : IsTrue (is_dict before) → IsTrue (is_dict (Some after))
  pub function : IsTrue (is_function before) → IsTrue (is_function (Some after))

pub stay_set : (os : Objects) (at : ℕ) (o : Object ℕ) → Alike (slice_get os at) o → Stay os (slice_set os at o)
stay_set os at o alike = record {
  lists = passes_after is_list os at o alike.list;
  dicts = passes_after is_dict os at o alike.dict;
  functions = passes_after is_function os at o alike.function;
}
