-- A machine that is made from the parts of a state, step by step.
use Rattle.std.proofs.Common.{◌≡◌, ℕ, zero, suc, ◌+◌, ◌-◌, ◌*◌, ◌^◌, ◌<◌, ◌≤◌, Bool, false, List, [], ◌∷◌, ◌++◌, length, map, take, drop, get_or, Option, Some, None, IsTrue, OnOk, Result, refl, sym, ap, subst, ◌∙◌, append_assoc, append-nil, slice_get, slice_set, arith}
use Rattle.std.specs.Prelude.{◌&&◌, is_some}
use Rattle.std.specs.List.{list_all}
use Rattle.std.specs.List.Sorted.{IsStrictlySortedBy}
use Rattle.std.specs.Map.{keys_of}
use Rattle.std.specs.BTreeMap.{insert_entry}
use Rattle.std.specs.Ordering.{match_ordering}
use Rattle.std.specs.declared.cmp.Ordering.{Ordering}
use Rattle.std.specs.declared.cmp.Ordering.TheVariants.{Less}
use Rattle.std.proofs.lemmas.List.{length-append, length-map, length-take-le, map_push, take-append-drop, take_all, take_more, drop_more}
use Rattle.std.proofs.lemmas.Option.{get_or_from_slice_get, slice_get_within}
use Rattle.chex_base.specs.TextOrder.{text_cmp}
use Rattle.heap_store.specs.Objects.{defaults, defaults_in, with_defaults, with_defaults_in}
use Rattle.heap_store.proofs.References.{Alike, Stay, fits_stays, object_fits, stay_set}
use Rattle.heap_store.proofs.Tested.{and_left, and_right, one_passes}
use Rattle.star_value.specs.declared.key.Key.{Key}
use Rattle.star_value.specs.declared.value.Value.{Value}
use Rattle.star_value.specs.declared.value.Value.TheVariants as value
use Rattle.star_value.specs.Keys.{value_of}
use Rattle.star_meaning.specs.State.{Object, AList, ADict, AFunction, State, dict, dict_get, dict_put, function, function_held, items_held, list, object, pairs_held, set_global, with_dict, with_list}
use Rattle.star_meaning.specs.Validity.{IsMachine, MachineState, all_in_object, all_in_pair, are_distinct, fits, has_distinct_keys, is_dict, is_function, is_list, nothing_ran}
use Rattle.snapshot_codec.specs.declared.content.Content.{Content}
use Rattle.snapshot_codec.specs.declared.content.Content.TheVariants as content
use Rattle.snapshot_codec.specs.Building.{bare, bare_state, nones, state_with, with_globals, with_objects, with_ran}
use Rattle.snapshot_codec.specs.Contents.{object_of}
use Rattle.snapshot_codec.proofs.Fitting.{fits_none}
use Rattle.snapshot_codec.proofs.Putting.{put_new}
use Rattle.snapshot_codec.proofs.ValidRead.{absent_in}

abbrev Objects : Type 0
Objects = List (Object ℕ)

abbrev PairList : Type 0
PairList = List (Key × Value)

abbrev GlobalList : Type 0
GlobalList = List (List ℕ × Value)

-- ---- lists

take_is : {X : Type 0} (xs : List X) (i : ℕ) (x : X) → i < length xs → x ≡ get_or xs i x → take (i + 1) xs ≡ take i xs ++ x ∷ []
take_is xs i x lt e = take_more xs i x lt ∙ ap (λ y. take i xs ++ y ∷ []) (sym e)

take_at_place : {X : Type 0} (xs : List X) (i : ℕ) (x : X) → slice_get xs i ≡ Some x → take (i + 1) xs ≡ take i xs ++ x ∷ []
take_at_place xs i x e = take_more xs i x (slice_get_within xs i x e) ∙ ap (λ y. take i xs ++ y ∷ []) (get_or_from_slice_get xs i x x e)

drop_at_place : {X : Type 0} (xs : List X) (i : ℕ) (x : X) → slice_get xs i ≡ Some x → drop i xs ≡ x ∷ drop (i + 1) xs
drop_at_place xs i x e = drop_more xs i x (slice_get_within xs i x e) ∙ ap (λ y. y ∷ drop (i + 1) xs) (get_or_from_slice_get xs i x x e)

got_set : (os : Objects) (id : ℕ) (o p : Object ℕ) → slice_get os id ≡ Some o → slice_get (slice_set os id p) id ≡ Some p
got_set [] id o p e = absurd (cc)
got_set (x ∷ os) zero o p e = refl
got_set (x ∷ os) (suc id) o p e = got_set os id o p e

set_same : (os : Objects) (id : ℕ) (o : Object ℕ) → slice_get os id ≡ Some o → slice_set os id o ≡ os
set_same [] id o e = absurd (cc)
set_same (x ∷ os) zero o e = let same : o ≡ x = cc in ap (λ (y : Object ℕ). y ∷ os) same
set_same (x ∷ os) (suc id) o e = ap (λ (ys : Objects). x ∷ ys) (set_same os id o e)

set_twice : (os : Objects) (id : ℕ) (a b : Object ℕ) → slice_set (slice_set os id a) id b ≡ slice_set os id b
set_twice [] id a b = refl
set_twice (x ∷ os) zero a b = refl
set_twice (x ∷ os) (suc id) a b = ap (λ (ys : Objects). x ∷ ys) (set_twice os id a b)

-- ---- nodes

module _ (before now : MachineState) (nodes : List ℕ) (i : ℕ) where
  abbrev Entered : Type 0
  Entered = now ≡ with_ran before (before.ran ++ take i nodes)

  pub enter_room : i < length nodes → length before.ran + length nodes ≤ 64 → Entered → length now.ran < 64
  enter_room lt few is =
      let a : length now.ran ≡ length (before.ran ++ take i nodes) = ap (λ (m : MachineState). length m.ran) is in
      let b = length-append before.ran (take i nodes) in
      let t : length (take i nodes) ≡ i = length-take-le i nodes (omega (arith, lt)) in
      omega (arith, a, b, t, lt, few)

  pub entered_more : (new : MachineState) (node : ℕ) → i < length nodes → node ≡ get_or nodes i node → Entered → new ≡ record now { ran = now.ran ++ node ∷ [] } → new ≡ with_ran before (before.ran ++ take (i + 1) nodes)
  entered_more new node lt e is one =
      one ∙ ap (λ (m : MachineState). with_ran m (m.ran ++ node ∷ [])) is
      ∙ ap (with_ran before) (append_assoc before.ran (take i nodes) (node ∷ []) ∙ ap (λ (xs : List ℕ). before.ran ++ xs) (sym (take_is nodes i node lt e)))

  pub entered_all : length nodes ≤ i → Entered → now ≡ with_ran before (before.ran ++ nodes)
  entered_all past is = is ∙ ap (λ (xs : List ℕ). with_ran before (before.ran ++ xs)) (take_all i nodes past)

pub entered_none : (m : MachineState) (nodes : List ℕ) → m ≡ with_ran m (m.ran ++ take 0 nodes)
entered_none m nodes = sym (ap (with_ran m) (append-nil m.ran))

-- ---- objects that hold nothing yet

pub nones_more : (none new : List Value) (count i : ℕ) → i < count → new ≡ none ++ value.None ∷ [] → none ++ nones (count - i) ≡ nones count → new ++ nones (count - (i + 1)) ≡ nones count
nones_more none new count i lt push so_far =
    let k : count - i ≡ suc (count - (i + 1)) = omega (arith, lt) in
    ap (λ (vs : List Value). vs ++ nones (count - (i + 1))) push ∙ append_assoc none (value.None ∷ []) (nones (count - (i + 1))) ∙ ap (λ (n : ℕ). none ++ nones n) (sym k) ∙ so_far

pub nones_done : (none : List Value) (count i : ℕ) → count ≤ i → none ++ nones (count - i) ≡ nones count → none ≡ nones count
nones_done none count i past so_far =
    let k : count - i ≡ 0 = omega (arith, past) in
    sym (append-nil none) ∙ ap (λ (n : ℕ). none ++ nones n) (sym k) ∙ so_far

pub nones_fit : (os : Objects) (n : ℕ) → IsTrue (list_all (fits os) (nones n))
nones_fit os zero = refl
nones_fit os (suc n) = subst (λ (b : Bool). IsTrue (b && list_all (fits os) (nones n))) (sym (fits_none os)) (nones_fit os n)

pub bare_list : (o : Content) (items : List Value) → o ≡ content.List items → AList [] ≡ bare (object_of o)
bare_list o items is = ap (λ (x : Content). bare (object_of x)) (sym is)

pub bare_dict : (o : Content) (pairs : PairList) → o ≡ content.Dict pairs → ADict [] ≡ bare (object_of o)
bare_dict o pairs is = ap (λ (x : Content). bare (object_of x)) (sym is)

pub bare_function : (o : Content) (cell number : ℕ) (values : List Value) (n : ℕ) → o ≡ content.Function cell number values → n ≡ length values → AFunction cell number (nones n) ≡ bare (object_of o)
bare_function o cell number values n is count = ap (λ (k : ℕ). AFunction cell number (nones k)) count ∙ ap (λ (x : Content). bare (object_of x)) (sym is)

pub made_as : {T E : Type 0} (r : Result T E) (m new : MachineState) (a b : Object ℕ) → a ≡ b → OnOk r (new ≡ with_objects m (m.state.objects ++ a ∷ [])) → OnOk r (new ≡ with_objects m (m.state.objects ++ b ∷ []))
made_as r m new a b e h = subst (λ (o : Object ℕ). OnOk r (new ≡ with_objects m (m.state.objects ++ o ∷ []))) e h

module _ (before now : MachineState) (objects : List Content) (i : ℕ) where
  abbrev Made : Type 0
  Made = now ≡ with_objects before (map bare (map object_of (take i objects)))

  pub make_room : i < length objects → length objects ≤ 1000000 * length before.ran → Made → length now.state.objects < 1000000 * length now.ran
  make_room lt room is =
      let a : length now.state.objects ≡ length (map bare (map object_of (take i objects))) = ap (λ (m : MachineState). length m.state.objects) is in
      let b : length (map bare (map object_of (take i objects))) ≡ length (map object_of (take i objects)) = length-map (map object_of (take i objects)) bare in
      let d : length (map object_of (take i objects)) ≡ length (take i objects) = length-map (take i objects) object_of in
      let t : length (take i objects) ≡ i = length-take-le i objects (omega (arith, lt)) in
      let r : length now.ran ≡ length before.ran = ap (λ (m : MachineState). length m.ran) is in
      omega (arith, a, b, d, t, r, lt, room)

  pub made_more : (new : MachineState) (x : Content) → i < length objects → x ≡ get_or objects i x → Made → new ≡ with_objects now (now.state.objects ++ bare (object_of x) ∷ []) → new ≡ with_objects before (map bare (map object_of (take (i + 1) objects)))
  made_more new x lt e is one =
      let longer : map bare (map object_of (take (i + 1) objects)) ≡ map bare (map object_of (take i objects)) ++ bare (object_of x) ∷ [] =
      ap (λ (xs : List Content). map bare (map object_of xs)) (take_is objects i x lt e) ∙ ap (map bare) (map_push object_of (take i objects) x) ∙ map_push bare (map object_of (take i objects)) (object_of x) in
      one ∙ ap (λ (m : MachineState). with_objects m (m.state.objects ++ bare (object_of x) ∷ [])) is ∙ ap (with_objects before) (sym longer)

  pub made_all : length objects ≤ i → Made → now ≡ with_objects before (map bare (map object_of objects))
  made_all past is = is ∙ ap (λ (xs : List Content). with_objects before (map bare (map object_of xs))) (take_all i objects past)

pub made_none : (m : MachineState) (objects : List Content) → m.state.objects ≡ [] → m ≡ with_objects m (map bare (map object_of (take 0 objects)))
made_none m objects none = ap (with_objects m) none

-- ---- lists

pub list_filled : (m new : MachineState) (id : ℕ) (items : List Value) → slice_get m.state.objects id ≡ Some (AList []) → new ≡ record m { state = with_list m.state id (list m.state id ++ items) } → new ≡ with_objects m (slice_set m.state.objects id (AList items))
unfolding with_list list object
list_filled m new id items there e = e ∙ ap (λ (o : Option (Object ℕ)). with_objects m (slice_set m.state.objects id (AList (items_held o ++ items)))) there

-- ---- dicts

absent : {A : Type 0} (o : Option A) → is_some o ≡ false → o ≡ None
absent None e = refl
absent (Some a) e = absurd (cc)

module _ (before now : MachineState) (id : ℕ) (there : slice_get before.state.objects id ≡ Some (ADict [])) (pairs : PairList) (place : ℕ) where
  abbrev olds : Objects
  olds = before.state.objects

  abbrev so_far : PairList
  so_far = take place pairs

  abbrev Put : Type 0
  Put = now ≡ with_objects before (slice_set olds id (ADict so_far))

  pub dict_kind : Put → IsTrue (is_dict (slice_get now.state.objects id))
  dict_kind is = subst (λ (m : MachineState). IsTrue (is_dict (slice_get m.state.objects id))) (sym is) (subst (λ (o : Option (Object ℕ)). IsTrue (is_dict o)) (sym (got_set olds id (ADict []) (ADict so_far) there)) refl)

  same_kind : Alike (slice_get olds id) (ADict so_far)
  same_kind = subst (λ (o : Option (Object ℕ)). Alike o (ADict so_far)) (sym there) (record { list = λ h. h; dict = λ h. h; function = λ h. h })

  pub dict_fit : (pair : Key × Value) (held : Value) → IsTrue (list_all (all_in_pair (fits olds)) pairs) → slice_get pairs place ≡ Some pair → held ≡ pair.1 → Put → IsTrue (fits now.state.objects held)
  dict_fit pair held fit e same is =
      let one : IsTrue (all_in_pair (fits olds) pair) = one_passes (all_in_pair (fits olds)) pairs place pair fit e in
      let two : IsTrue (fits olds pair.1) = and_right (fits olds (value_of pair.0)) (fits olds pair.1) one in
      let three : IsTrue (fits olds held) = subst (λ (v : Value). IsTrue (fits olds v)) (sym same) two in
      subst (λ (m : MachineState). IsTrue (fits m.state.objects held)) (sym is) (fits_stays olds (slice_set olds id (ADict so_far)) (stay_set olds id (ADict so_far) same_kind) held three)

  pub dict_more : (new : MachineState) (pair : Key × Value) (key : Key) (held : Value) → IsTrue (are_distinct pairs) → slice_get pairs place ≡ Some pair → key ≡ pair.0 → held ≡ pair.1 → Put
      → new ≡ record now { state = with_dict now.state id (dict_put (dict now.state id) key held) } → new ≡ with_objects before (slice_set olds id (ADict (take (place + 1) pairs)))
  unfolding with_dict dict object
  dict_more new pair key held distinct e ke he is one =
      let whole : pairs ≡ so_far ++ pair ∷ drop (place + 1) pairs = sym (take-append-drop place pairs) ∙ ap (λ (ps : PairList). so_far ++ ps) (drop_at_place pairs place pair e) in
      let apart : IsTrue (are_distinct (so_far ++ pair ∷ drop (place + 1) pairs)) = subst (λ (ps : PairList). IsTrue (are_distinct ps)) whole distinct in
      let new_key : dict_get so_far pair.0 ≡ None = absent (dict_get so_far pair.0) (absent_in so_far pair (drop (place + 1) pairs) apart) in
      let put : dict_put so_far pair.0 pair.1 ≡ take (place + 1) pairs = put_new so_far pair.0 pair.1 new_key ∙ sym (take_at_place pairs place pair e) in
      one
      ∙ ap (λ (m : MachineState). with_objects m (slice_set m.state.objects id (ADict (dict_put (pairs_held (slice_get m.state.objects id)) key held)))) is
      ∙ ap (λ (o : Option (Object ℕ)). with_objects before (slice_set (slice_set olds id (ADict so_far)) id (ADict (dict_put (pairs_held o) key held)))) (got_set olds id (ADict []) (ADict so_far) there)
      ∙ (λ i. with_objects before (slice_set (slice_set olds id (ADict so_far)) id (ADict (dict_put so_far (ke i) (he i)))))
      ∙ ap (with_objects before) (set_twice olds id (ADict so_far) (ADict (dict_put so_far pair.0 pair.1)))
      ∙ ap (λ (ps : PairList). with_objects before (slice_set olds id (ADict ps))) put

  pub dict_all : length pairs ≤ place → Put → now ≡ with_objects before (slice_set olds id (ADict pairs))
  dict_all past is = is ∙ ap (λ (ps : PairList). with_objects before (slice_set olds id (ADict ps))) (take_all place pairs past)

pub dict_none : (m : MachineState) (id : ℕ) (pairs : PairList) → slice_get m.state.objects id ≡ Some (ADict []) → m ≡ with_objects m (slice_set m.state.objects id (ADict (take 0 pairs)))
dict_none m id pairs there = sym (ap (with_objects m) (set_same m.state.objects id (ADict []) there))

-- ---- functions

-- the function of a number
pub record Held (os : Objects) (id : ℕ) : Type 0 where
  pub cell : ℕ
  pub number : ℕ
  pub values : List Value
  pub is : slice_get os id ≡ Some (AFunction cell number values)

held_at : (os : Objects) (id : ℕ) (o : Option (Object ℕ)) → slice_get os id ≡ o → IsTrue (is_function o) → Held os id
held_at os id None e h = absurd (cc)
held_at os id (Some (AList items)) e h = absurd (cc)
held_at os id (Some (ADict pairs)) e h = absurd (cc)
held_at os id (Some (AFunction cell number values)) e h = record { cell = cell; number = number; values = values; is = e }

defaults_are : (s : State ℕ) (id cell number : ℕ) (values : List Value) → slice_get s.objects id ≡ Some (AFunction cell number values) → defaults s id ≡ values
unfolding defaults function object
defaults_are s id cell number values e = ap (λ (o : Option (Object ℕ)). defaults_in (function_held o)) e

with_are : (s : State ℕ) (id cell number : ℕ) (values others : List Value) → slice_get s.objects id ≡ Some (AFunction cell number values) → with_defaults s id others ≡ record s { objects = slice_set s.objects id (AFunction cell number others) }
unfolding with_defaults function object
with_are s id cell number values others e = ap (λ (o : Option (Object ℕ)). with_defaults_in (function_held o) s id others) e

-- what holds before the rest of the values of a function's defaults is set, from the last to the first
pub record Sets (before now : MachineState) (id : ℕ) (all rest : List Value) : Type 0 where
  pub held : Held before.state.objects id
  pub tail : List Value
  pub parts : rest ++ tail ≡ all
  pub is : now ≡ with_objects before (slice_set before.state.objects id (AFunction held.cell held.number (nones (length rest) ++ tail)))

pub sets_start : (m : MachineState) (id : ℕ) (all : List Value) → IsTrue (is_function (slice_get m.state.objects id)) → defaults m.state id ≡ nones (length all) → Sets m m id all all
sets_start m id all kind none =
    let held : Held m.state.objects id = held_at m.state.objects id (slice_get m.state.objects id) refl kind in
    let same : nones (length all) ++ [] ≡ held.values = append-nil (nones (length all)) ∙ sym none ∙ defaults_are m.state id held.cell held.number held.values held.is in
    record {
      held = held;
      tail = [];
      parts = append-nil all;
      is = sym (ap (λ (vs : List Value). with_objects m (slice_set m.state.objects id (AFunction held.cell held.number vs))) same ∙ ap (with_objects m) (set_same m.state.objects id (AFunction held.cell held.number held.values) held.is));
    }

set_none : (k : ℕ) (v : Value) (tail : List Value) → slice_set (nones (suc k) ++ tail) k v ≡ nones k ++ v ∷ tail
set_none zero v tail = refl
set_none (suc k) v tail = ap (λ (vs : List Value). value.None ∷ vs) (set_none k v tail)

one_more : (xs : List Value) (v : Value) → length (xs ++ v ∷ []) ≡ suc (length xs)
one_more [] v = refl
one_more (x ∷ xs) v = ap suc (one_more xs v)

none_within : (k : ℕ) (tail : List Value) → k < length (nones (suc k) ++ tail)
none_within zero tail = omega arith
none_within (suc k) tail = let more = none_within k tail in omega (arith, more)

module _ (before now : MachineState) (id : ℕ) (all rest : List Value) (v : Value) (old : List Value) (popped : old ≡ rest ++ v ∷ []) (sets : Sets before now id all old) where
  abbrev its_cell : ℕ
  its_cell = sets.held.cell

  abbrev its_number : ℕ
  its_number = sets.held.number

  abbrev shape : List Value
  shape = nones (suc (length rest)) ++ sets.tail

  shape_is : nones (length old) ++ sets.tail ≡ shape
  shape_is = ap (λ (xs : List Value). nones (length xs) ++ sets.tail) popped ∙ ap (λ (n : ℕ). nones n ++ sets.tail) (one_more rest v)

  now_is : now ≡ with_objects before (slice_set before.state.objects id (AFunction its_cell its_number shape))
  now_is = sets.is ∙ ap (λ (vs : List Value). with_objects before (slice_set before.state.objects id (AFunction its_cell its_number vs))) shape_is

  its_slot : slice_get now.state.objects id ≡ Some (AFunction its_cell its_number shape)
  its_slot = ap (λ (m : MachineState). slice_get m.state.objects id) now_is ∙ got_set before.state.objects id (AFunction its_cell its_number sets.held.values) (AFunction its_cell its_number shape) sets.held.is

  pub set_kind : IsTrue (is_function (slice_get now.state.objects id))
  set_kind = subst (λ (o : Option (Object ℕ)). IsTrue (is_function o)) (sym its_slot) refl

  pub set_within : (place : ℕ) → place ≡ length rest → place < length (defaults now.state id)
  set_within place at =
      let a : length (defaults now.state id) ≡ length shape = ap length (defaults_are now.state id its_cell its_number shape its_slot) in
      let b = none_within (length rest) sets.tail in
      omega (arith, a, b, at)

  parts_now : rest ++ (v ∷ sets.tail) ≡ all
  parts_now = sym (append_assoc rest (v ∷ []) sets.tail) ∙ ap (λ (xs : List Value). xs ++ sets.tail) (sym popped) ∙ sets.parts

  same_kind_set : Alike (slice_get before.state.objects id) (AFunction its_cell its_number shape)
  same_kind_set = subst (λ (o : Option (Object ℕ)). Alike o (AFunction its_cell its_number shape)) (sym sets.held.is) (record { list = λ h. h; dict = λ h. h; function = λ h. h })

  pub set_fit : IsTrue (list_all (fits before.state.objects) all) → IsTrue (fits now.state.objects v)
  set_fit fit =
      let at : slice_get (rest ++ (v ∷ sets.tail)) (length rest) ≡ Some v = behind rest in
      let here : IsTrue (fits before.state.objects v) = one_passes (fits before.state.objects) all (length rest) v fit (ap (λ (xs : List Value). slice_get xs (length rest)) (sym parts_now) ∙ at) in
      subst (λ (m : MachineState). IsTrue (fits m.state.objects v)) (sym now_is) (fits_stays before.state.objects (slice_set before.state.objects id (AFunction its_cell its_number shape)) (stay_set before.state.objects id (AFunction its_cell its_number shape) same_kind_set) v here)
    where
      behind : (xs : List Value) → slice_get (xs ++ (v ∷ sets.tail)) (length xs) ≡ Some v
      behind [] = refl
      behind (x ∷ xs) = behind xs

  pub sets_next : (new : MachineState) (place : ℕ) → place ≡ length rest → new ≡ record now { state = with_defaults now.state id (slice_set (defaults now.state id) place v) } → Sets before new id all rest
  sets_next new place at one =
      let values : slice_set (defaults now.state id) place v ≡ nones (length rest) ++ (v ∷ sets.tail) =
      (λ i. slice_set (defaults_are now.state id its_cell its_number shape its_slot i) (at i) v) ∙ set_none (length rest) v sets.tail in
      record {
        held = sets.held;
        tail = v ∷ sets.tail;
        parts = parts_now;
        is = one ∙ ap (λ (s : State ℕ). record now { state = s }) (with_are now.state id its_cell its_number shape (slice_set (defaults now.state id) place v) its_slot)
            ∙ ap (λ (vs : List Value). with_objects now (slice_set now.state.objects id (AFunction its_cell its_number vs))) values
            ∙ ap (λ (m : MachineState). with_objects m (slice_set m.state.objects id (AFunction its_cell its_number (nones (length rest) ++ (v ∷ sets.tail))))) now_is
            ∙ ap (with_objects before) (set_twice before.state.objects id (AFunction its_cell its_number shape) (AFunction its_cell its_number (nones (length rest) ++ (v ∷ sets.tail))));
      }

pub sets_end : (before now : MachineState) (id : ℕ) (all rest : List Value) → rest ≡ [] → Sets before now id all rest → now ≡ record before { state = with_defaults before.state id all }
sets_end before now id all rest none sets =
    let left : sets.tail ≡ all = ap (λ (xs : List Value). xs ++ sets.tail) (sym none) ∙ sets.parts in
    sets.is
    ∙ ap (λ (xs : List Value). with_objects before (slice_set before.state.objects id (AFunction sets.held.cell sets.held.number (nones (length xs) ++ sets.tail)))) none
    ∙ ap (λ (vs : List Value). with_objects before (slice_set before.state.objects id (AFunction sets.held.cell sets.held.number vs))) left
    ∙ ap (λ (s : State ℕ). record before { state = s }) (sym (with_are before.state id sets.held.cell sets.held.number sets.held.values all sets.held.is))

-- ---- one object

pub object_again : (o x : Content) → o ≡ x → object_of x ≡ object_of o
object_again o x is = ap object_of (sym is)

pub filled_as : {T E : Type 0} (r : Result T E) (m new : MachineState) (id : ℕ) (o : Content) (a : Object ℕ) → a ≡ object_of o → OnOk r (new ≡ with_objects m (slice_set m.state.objects id a)) → OnOk r (new ≡ with_objects m (slice_set m.state.objects id (object_of o)))
filled_as r m new id o a e h = subst (λ (x : Object ℕ). OnOk r (new ≡ with_objects m (slice_set m.state.objects id x))) e h

module _ (m : MachineState) (id : ℕ) (o : Content) (there : slice_get m.state.objects id ≡ Some (bare (object_of o))) where
  pub list_there : (items : List Value) → o ≡ content.List items → slice_get m.state.objects id ≡ Some (AList [])
  list_there items is = there ∙ ap (λ (x : Content). Some (bare (object_of x))) is

  pub dict_there : (pairs : PairList) → o ≡ content.Dict pairs → slice_get m.state.objects id ≡ Some (ADict [])
  dict_there pairs is = there ∙ ap (λ (x : Content). Some (bare (object_of x))) is

  function_there : (c n : ℕ) (values : List Value) → o ≡ content.Function c n values → slice_get m.state.objects id ≡ Some (AFunction c n (nones (length values)))
  function_there c n values is = there ∙ ap (λ (x : Content). Some (bare (object_of x))) is

  pub function_kind : (c n : ℕ) (values : List Value) → o ≡ content.Function c n values → IsTrue (is_function (slice_get m.state.objects id))
  function_kind c n values is = subst (λ (x : Option (Object ℕ)). IsTrue (is_function x)) (sym (function_there c n values is)) refl

  pub function_none : (c n : ℕ) (values : List Value) → o ≡ content.Function c n values → defaults m.state id ≡ nones (length values)
  function_none c n values is = defaults_are m.state id c n (nones (length values)) (function_there c n values is)

  pub function_filled : (c n : ℕ) (values : List Value) (new : MachineState) → o ≡ content.Function c n values → new ≡ record m { state = with_defaults m.state id values } → new ≡ with_objects m (slice_set m.state.objects id (object_of o))
  function_filled c n values new is e =
      e ∙ ap (λ (s : State ℕ). record m { state = s }) (with_are m.state id c n (nones (length values)) values (function_there c n values is))
      ∙ ap (λ (x : Content). with_objects m (slice_set m.state.objects id (object_of x))) (sym is)

pub list_fit : (all : Objects) (o : Content) (items : List Value) → o ≡ content.List items → IsTrue (all_in_object (fits all) (object_of o)) → IsTrue (list_all (fits all) items)
list_fit all o items is h = subst (λ (x : Content). IsTrue (all_in_object (fits all) (object_of x))) is h

pub pairs_fit : (all : Objects) (o : Content) (pairs : PairList) → o ≡ content.Dict pairs → IsTrue (all_in_object (fits all) (object_of o)) → IsTrue (list_all (all_in_pair (fits all)) pairs)
pairs_fit all o pairs is h = subst (λ (x : Content). IsTrue (all_in_object (fits all) (object_of x))) is h

pub pairs_apart : (o : Content) (pairs : PairList) → o ≡ content.Dict pairs → IsTrue (has_distinct_keys (object_of o)) → IsTrue (are_distinct pairs)
pairs_apart o pairs is h = subst (λ (x : Content). IsTrue (has_distinct_keys (object_of x))) is h

pub values_fit : (all : Objects) (o : Content) (c n : ℕ) (values : List Value) → o ≡ content.Function c n values → IsTrue (all_in_object (fits all) (object_of o)) → IsTrue (list_all (fits all) values)
values_fit all o c n values is h = subst (λ (x : Content). IsTrue (all_in_object (fits all) (object_of x))) is h

-- ---- all objects

-- what holds before the rest of the objects is filled, from the last to the first
pub record Fills (before now : MachineState) (all rest : List Content) : Type 0 where
  pub tail : List Content
  pub parts : rest ++ tail ≡ all
  pub is : now ≡ with_objects before (map bare (map object_of rest) ++ map object_of tail)

pub fills_start : (m : MachineState) (all : List Content) → m.state.objects ≡ map bare (map object_of all) → Fills m m all all
fills_start m all is = record { tail = []; parts = append-nil all; is = sym (ap (with_objects m) (append-nil (map bare (map object_of all)) ∙ sym is)) }

bare_slot : (rest : List Content) (x : Content) (T : Objects) → slice_get (map bare (map object_of (rest ++ x ∷ [])) ++ T) (length rest) ≡ Some (bare (object_of x))
bare_slot [] x T = refl
bare_slot (r ∷ rest) x T = bare_slot rest x T

set_slot : (rest : List Content) (x : Content) (T : Objects) → slice_set (map bare (map object_of (rest ++ x ∷ [])) ++ T) (length rest) (object_of x) ≡ map bare (map object_of rest) ++ (object_of x ∷ T)
set_slot [] x T = refl
set_slot (r ∷ rest) x T = ap (λ (ys : Objects). bare (object_of r) ∷ ys) (set_slot rest x T)

full_slot : (rest : List Content) (x : Content) (tail : List Content) → slice_get (map object_of (rest ++ (x ∷ tail))) (length rest) ≡ Some (object_of x)
full_slot [] x tail = refl
full_slot (r ∷ rest) x tail = full_slot rest x tail

module _ (test : Option (Object ℕ) → Bool) (keeps : (o : Object ℕ) → IsTrue (test (Some o)) → IsTrue (test (Some (bare o)))) where
  bare_passes : (rest tail : List Content) (i : ℕ) → IsTrue (test (slice_get (map object_of (rest ++ tail)) i)) → IsTrue (test (slice_get (map bare (map object_of rest) ++ map object_of tail) i))
  bare_passes [] tail i h = h
  bare_passes (r ∷ rest) tail zero h = keeps (object_of r) h
  bare_passes (r ∷ rest) tail (suc i) h = bare_passes rest tail i h

list_bare : (o : Object ℕ) → IsTrue (is_list (Some o)) → IsTrue (is_list (Some (bare o)))
list_bare (AList items) h = h
list_bare (ADict pairs) h = h
list_bare (AFunction cell number values) h = h

dict_bare : (o : Object ℕ) → IsTrue (is_dict (Some o)) → IsTrue (is_dict (Some (bare o)))
dict_bare (AList items) h = h
dict_bare (ADict pairs) h = h
dict_bare (AFunction cell number values) h = h

function_bare : (o : Object ℕ) → IsTrue (is_function (Some o)) → IsTrue (is_function (Some (bare o)))
function_bare (AList items) h = h
function_bare (ADict pairs) h = h
function_bare (AFunction cell number values) h = h

stays_bare : (rest tail : List Content) → Stay (map object_of (rest ++ tail)) (map bare (map object_of rest) ++ map object_of tail)
stays_bare rest tail = record { lists = bare_passes is_list list_bare rest tail; dicts = bare_passes is_dict dict_bare rest tail; functions = bare_passes is_function function_bare rest tail }

module _ (before now : MachineState) (all rest : List Content) (x : Content) (old : List Content) (popped : old ≡ rest ++ x ∷ []) (fills : Fills before now all old) (id : ℕ) (at : id ≡ length rest) where
  now_has : now ≡ with_objects before (map bare (map object_of (rest ++ x ∷ [])) ++ map object_of fills.tail)
  now_has = fills.is ∙ ap (λ (xs : List Content). with_objects before (map bare (map object_of xs) ++ map object_of fills.tail)) popped

  pub fill_there : slice_get now.state.objects id ≡ Some (bare (object_of x))
  fill_there = (λ i. slice_get (now_has i).state.objects (at i)) ∙ bare_slot rest x (map object_of fills.tail)

  all_parts : rest ++ (x ∷ fills.tail) ≡ all
  all_parts = sym (append_assoc rest (x ∷ []) fills.tail) ∙ ap (λ (xs : List Content). xs ++ fills.tail) (sym popped) ∙ fills.parts

  in_all : slice_get (map object_of all) (length rest) ≡ Some (object_of x)
  in_all = ap (λ (xs : List Content). slice_get (map object_of xs) (length rest)) (sym all_parts) ∙ full_slot rest x fills.tail

  stays_now : Stay (map object_of all) now.state.objects
  stays_now =
      subst (λ (m : MachineState). Stay (map object_of all) m.state.objects) (sym fills.is)
      (subst (λ (xs : List Content). Stay (map object_of xs) (map bare (map object_of old) ++ map object_of fills.tail)) fills.parts (stays_bare old fills.tail))

  pub fill_fit : IsTrue (list_all (all_in_object (fits (map object_of all))) (map object_of all)) → IsTrue (all_in_object (fits now.state.objects) (object_of x))
  fill_fit fit = object_fits (map object_of all) now.state.objects stays_now (object_of x) (one_passes (all_in_object (fits (map object_of all))) (map object_of all) (length rest) (object_of x) fit in_all)

  pub fill_keys : IsTrue (list_all has_distinct_keys (map object_of all)) → IsTrue (has_distinct_keys (object_of x))
  fill_keys keys = one_passes has_distinct_keys (map object_of all) (length rest) (object_of x) keys in_all

  pub fills_next : (new : MachineState) → new ≡ with_objects now (slice_set now.state.objects id (object_of x)) → Fills before new all rest
  fills_next new one = record {
    tail = x ∷ fills.tail;
    parts = all_parts;
    is = one ∙ (λ i. with_objects (now_has i) (slice_set (now_has i).state.objects (at i) (object_of x))) ∙ ap (with_objects before) (set_slot rest x (map object_of fills.tail));
  }

pub fills_room : (before now : MachineState) (all rest : List Content) (x : Content) (old : List Content) → old ≡ rest ++ x ∷ [] → Fills before now all old → length all < 2 ^ 32 → length rest < 2 ^ 32
fills_room before now all rest x old popped fills few =
    let a : length (old ++ fills.tail) ≡ length all = ap length fills.parts in
    let b = length-append old fills.tail in
    let d : length old ≡ length (rest ++ x ∷ []) = ap length popped in
    let e = length-append rest (x ∷ []) in
    omega (arith, a, b, d, e, few)

pub fills_end : (before now : MachineState) (all rest : List Content) → rest ≡ [] → Fills before now all rest → now ≡ with_objects before (map object_of all)
fills_end before now all rest none fills =
    let left : fills.tail ≡ all = ap (λ (xs : List Content). xs ++ fills.tail) (sym none) ∙ fills.parts in
    fills.is ∙ ap (λ (xs : List Content). with_objects before (map bare (map object_of xs) ++ map object_of fills.tail)) none ∙ ap (λ (xs : List Content). with_objects before (map object_of xs)) left

-- ---- globals

-- what holds before the rest of the globals is bound, from the last to the first
pub record Binds (before now : MachineState) (all rest : GlobalList) : Type 0 where
  pub tail : GlobalList
  pub parts : rest ++ tail ≡ all
  pub is : now ≡ with_globals before tail

pub binds_start : (m : MachineState) (all : GlobalList) → m.state.globals ≡ [] → Binds m m all all
binds_start m all none = record { tail = []; parts = append-nil all; is = ap (with_globals m) none }

later_names : (rest gs : GlobalList) → IsStrictlySortedBy text_cmp (keys_of (rest ++ gs)) → IsStrictlySortedBy text_cmp (keys_of gs)
unfolding IsStrictlySortedBy
later_names [] gs h = h
later_names (r ∷ rest) gs h = later_names rest gs h.1

put_first : (name : List ℕ) (v : Value) (gs : GlobalList) → IsStrictlySortedBy text_cmp (keys_of ((name, v) ∷ gs)) → insert_entry text_cmp gs name v ≡ (name, v) ∷ gs
unfolding IsStrictlySortedBy
put_first name v [] h = refl
put_first name v (g ∷ gs) h =
    let less : text_cmp name g.0 ≡ Less = h.0.0 in
    ap (λ (o : Ordering). match_ordering o ((name, v) ∷ g ∷ gs) ((g.0, v) ∷ gs) (g ∷ insert_entry text_cmp gs name v)) less

global_at : (rest : GlobalList) (g : List ℕ × Value) (tail : GlobalList) → slice_get (rest ++ (g ∷ tail)) (length rest) ≡ Some g
global_at [] g tail = refl
global_at (r ∷ rest) g tail = global_at rest g tail

module _ (before now : MachineState) (all rest : GlobalList) (name : List ℕ) (v : Value) (old : GlobalList) (popped : old ≡ rest ++ (name, v) ∷ []) (binds : Binds before now all old) where
  abbrev entry : List ℕ × Value
  entry = (name, v)

  parts_left : rest ++ (entry ∷ binds.tail) ≡ all
  parts_left = sym (append_assoc rest (entry ∷ []) binds.tail) ∙ ap (λ (xs : GlobalList). xs ++ binds.tail) (sym popped) ∙ binds.parts

  pub bind_fit : IsTrue (list_all (λ global. fits before.state.objects global.1) all) → IsTrue (fits now.state.objects v)
  bind_fit fit =
      let here : IsTrue (fits before.state.objects v) = one_passes (λ (global : List ℕ × Value). fits before.state.objects global.1) all (length rest) entry fit (ap (λ (xs : GlobalList). slice_get xs (length rest)) (sym parts_left) ∙ global_at rest entry binds.tail) in
      subst (λ (m : MachineState). IsTrue (fits m.state.objects v)) (sym binds.is) here

  pub binds_next : (new : MachineState) → IsStrictlySortedBy text_cmp (keys_of all) → new ≡ record now { state = set_global now.state name v } → Binds before new all rest
  unfolding set_global
  binds_next new rising one =
      let sorted : IsStrictlySortedBy text_cmp (keys_of (entry ∷ binds.tail)) = later_names rest (entry ∷ binds.tail) (subst (λ (xs : GlobalList). IsStrictlySortedBy text_cmp (keys_of xs)) (sym parts_left) rising) in
      record {
        tail = entry ∷ binds.tail;
        parts = parts_left;
        is = one ∙ ap (λ (m : MachineState). with_globals m (insert_entry text_cmp m.state.globals name v)) binds.is ∙ ap (with_globals before) (put_first name v binds.tail sorted);
      }

pub binds_end : (before now : MachineState) (all rest : GlobalList) → rest ≡ [] → Binds before now all rest → now ≡ with_globals before all
binds_end before now all rest none binds =
    let left : binds.tail ≡ all = ap (λ (xs : GlobalList). xs ++ binds.tail) (sym none) ∙ binds.parts in
    binds.is ∙ ap (with_globals before) left

-- ---- the whole

pub started_few : (m : MachineState) (ran : List ℕ) → m ≡ nothing_ran → length ran ≤ 64 → length m.ran + length ran ≤ 64
started_few m ran is few = let e : length m.ran ≡ 0 = ap (λ (x : MachineState). length x.ran) is in omega (arith, e, few)

module _ (m entered : MachineState) (ran : List ℕ) (new : m ≡ nothing_ran) (is : entered ≡ with_ran m (m.ran ++ ran)) where
  only_ran : entered ≡ with_ran nothing_ran ran
  only_ran = is ∙ ap (λ (x : MachineState). with_ran x (x.ran ++ ran)) new

  pub started_none : entered.state.objects ≡ []
  started_none = ap (λ (x : MachineState). x.state.objects) only_ran

  pub started_room : (objects : List Content) → length objects ≤ 1000000 * length ran → length objects ≤ 1000000 * length entered.ran
  started_room objects room = let e : length entered.ran ≡ length ran = ap (λ (x : MachineState). length x.ran) only_ran in omega (arith, e, room)

  pub started_is : (made : MachineState) (objects : List Content) → made ≡ with_objects entered (map bare (map object_of objects)) → made ≡ bare_state ran (map object_of objects)
  started_is made objects one = one ∙ ap (λ (x : MachineState). with_objects x (map bare (map object_of objects))) only_ran

module _ (ran R : List ℕ) (gs : GlobalList) (os S : List Content) (sr : R ≡ ran) (so : S ≡ os) (machine : IsMachine (state_with ran gs (map object_of os))) where
  pub built_few : length R ≤ 64
  built_few = let few = machine.few in let e : length R ≡ length ran = ap length sr in omega (arith, few, e)

  pub built_room : length S ≤ 1000000 * length R
  built_room =
      let room = machine.room in
      let e : length R ≡ length ran = ap length sr in
      let d : length S ≡ length os = ap length so in
      let b : length (map object_of os) ≡ length os = length-map os object_of in
      omega (arith, room, e, d, b)

  pub built_low : length os < 2 ^ 32
  built_low =
      let few = machine.few in
      let room = machine.room in
      let b : length (map object_of os) ≡ length os = length-map os object_of in
      omega (arith, few, room, b)

  pub built_fit : IsTrue (list_all (all_in_object (fits (map object_of os))) (map object_of os))
  built_fit = and_right (list_all (λ global. fits (map object_of os) global.1) gs) (list_all (all_in_object (fits (map object_of os))) (map object_of os)) machine.references

  module _ (start : MachineState) (first : start ≡ bare_state R (map object_of S)) where
    start_is : start ≡ bare_state ran (map object_of os)
    start_is = first ∙ (λ i. bare_state (sr i) (map object_of (so i)))

    pub built_bare : start.state.objects ≡ map bare (map object_of os)
    built_bare = ap (λ (m : MachineState). m.state.objects) start_is

    module _ (filled : MachineState) (second : filled ≡ with_objects start (map object_of os)) where
      filled_is : filled ≡ state_with ran [] (map object_of os)
      filled_is = second ∙ ap (λ (m : MachineState). with_objects m (map object_of os)) start_is

      pub built_none : filled.state.globals ≡ []
      built_none = ap (λ (m : MachineState). m.state.globals) filled_is

      pub built_globals : IsTrue (list_all (λ global. fits filled.state.objects global.1) gs)
      built_globals =
          subst (λ (m : MachineState). IsTrue (list_all (λ global. fits m.state.objects global.1) gs)) (sym filled_is)
          (and_left (list_all (λ global. fits (map object_of os) global.1) gs) (list_all (all_in_object (fits (map object_of os))) (map object_of os)) machine.references)

      pub built_is : (bound : MachineState) → bound ≡ with_globals filled gs → bound ≡ state_with ran gs (map object_of os)
      built_is bound third = third ∙ ap (λ (m : MachineState). with_globals m gs) filled_is
