-- The bytes with places for numbers are those of the state whose objects are numbered so.
use Rattle.std.proofs.Common.{◌≡◌, ◌<◌, ◌+◌, ℕ, suc, Bool, true, false, cond, List, [], ◌∷◌, ◌++◌, map, length, IsTrue, refl, sym, ap, arith, subst, ◌∙◌}
use Rattle.std.proofs.lemmas.Option.{slice_get-get_or}
use Rattle.std.specs.List.{flat_map}
use Rattle.std.specs.Prelude.{◌==◌, ◌||◌, not, if◌then◌else◌, Option, Some, None, slice_get}
use Rattle.star_value.specs.declared.key.Key.{Key}
use Rattle.star_value.specs.declared.value.Value.{Value, ind-Value, map-Value, roll-Value}
use Rattle.star_value.specs.declared.value.Value.TheOpen.{Value-F}
use Rattle.star_value.specs.Keys as keys
use Rattle.star_meaning.specs.State.{Object, AList, ADict, AFunction}
use Rattle.star_meaning.specs.Values.{has}
use Rattle.star_meaning.specs.Snapshot.{IsBytesOf, count_bytes, counted, global_bytes, id_bytes, object_bytes, object_references, pair_bytes, references, state_bytes, text_bytes, value_bytes, value_step}
use Rattle.star_meaning.specs.Validity.{IsMachine, MachineState}
use Rattle.star_meaning.proofs.MovedValues.{entry_to, layer, moved, object_to, pair_to, rolled}
use Rattle.star_meaning.proofs.AlikeNumbers.{back, in_or_first, in_or_second, itself, not_true, place, test_same}
use Rattle.star_meaning.proofs.AlikeTurned.{machine_itself}
use Rattle.star_meaning.proofs.Canonical.{one_snapshot}
use Rattle.star_meaning.proofs.Walked.{layer_references, rolled_references}
use Rattle.star_meaning.proofs.WalkedNumbers.{has_end, has_front}
use Rattle.star_meaning.proofs.WalkedValues.{put, put_at}
use Rattle.snapshot_codec.specs.Meeting.{IsOrder, references_of}
use Rattle.snapshot_codec.specs.Writing.{bytes_in, found_bytes_by, global_bytes_by, number_in, object_bytes_by, pair_bytes_by, renumbered, value_bytes_by}
use Rattle.snapshot_codec.proofs.Forms.{length_of_map}
use Rattle.snapshot_codec.proofs.WritingForms.{by_rolled, bytes_rolled}
use Rattle.snapshot_codec.proofs.Canons.{canon, first_met, is_canon, order_held, order_met}

-- the number of what is met is its place
number_place : (order : List ℕ) (id : ℕ) → IsTrue (has order id) → number_in order id ≡ place order id
number_place [] id h = absurd (not_true h)
number_place (x ∷ xs) id h = ap (λ t. cond (not t) (1 + number_in xs id) 0) (test_same id x x id sym sym) ∙ by (x == id) (number_place xs id) h
  where
    by : (t : Bool) → (IsTrue (has xs id) → number_in xs id ≡ place xs id) → IsTrue (t || has xs id) → cond (not t) (1 + number_in xs id) 0 ≡ (if t then 0 else suc (place xs id))
    by true k g = refl
    by false k g = let same = k g in omega (arith, same)

module _ (order : List ℕ) where
  abbrev to : ℕ → ℕ
  to = number_in order

  -- all of these numbers are met
  abbrev AllIn : List ℕ → Type 0
  AllIn ids = (n : ℕ) → IsTrue (has ids n) → IsTrue (has order n)

  front_in : (xs ys : List ℕ) → AllIn (xs ++ ys) → AllIn xs
  front_in xs ys h n k = h n (has_front xs ys n k)

  end_in : (xs ys : List ℕ) → AllIn (xs ++ ys) → AllIn ys
  end_in xs ys h n k = h n (has_end xs ys n k)

  -- ---- values

  abbrev Agrees : Value → Type 0
  Agrees v = AllIn (references v) → value_bytes_by to v ≡ value_bytes (moved (back order) v)

  abbrev Known : Type 0
  Known = (v : Value) × Agrees v

  abbrev bare : Value-F Known → Value-F Value
  bare = map-Value Known Value (λ e. e.0)

  parts_agree : (every : List Known) → AllIn (flat_map (λ ids. ids) (map references (map (λ e. e.0) every)))
      → map (value_bytes_by to) (map (λ e. e.0) every) ≡ map value_bytes (map (moved (back order)) (map (λ e. e.0) every))
  parts_agree [] h = refl
  parts_agree (e ∷ every) h =
      let ids = flat_map (λ n. n) (map references (map (λ o. o.0) every)) in
      λ i. e.1 (front_in (references e.0) ids h) i ∷ parts_agree every (end_in (references e.0) ids h) i

  one_in : (id : ℕ) → AllIn (id ∷ []) → to id ≡ place order id
  one_in id h = number_place order id (h id (in_or_first (id == id) false (itself id)))

  layer_agrees : (y : Value-F Known) → AllIn (layer_references (bare y))
      → value_step (renumbered to (map-Value Value (List ℕ) (value_bytes_by to) (bare y))) ≡ value_step (map-Value Value (List ℕ) value_bytes (layer (back order) (bare y)))
  layer_agrees Value-F.None h = refl
  layer_agrees (Value-F.Bool b) h = refl
  layer_agrees (Value-F.Int z) h = refl
  layer_agrees (Value-F.Text t) h = refl
  layer_agrees (Value-F.Tuple every) h = ap (λ (parts : List (List ℕ)). value_step (Value-F.Tuple parts)) (parts_agree every h)
  layer_agrees (Value-F.Range r) h = refl
  layer_agrees (Value-F.List id) h = ap (λ (n : ℕ). 7 ∷ id_bytes n) (one_in id h)
  layer_agrees (Value-F.Dict id) h = ap (λ (n : ℕ). 8 ∷ id_bytes n) (one_in id h)
  layer_agrees (Value-F.Function id) h = ap (λ (n : ℕ). 9 ∷ id_bytes n) (one_in id h)
  layer_agrees (Value-F.Builtin which) h = refl

  rolled_agrees : (y : Value-F Known) → Agrees (roll-Value (bare y))
  rolled_agrees y h =
      by_rolled to (bare y) ∙ layer_agrees y (subst AllIn (rolled_references (bare y)) h) ∙ sym (bytes_rolled (layer (back order) (bare y))) ∙ ap value_bytes (sym (rolled (back order) (bare y)))

  value_agrees : (v : Value) → Agrees v
  value_agrees = ind-Value Agrees (λ x y is. subst (λ z. Agrees (roll-Value z)) is (rolled_agrees y))

  -- ---- what has values

  flat_agrees : {A : Type 0} (f g : A → List ℕ) (move : A → A) (refers : A → List ℕ) → ((a : A) → AllIn (refers a) → f a ≡ g (move a)) → (xs : List A) → AllIn (flat_map refers xs) → flat_map f xs ≡ flat_map g (map move xs)
  flat_agrees f g move refers one [] h = refl
  flat_agrees f g move refers one (x ∷ xs) h =
      λ i. one x (front_in (refers x) (flat_map refers xs) h) i ++ flat_agrees f g move refers one xs (end_in (refers x) (flat_map refers xs) h) i

  counted_agrees : {A : Type 0} (f g : A → List ℕ) (move : A → A) (refers : A → List ℕ) → ((a : A) → AllIn (refers a) → f a ≡ g (move a)) → (xs : List A) → AllIn (flat_map refers xs) → counted f xs ≡ counted g (map move xs)
  counted_agrees f g move refers one xs h = λ i. count_bytes (sym (length_of_map move xs) i) ++ flat_agrees f g move refers one xs h i

  values_agree : (xs : List Value) → AllIn (flat_map references xs) → counted (value_bytes_by to) xs ≡ counted value_bytes (map (moved (back order)) xs)
  values_agree = counted_agrees (value_bytes_by to) value_bytes (moved (back order)) references value_agrees

  pair_agrees : (pair : Key × Value) → AllIn (references pair.1) → pair_bytes_by to pair ≡ pair_bytes (pair_to (back order) pair)
  pair_agrees pair h = ap (λ (t : List ℕ). value_bytes (keys.value_of pair.0) ++ t) (value_agrees pair.1 h)

  object_agrees : (o : Object ℕ) → AllIn (object_references o) → object_bytes_by to o ≡ object_bytes (object_to (back order) o)
  object_agrees (AList xs) h = ap (λ (t : List ℕ). 0 ∷ t) (values_agree xs h)
  object_agrees (ADict ps) h = ap (λ (t : List ℕ). 1 ∷ t) (counted_agrees (pair_bytes_by to) pair_bytes (pair_to (back order)) (λ pair. references pair.1) pair_agrees ps h)
  object_agrees (AFunction cell number xs) h = ap (λ (t : List ℕ). 2 ∷ id_bytes cell ++ id_bytes number ++ t) (values_agree xs h)

  global_agrees : (entry : List ℕ × Value) → AllIn (references entry.1) → global_bytes_by to entry ≡ global_bytes (entry_to (back order) entry)
  global_agrees entry h = ap (λ (t : List ℕ). text_bytes entry.0 ++ t) (value_agrees entry.1 h)

  -- ---- the state

  module _ (os : List (Object ℕ)) where
    found_agrees : (id : ℕ) → id < length os → AllIn (references_of (slice_get os id)) → found_bytes_by to (slice_get os id) ≡ object_bytes (put_at os order id)
    found_agrees id l h = by (slice_get os id) refl h
      where
        by : (o : Option (Object ℕ)) → slice_get os id ≡ o → AllIn (references_of o) → found_bytes_by to (slice_get os id) ≡ object_bytes (put_at os order id)
        by None e k = absurd (let there = slice_get-get_or os id (AList []) l in cc)
        by (Some o) e k = ap (found_bytes_by to) e ∙ object_agrees o k ∙ ap (λ (found : Option (Object ℕ)). object_bytes (put os order found)) (sym e)

    objects_agree : (ids : List ℕ) → ((id : ℕ) → IsTrue (has ids id) → (id < length os) × AllIn (references_of (slice_get os id)))
        → flat_map (λ id. found_bytes_by to (slice_get os id)) ids ≡ flat_map object_bytes (map (put_at os order) ids)
    objects_agree [] h = refl
    objects_agree (id ∷ ids) h =
        let here = h id (in_or_first (id == id) (has ids id) (itself id)) in
        λ i. found_agrees id here.0 here.1 i ++ objects_agree ids (λ n k. h n (in_or_second (id == n) (has ids n) k)) i

module _ (m : MachineState) (h : IsMachine m) (order : List ℕ) (is : IsOrder m order) where
  state_agrees : bytes_in m order ≡ state_bytes (canon m h order is)
  unfolding bytes_in state_bytes
  state_agrees =
      let globals = counted_agrees order (global_bytes_by (number_in order)) global_bytes (entry_to (back order)) (λ entry. references entry.1) (global_agrees order) m.state.globals (first_met m h order is) in
      let objects = objects_agree order m.state.objects order (λ id k. (order_held m h order is id k, order_met m h order is id k)) in
      λ i. 67 ∷ 72 ∷ 88 ∷ 50 ∷ counted id_bytes m.ran ++ globals i ++ (count_bytes (sym (length_of_map (put_at m.state.objects order) order) i) ++ objects i)

  -- what is written by an order are the bytes of the state
  pub written : (bytes : List ℕ) → bytes ≡ bytes_in m order → IsBytesOf m bytes
  written bytes e = (canon m h order is, is_canon m h order is, e ∙ state_agrees)

  -- and there are no others
  pub only_written : (bytes : List ℕ) → IsBytesOf m bytes → bytes ≡ bytes_in m order
  only_written bytes b = one_snapshot m m bytes (bytes_in m order) (machine_itself m h) b (written (bytes_in m order) refl)
