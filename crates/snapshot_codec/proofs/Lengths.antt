-- How many bytes objects and states take, whatever numbers objects have.
use Rattle.std.proofs.Common.{◌≡◌, ◌≤◌, ◌+◌, ◌*◌, ℕ, suc, List, [], ◌∷◌, ◌++◌, map, length, min, refl, sym, ap, subst, ◌∙◌, arith, length-append}
use Rattle.std.specs.List.{flat_map}
use Rattle.std.specs.Prelude.{Option, Some, None, option_map, slice_get}
use Rattle.heap_store.specs.Objects.{kind_of}
use Rattle.heap_store.specs.declared.kind.Kind.TheVariants as kind
use Rattle.star_value.specs.declared.key.Key.{Key}
use Rattle.star_value.specs.declared.value.Value.{Value, ind-Value, map-Value, roll-Value}
use Rattle.star_value.specs.declared.value.Value.TheOpen.{Value-F}
use Rattle.star_value.specs.Keys as keys
use Rattle.star_meaning.specs.State.{Object, AList, ADict, AFunction, dict, function, function_held, items_held, list, object, pairs_held}
use Rattle.star_meaning.specs.Snapshot.{IsBytesOf, counted, global_bytes, id_bytes, object_bytes, pair_bytes, text_bytes, value_bytes, value_step}
use Rattle.star_meaning.specs.Validity.{IsMachine, MachineState}
use Rattle.snapshot_codec.specs.Meeting.{IsOrder}
use Rattle.snapshot_codec.specs.Writing.{bytes_in, found_bytes, found_bytes_by, global_bytes_by, number_in, object_bytes_by, pair_bytes_by, renumbered, value_bytes_by}
use Rattle.snapshot_codec.proofs.Agreeing.{only_written}
use Rattle.snapshot_codec.proofs.WritingForms.{by_rolled, bytes_rolled}
use Rattle.snapshot_codec.proofs.Sizes.{size_all}

-- parts that are equally long, whole
flat_long : {A : Type 0} (f g : A → List ℕ) → ((a : A) → length (f a) ≡ length (g a)) → (xs : List A) → length (flat_map f xs) ≡ length (flat_map g xs)
flat_long f g one [] = refl
flat_long f g one (x ∷ xs) =
    length-append (f x) (flat_map f xs) ∙ (λ i. one x i + flat_long f g one xs i) ∙ sym (length-append (g x) (flat_map g xs))

counted_long : {A : Type 0} (f g : A → List ℕ) → ((a : A) → length (f a) ≡ length (g a)) → (xs : List A) → length (counted f xs) ≡ length (counted g xs)
counted_long f g one xs = size_all f xs ∙ ap (λ n. 8 + n) (flat_long f g one xs) ∙ sym (size_all g xs)

module _ (to : ℕ → ℕ) where
  abbrev Long : Value → Type 0
  Long v = length (value_bytes_by to v) ≡ length (value_bytes v)

  abbrev Known : Type 0
  Known = (v : Value) × Long v

  abbrev bare : Value-F Known → Value-F Value
  bare = map-Value Known Value (λ e. e.0)

  parts_long : (every : List Known) → length (flat_map (λ bytes. bytes) (map (value_bytes_by to) (map (λ e. e.0) every))) ≡ length (flat_map (λ bytes. bytes) (map value_bytes (map (λ e. e.0) every)))
  parts_long [] = refl
  parts_long (e ∷ every) =
      let some = flat_map (λ (bytes : List ℕ). bytes) (map (value_bytes_by to) (map (λ (o : Known). o.0) every)) in
      let others = flat_map (λ (bytes : List ℕ). bytes) (map value_bytes (map (λ (o : Known). o.0) every)) in
      length-append (value_bytes_by to e.0) some ∙ (λ i. e.1 i + parts_long every i) ∙ sym (length-append (value_bytes e.0) others)

  layer_long : (y : Value-F Known) → length (value_step (renumbered to (map-Value Value (List ℕ) (value_bytes_by to) (bare y)))) ≡ length (value_step (map-Value Value (List ℕ) value_bytes (bare y)))
  layer_long (Value-F.Tuple every) =
      let some = map (value_bytes_by to) (map (λ (o : Known). o.0) every) in
      let others = map value_bytes (map (λ (o : Known). o.0) every) in
      ap suc (size_all (λ (bytes : List ℕ). bytes) some ∙ ap (λ n. 8 + n) (parts_long every) ∙ sym (size_all (λ (bytes : List ℕ). bytes) others))
  layer_long Value-F.None = refl
  layer_long (Value-F.Bool b) = refl
  layer_long (Value-F.Int z) = refl
  layer_long (Value-F.Text t) = refl
  layer_long (Value-F.Range r) = refl
  layer_long (Value-F.List id) = refl
  layer_long (Value-F.Dict id) = refl
  layer_long (Value-F.Function id) = refl
  layer_long (Value-F.Builtin which) = refl

  value_long : (v : Value) → Long v
  value_long = ind-Value Long (λ x y is. subst (λ z. Long (roll-Value z)) is (ap length (by_rolled to (bare y)) ∙ layer_long y ∙ sym (ap length (bytes_rolled (bare y)))))

  behind : (front : List ℕ) (v : Value) → length (front ++ value_bytes_by to v) ≡ length (front ++ value_bytes v)
  behind front v = length-append front (value_bytes_by to v) ∙ ap (λ n. length front + n) (value_long v) ∙ sym (length-append front (value_bytes v))

  object_long : (o : Object ℕ) → length (object_bytes_by to o) ≡ length (object_bytes o)
  object_long (AList xs) = ap suc (counted_long (value_bytes_by to) value_bytes value_long xs)
  object_long (ADict ps) = ap suc (counted_long (pair_bytes_by to) pair_bytes (λ pair. behind (value_bytes (keys.value_of pair.0)) pair.1) ps)
  object_long (AFunction cell number xs) =
      let front = id_bytes cell ++ id_bytes number in
      ap suc (length-append front (counted (value_bytes_by to) xs) ∙ ap (λ n. length front + n) (counted_long (value_bytes_by to) value_bytes value_long xs) ∙ sym (length-append front (counted value_bytes xs)))

  found_long : (o : Option (Object ℕ)) → length (found_bytes_by to o) ≡ length (found_bytes o)
  found_long None = refl
  found_long (Some o) = object_long o

-- ---- sums up to the greatest number

pub two_parts : (a b : List ℕ) (x y sum cap : ℕ) → x ≡ min (length a) cap → y ≡ min (length b) cap → sum ≡ min (x + y) cap → sum ≡ min (length (a ++ b)) cap
two_parts a b x y sum cap p q r = let both = length-append a b in omega (arith, both, p, q, r)

pub behind_front : (front part : List ℕ) (x sum cap : ℕ) → x ≡ min (length part) cap → sum ≡ min (x + length front) cap → sum ≡ min (length (front ++ part)) cap
behind_front front part x sum cap p q = let both = length-append front part in omega (arith, both, p, q)

pub size_rest : {A : Type 0} (f : A → List ℕ) (before part after all cap : ℕ) (x : A) (left rest : List A) → left ≡ x ∷ rest → part ≡ min (length (f x)) cap → after ≡ min (before + part) cap
    → min (before + length (flat_map f left)) cap ≡ min all cap → min (after + length (flat_map f rest)) cap ≡ min all cap
size_rest f before part after all cap x left rest is one more so_far =
    let long : length (flat_map f left) ≡ length (f x) + length (flat_map f rest) = ap (λ xs. length (flat_map f xs)) is ∙ length-append (f x) (flat_map f rest) in omega (arith, long, one, more, so_far)

pub size_end : {A : Type 0} (f : A → List ℕ) (size cap : ℕ) (left xs : List A) → left ≡ [] → size ≤ cap → min (size + length (flat_map f left)) cap ≡ min (8 + length (flat_map f xs)) cap → size ≡ min (length (counted f xs)) cap
size_end f size cap left xs is low so_far =
    let none : length (flat_map f left) ≡ 0 = ap (λ ys. length (flat_map f ys)) is in let all = size_all f xs in omega (arith, none, all, low, so_far)

flat_ids : (xs : List ℕ) → length (flat_map id_bytes xs) ≡ 4 * length xs
flat_ids [] = refl
flat_ids (x ∷ xs) = let rest = flat_ids xs in length-append (id_bytes x) (flat_map id_bytes xs) ∙ (let four : length (id_bytes x) ≡ 4 = refl in omega (arith, rest, four))

pub nodes_long : (xs : List ℕ) → length (counted id_bytes xs) ≡ 8 + 4 * length xs
nodes_long xs = size_all id_bytes xs ∙ ap (λ n. 8 + n) (flat_ids xs)

pub list_long : (m : MachineState) (id size cap : ℕ) (items : List Value) → option_map kind_of (slice_get m.state.objects id) ≡ Some kind.List → items ≡ list m.state id → size ≡ min (length (object_bytes (AList items))) cap
    → size ≡ min (length (found_bytes (slice_get m.state.objects id))) cap
unfolding list object
list_long m id size cap items e is long = long ∙ ap (λ xs. min (length (object_bytes (AList xs))) cap) is ∙ by (slice_get m.state.objects id) e
  where
    by : (o : Option (Object ℕ)) → option_map kind_of o ≡ Some kind.List → min (length (object_bytes (AList (items_held o)))) cap ≡ min (length (found_bytes o)) cap
    by None e = absurd (cc)
    by (Some (AList xs)) e = refl
    by (Some (ADict ps)) e = absurd (cc)
    by (Some (AFunction c n xs)) e = absurd (cc)

pub dict_long : (m : MachineState) (id size cap : ℕ) (pairs : List (Key × Value)) → option_map kind_of (slice_get m.state.objects id) ≡ Some kind.Dict → pairs ≡ dict m.state id → size ≡ min (length (object_bytes (ADict pairs))) cap
    → size ≡ min (length (found_bytes (slice_get m.state.objects id))) cap
unfolding dict object
dict_long m id size cap pairs e is long = long ∙ ap (λ ps. min (length (object_bytes (ADict ps))) cap) is ∙ by (slice_get m.state.objects id) e
  where
    by : (o : Option (Object ℕ)) → option_map kind_of o ≡ Some kind.Dict → min (length (object_bytes (ADict (pairs_held o)))) cap ≡ min (length (found_bytes o)) cap
    by None e = absurd (cc)
    by (Some (AList xs)) e = absurd (cc)
    by (Some (ADict ps)) e = refl
    by (Some (AFunction c n xs)) e = absurd (cc)

-- the bytes of a function of these parts
abbrev function_bytes : Option (ℕ × ℕ × List Value) → List ℕ
function_bytes None = []
function_bytes (Some parts) = object_bytes (AFunction parts.0 parts.1 parts.2)

pub function_long : (m : MachineState) (id size cap cell number : ℕ) (defaults : List Value) → function m.state id ≡ Some (cell, number, defaults) → size ≡ min (length (object_bytes (AFunction cell number defaults))) cap
    → size ≡ min (length (found_bytes (slice_get m.state.objects id))) cap
unfolding function object
function_long m id size cap cell number defaults e long = long ∙ by (slice_get m.state.objects id) e
  where
    by : (o : Option (Object ℕ)) → function_held o ≡ Some (cell, number, defaults) → min (length (object_bytes (AFunction cell number defaults))) cap ≡ min (length (found_bytes o)) cap
    by None e = absurd (cc)
    by (Some (AList xs)) e = absurd (cc)
    by (Some (ADict ps)) e = absurd (cc)
    by (Some (AFunction c n xs)) e = ap (λ found. min (length (function_bytes found)) cap) (sym e)

pub state_long : (m : MachineState) (order : List ℕ) (nodes front globals more objects size cap : ℕ) → nodes ≡ length (counted id_bytes m.ran) → front ≡ min (nodes + 4) cap → globals ≡ min (length (counted global_bytes m.state.globals)) cap
    → more ≡ min (front + globals) cap → objects ≡ min (length (counted (λ id. found_bytes (slice_get m.state.objects id)) order)) cap → size ≡ min (more + objects) cap → size ≡ min (length (bytes_in m order)) cap
unfolding bytes_in
state_long m order nodes front globals more objects size cap p q r s t u =
    let head = counted id_bytes m.ran in
    let some = counted (global_bytes_by (number_in order)) m.state.globals in
    let others = counted (λ id. found_bytes_by (number_in order) (slice_get m.state.objects id)) order in
    let one : length some ≡ length (counted global_bytes m.state.globals) = counted_long (global_bytes_by (number_in order)) global_bytes (λ entry. behind (number_in order) (text_bytes entry.0) entry.1) m.state.globals in
    let two : length others ≡ length (counted (λ id. found_bytes (slice_get m.state.objects id)) order) =
    counted_long (λ id. found_bytes_by (number_in order) (slice_get m.state.objects id)) (λ id. found_bytes (slice_get m.state.objects id)) (λ id. found_long (number_in order) (slice_get m.state.objects id)) order in
    let three : length (67 ∷ 72 ∷ 88 ∷ 50 ∷ head ++ some ++ others) ≡ 4 + length head + length some + length others =
    length-append (67 ∷ 72 ∷ 88 ∷ 50 ∷ head ++ some) others ∙ ap (λ n. n + length others) (length-append (67 ∷ 72 ∷ 88 ∷ 50 ∷ head) some) ∙ (omega arith) in
    omega (arith, one, two, three, p, q, r, s, t, u)

pub only_size : (m : MachineState) (h : IsMachine m) (order : List ℕ) (is : IsOrder m order) (bytes : List ℕ) (size cap : ℕ) → IsBytesOf m bytes → size ≡ min (length (bytes_in m order)) cap → size ≡ min (length bytes) cap
only_size m h order is bytes size cap b long = long ∙ ap (λ xs. min (length xs) cap) (sym (only_written m h order is bytes b))
