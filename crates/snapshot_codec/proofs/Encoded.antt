-- The bytes of objects of each kind, of one part more, and of all parts.
use Rattle.std.proofs.Common.{◌≡◌, ◌<◌, ℕ, List, [], ◌∷◌, ◌++◌, length, get_or, IsTrue, refl, sym, ap, subst, ◌∙◌, append_assoc}
use Rattle.std.proofs.lemmas.Option.{slice_get-get_or}
use Rattle.std.specs.List.{flat_map}
use Rattle.std.specs.Prelude.{Option, Some, None, option_map, slice_get}
use Rattle.star_value.specs.declared.key.Key.{Key}
use Rattle.star_value.specs.declared.value.Value.{Value}
use Rattle.heap_store.specs.Objects.{kind_of}
use Rattle.heap_store.specs.declared.kind.Kind.TheVariants as kind
use Rattle.star_meaning.specs.State.{Object, AList, ADict, AFunction, dict, function, function_held, items_held, list, object, pairs_held}
use Rattle.star_meaning.specs.Snapshot.{counted, id_bytes}
use Rattle.star_meaning.specs.Validity.{IsMachine, MachineState}
use Rattle.star_meaning.specs.Values.{has}
use Rattle.snapshot_codec.specs.Meeting.{IsOrder}
use Rattle.snapshot_codec.specs.Writing.{bytes_in, found_bytes_by, global_bytes_by, number_in, object_bytes_by}
use Rattle.snapshot_codec.proofs.Canons.{order_held}
use Rattle.snapshot_codec.proofs.MeetingLaws.{has_at}

pub list_found : (to : ℕ → ℕ) (m : MachineState) (id : ℕ) (items : List Value) → option_map kind_of (slice_get m.state.objects id) ≡ Some kind.List → items ≡ list m.state id
    → object_bytes_by to (AList items) ≡ found_bytes_by to (slice_get m.state.objects id)
unfolding list object
list_found to m id items e is = ap (λ xs. object_bytes_by to (AList xs)) is ∙ by (slice_get m.state.objects id) e
  where
    by : (o : Option (Object ℕ)) → option_map kind_of o ≡ Some kind.List → object_bytes_by to (AList (items_held o)) ≡ found_bytes_by to o
    by None e = absurd (cc)
    by (Some (AList xs)) e = refl
    by (Some (ADict ps)) e = absurd (cc)
    by (Some (AFunction c n xs)) e = absurd (cc)

pub dict_found : (to : ℕ → ℕ) (m : MachineState) (id : ℕ) (pairs : List (Key × Value)) → option_map kind_of (slice_get m.state.objects id) ≡ Some kind.Dict → pairs ≡ dict m.state id
    → object_bytes_by to (ADict pairs) ≡ found_bytes_by to (slice_get m.state.objects id)
unfolding dict object
dict_found to m id pairs e is = ap (λ ps. object_bytes_by to (ADict ps)) is ∙ by (slice_get m.state.objects id) e
  where
    by : (o : Option (Object ℕ)) → option_map kind_of o ≡ Some kind.Dict → object_bytes_by to (ADict (pairs_held o)) ≡ found_bytes_by to o
    by None e = absurd (cc)
    by (Some (AList xs)) e = absurd (cc)
    by (Some (ADict ps)) e = refl
    by (Some (AFunction c n xs)) e = absurd (cc)

-- the bytes of a function of these parts
abbrev function_bytes : (ℕ → ℕ) → Option (ℕ × ℕ × List Value) → List ℕ
function_bytes to None = []
function_bytes to (Some parts) = object_bytes_by to (AFunction parts.0 parts.1 parts.2)

pub function_found : (to : ℕ → ℕ) (m : MachineState) (id cell number : ℕ) (defaults : List Value) → function m.state id ≡ Some (cell, number, defaults)
    → object_bytes_by to (AFunction cell number defaults) ≡ found_bytes_by to (slice_get m.state.objects id)
unfolding function object
function_found to m id cell number defaults e = by (slice_get m.state.objects id) e
  where
    by : (o : Option (Object ℕ)) → function_held o ≡ Some (cell, number, defaults) → object_bytes_by to (AFunction cell number defaults) ≡ found_bytes_by to o
    by None e = absurd (cc)
    by (Some (AList xs)) e = absurd (cc)
    by (Some (ADict ps)) e = absurd (cc)
    by (Some (AFunction c n xs)) e = ap (function_bytes to) (sym e)

-- what stands at a place of an order is an object
pub id_low : (m : MachineState) (h : IsMachine m) (order ids : List ℕ) (place : ℕ) → IsOrder m order → ids ≡ order → place < length ids → get_or ids place 0 < length m.state.objects
id_low m h order ids place is same l =
    order_held m h order is (get_or ids place 0) (subst (λ xs. IsTrue (has xs (get_or ids place 0))) same (has_at ids place (get_or ids place 0) (slice_get-get_or ids place 0 l)))

-- what is left of a list, behind what was written
pub left_more : {A : Type 0} (f : A → List ℕ) (out new all : List ℕ) (x : A) (here rest : List A) → here ≡ x ∷ rest → new ≡ out ++ f x → out ++ flat_map f here ≡ all → new ++ flat_map f rest ≡ all
left_more f out new all x here rest is more so_far =
    ap (λ (y : List ℕ). y ++ flat_map f rest) more ∙ append_assoc out (f x) (flat_map f rest) ∙ ap (λ xs. out ++ flat_map f xs) (sym is) ∙ so_far

pub whole_state : (m : MachineState) (order old one two three new : List ℕ) → one ≡ old ++ 67 ∷ 72 ∷ 88 ∷ 50 ∷ [] → two ≡ one ++ counted id_bytes m.ran
    → three ≡ two ++ counted (global_bytes_by (number_in order)) m.state.globals → new ≡ three ++ counted (λ id. found_bytes_by (number_in order) (slice_get m.state.objects id)) order → new ≡ old ++ bytes_in m order
unfolding bytes_in
whole_state m order old one two three new p q r s =
    let nodes = counted id_bytes m.ran in
    let globals = counted (global_bytes_by (number_in order)) m.state.globals in
    let objects = counted (λ id. found_bytes_by (number_in order) (slice_get m.state.objects id)) order in
    s ∙ ap (λ (x : List ℕ). x ++ objects) (r ∙ ap (λ (x : List ℕ). x ++ globals) (q ∙ ap (λ (x : List ℕ). x ++ nodes) p ∙ append_assoc old (67 ∷ 72 ∷ 88 ∷ 50 ∷ []) nodes) ∙ append_assoc old (67 ∷ 72 ∷ 88 ∷ 50 ∷ nodes) globals)
    ∙ append_assoc old (67 ∷ 72 ∷ 88 ∷ 50 ∷ nodes ++ globals) objects
