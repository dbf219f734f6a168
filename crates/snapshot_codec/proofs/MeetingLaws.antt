-- Meeting one list of numbers after another, and what holds of all that are met.
use Rattle.std.proofs.Common.{◌≡◌, ◌≤◌, ◌<◌, ◌+◌, ℕ, zero, suc, Bool, true, false, List, [], ◌∷◌, ◌++◌, map, length, take, IsTrue, refl, sym, ap, arith, subst, ◌∙◌, append_assoc, append-nil}
use Rattle.std.proofs.lemmas.Bool.Decides.{nat_tests}
use Rattle.std.proofs.lemmas.List.{take_all, take_more, take-append-le}
use Rattle.std.proofs.lemmas.Grind.{flat_map-append}
use Rattle.std.proofs.lemmas.Option.{get_or_from_slice_get, slice_get_within}
use Rattle.std.specs.List.{flat_map, list_any}
use Rattle.std.specs.Prelude.{◌==◌, ◌||◌, nat_eq, nat_lt, if◌then◌else◌, Option, Some, None, option_map, slice_get}
use Rattle.heap_store.specs.Objects.{defaults_in, kind_of}
use Rattle.heap_store.specs.declared.kind.Kind.TheVariants as kind
use Rattle.star_value.specs.declared.key.Key.{Key}
use Rattle.star_value.specs.declared.value.Value.{Value}
use Rattle.star_meaning.specs.State.{Object, AList, ADict, AFunction, dict, function, function_held, items_held, list, object, pairs_held}
use Rattle.star_meaning.specs.Values.{has}
use Rattle.star_meaning.specs.Alike.{IsAlike, LikeFound, is_pair}
use Rattle.star_meaning.specs.Snapshot.{object_references, references}
use Rattle.star_meaning.specs.Validity.{IsMachine, MachineState}
use Rattle.star_value.specs.KeyOrder.{all_hold}
use Rattle.star_meaning.proofs.AlikeNumbers.{Side, and_both, below_is, in_or_first, in_or_second, is_below, itself, not_true, or_either, pairs_below, same_number, test_same}
use Rattle.star_meaning.proofs.AlikeTurned.{alike_itself}
use Rattle.star_meaning.proofs.Canonical.{globals_refer, object_refers}
use Rattle.star_meaning.proofs.Walked.{met_after, met_grows}
use Rattle.star_meaning.proofs.WalkedNumbers.{side_after, side_short}
use Rattle.snapshot_codec.specs.Meeting.{IsOrder, first_references, leads, met_by, met_with, references_of}

-- ---- one list after another

pub met_is : (met ids : List ℕ) → met_with met ids ≡ met_after met ids
met_is met [] = refl
met_is met (id ∷ ids) = met_is (if has met id then met else met ++ id ∷ []) ids

pub met_append : (met xs ys : List ℕ) → met_with met (xs ++ ys) ≡ met_with (met_with met xs) ys
met_append met [] ys = refl
met_append met (x ∷ xs) ys = met_append (if has met x then met else met ++ x ∷ []) xs ys

-- a number is tested from either side
pub has_either_way : (id : ℕ) (xs : List ℕ) → list_any (nat_eq id) xs ≡ has xs id
has_either_way id [] = refl
has_either_way id (x ∷ xs) = λ i. test_same id x x id sym sym i || has_either_way id xs i

pub met_one : (met : List ℕ) (id : ℕ) → (if list_any (nat_eq id) met then met else met ++ id ∷ []) ≡ met_with met (id ∷ [])
met_one met id = ap (λ t. if t then met else met ++ id ∷ []) (has_either_way id met)

-- what one part more refers to
pub flat_more : {A : Type 0} (f : A → List ℕ) (xs : List A) (i : ℕ) (x : A) → slice_get xs i ≡ Some x → flat_map f (take (i + 1) xs) ≡ flat_map f (take i xs) ++ f x
flat_more f xs i x is =
    let longer : take (i + 1) xs ≡ take i xs ++ x ∷ [] = take_more xs i x (slice_get_within xs i x is) ∙ ap (λ y. take i xs ++ y ∷ []) (get_or_from_slice_get xs i x x is) in
    ap (flat_map f) longer ∙ flat_map-append f (take i xs) (x ∷ []) ∙ ap (λ ys. flat_map f (take i xs) ++ ys) (append-nil (f x))

pub met_more : {A : Type 0} (f : A → List ℕ) (xs : List A) (i : ℕ) (x : A) (start before after : List ℕ) → slice_get xs i ≡ Some x → before ≡ met_with start (flat_map f (take i xs)) → after ≡ met_with before (f x)
    → after ≡ met_with start (flat_map f (take (i + 1) xs))
met_more f xs i x start before after is so_far more =
    more ∙ ap (λ met. met_with met (f x)) so_far ∙ sym (met_append start (flat_map f (take i xs)) (f x)) ∙ ap (met_with start) (sym (flat_more f xs i x is))

-- ---- what is referred to is there

paired_low : (count : ℕ) (xs : List ℕ) → IsTrue (all_hold (map (is_pair (pairs_below (λ n. n) (λ n. n) count)) xs) xs) → (n : ℕ) → IsTrue (has xs n) → n < count
paired_low count [] h n k = absurd (not_true k)
paired_low count (x ∷ xs) h n k =
    let own = pairs_below (λ n. n) (λ n. n) count in
    let both = and_both (is_pair own x x) (all_hold (map (is_pair own) xs) xs) h in
    or_either (x == n) (has xs n) (n < count)
    (λ e. let found = below_is (λ i. i) (λ i. i) count x x both.0 in subst (λ i. i < count) (found.2 ∙ same_number x n e) found.1) (λ e. paired_low count xs both.1 n e) k

has_part : (xs ys : List ℕ) (n : ℕ) (P : Type 0) → (IsTrue (has xs n) → P) → (IsTrue (has ys n) → P) → IsTrue (has (xs ++ ys) n) → P
has_part [] ys n P f g h = g h
has_part (x ∷ xs) ys n P f g h =
    or_either (x == n) (has (xs ++ ys) n) P (λ k. f (in_or_first (x == n) (has xs n) k)) (λ k. has_part xs ys n P (λ l. f (in_or_second (x == n) (has xs n) l)) g k) h

module _ (m : MachineState) (h : IsMachine m) where
  abbrev os : List (Object ℕ)
  os = m.state.objects

  own_alike : IsAlike (pairs_below (λ n. n) (λ n. n) (length os)) m.state m.state
  own_alike = alike_itself m.state h.references

  first_low : (n : ℕ) → IsTrue (has (first_references m) n) → n < length os
  first_low = paired_low (length os) (first_references m) (globals_refer (pairs_below (λ n. n) (λ n. n) (length os)) m.state.globals m.state.globals own_alike.globals)

  found_low : (o : Option (Object ℕ)) → LikeFound (pairs_below (λ n. n) (λ n. n) (length os)) o o → (n : ℕ) → IsTrue (has (references_of o) n) → n < length os
  found_low (Some o) l = paired_low (length os) (object_references o) (object_refers (pairs_below (λ n. n) (λ n. n) (length os)) o o l)
  found_low None l = absurd l

  -- an object that is not there refers to none
  leads_low : (id n : ℕ) → IsTrue (has (leads m id) n) → n < length os
  unfolding object
  leads_low id n k = by (slice_get os id) refl
    where
      by : (o : Option (Object ℕ)) → slice_get os id ≡ o → n < length os
      by None e = absurd (not_true (subst (λ o. IsTrue (has (references_of o) n)) e k))
      by (Some o) e = found_low (slice_get os id) (own_alike.objects id id (is_below (λ i. i) (λ i. i) (length os) id (slice_get_within os id o e))) n k

  all_low : (ids : List ℕ) (n : ℕ) → IsTrue (has (flat_map (leads m) ids) n) → n < length os
  all_low [] n k = absurd (not_true k)
  all_low (id ∷ ids) n k = has_part (leads m id) (flat_map (leads m) ids) n (n < length os) (leads_low id n) (all_low ids n) k

  -- what is met are objects, each once
  pub met_side : (ids : List ℕ) → Side (met_by m ids) (length os)
  met_side ids =
      let read = first_references m ++ flat_map (leads m) ids in
      subst (λ xs. Side xs (length os)) (sym (met_is [] read))
      (side_after (length os) [] read (record { once = refl; below = λ n k. absurd (not_true k) }) (λ n k. has_part (first_references m) (flat_map (leads m) ids) n (n < length os) (first_low n) (all_low ids n) k))

-- ---- the walk

-- these are met by the globals and by the objects before a place, each of which was met before it
pub record Walked (m : MachineState) (met : List ℕ) (place : ℕ) : Type 0 where
  pub whole : met ≡ met_by m (take place met)
  pub early : (k : ℕ) → k < place → k < length (met_by m (take k met))

pub has_at : (xs : List ℕ) (i x : ℕ) → slice_get xs i ≡ Some x → IsTrue (has xs x)
has_at [] i x e = absurd (cc)
has_at (y ∷ ys) zero x e = let same : y ≡ x = cc in in_or_first (y == x) (has ys x) (subst (λ n. IsTrue (y == n)) same (itself y))
has_at (y ∷ ys) (suc i) x e = in_or_second (y == x) (has ys x) (has_at ys i x e)

module _ (m : MachineState) (met : List ℕ) (place : ℕ) (w : Walked m met place) where
  side_here : IsMachine m → Side met (length m.state.objects)
  side_here h = subst (λ xs. Side xs (length m.state.objects)) (sym w.whole) (met_side m h (take place met))

  -- what stands at a place is an object
  pub walked_low : (id : ℕ) → IsMachine m → slice_get met place ≡ Some id → id < length m.state.objects
  walked_low id h is = (side_here h).below id (has_at met place id is)

  pub walked_short : IsMachine m → length met ≤ length m.state.objects
  walked_short h = side_short (length m.state.objects) met (side_here h)

  -- where all are walked over, they are all
  pub walked_all : length met ≤ place → IsOrder m met
  walked_all l = record {
    whole = ap (met_by m) (sym (take_all place met l)) ∙ sym w.whole;
    early = λ k below. w.early k (omega arith);
  }

  module _ (id : ℕ) (after : List ℕ) (is : slice_get met place ≡ Some id) (more : after ≡ met_with met (leads m id)) where
    grown : (rest : List ℕ) × (after ≡ met ++ rest)
    grown = let g = met_grows met (leads m id) in (g.0, more ∙ met_is met (leads m id) ∙ g.1)

    here : place < length met
    here = slice_get_within met place id is

    front : (k : ℕ) → k ≤ length met → take k after ≡ take k met
    front k l = ap (take k) grown.1 ∙ take-append-le k met grown.0 l

    read : met_by m (take (place + 1) met) ≡ after
    read =
        ap (λ ids. met_with [] (first_references m ++ ids)) (flat_more (leads m) met place id is)
        ∙ ap (met_with []) (sym (append_assoc (first_references m) (flat_map (leads m) (take place met)) (leads m id)))
        ∙ met_append [] (first_references m ++ flat_map (leads m) (take place met)) (leads m id)
        ∙ ap (λ before. met_with before (leads m id)) (sym w.whole) ∙ sym more

    pub walked_more : Walked m after (place + 1)
    walked_more = record {
      whole = sym read ∙ ap (met_by m) (sym (front (place + 1) (let l = here in omega (arith, l))));
      early = λ k l. by k l (nat_lt k place) refl;
    }
      where
        by : (k : ℕ) → k < place + 1 → (t : Bool) → nat_lt k place ≡ t → k < length (met_by m (take k after))
        by k l true e =
            let low : k < place = grind (arith, nat_tests, e) in
            subst (λ ids. k < length (met_by m ids)) (sym (front k (let b = here in omega (arith, b, low)))) (w.early k low)
        by k l false e =
            let same : place ≡ k = grind (arith, nat_tests, e, l) in
            subst (λ n. n < length (met_by m (take n after))) same
            (subst (λ ids. place < length (met_by m ids)) (sym (front place (let b = here in omega (arith, b)))) (subst (λ xs. place < length xs) w.whole here))

-- before any object is walked over
pub walked_none : (m : MachineState) (met : List ℕ) → met ≡ met_with [] (first_references m) → Walked m met 0
walked_none m met e = record { whole = e ∙ ap (met_with []) (sym (append-nil (first_references m))); early = λ k l. absurd (omega (arith, l)) }

-- ---- what is left of a list

pub met_rest : {A : Type 0} (f : A → List ℕ) (before after all : List ℕ) (x : A) (left rest : List A) → left ≡ x ∷ rest → after ≡ met_with before (f x) → met_with before (flat_map f left) ≡ all → met_with after (flat_map f rest) ≡ all
met_rest f before after all x left rest is more so_far =
    ap (λ met. met_with met (flat_map f rest)) more ∙ sym (met_append before (f x) (flat_map f rest)) ∙ ap (λ xs. met_with before (flat_map f xs)) (sym is) ∙ so_far

-- ---- what the objects of each kind refer to

pub list_leads : (m : MachineState) (id : ℕ) (items : List Value) → option_map kind_of (slice_get m.state.objects id) ≡ Some kind.List → items ≡ list m.state id → flat_map references items ≡ leads m id
unfolding list object
list_leads m id items e is = ap (flat_map references) is ∙ by (slice_get m.state.objects id) e
  where
    by : (o : Option (Object ℕ)) → option_map kind_of o ≡ Some kind.List → flat_map references (items_held o) ≡ references_of o
    by None e = absurd (cc)
    by (Some (AList xs)) e = refl
    by (Some (ADict ps)) e = absurd (cc)
    by (Some (AFunction c n xs)) e = absurd (cc)

pub dict_leads : (m : MachineState) (id : ℕ) (pairs : List (Key × Value)) → option_map kind_of (slice_get m.state.objects id) ≡ Some kind.Dict → pairs ≡ dict m.state id → flat_map (λ pair. references pair.1) pairs ≡ leads m id
unfolding dict object
dict_leads m id pairs e is = ap (flat_map (λ (pair : Key × Value). references pair.1)) is ∙ by (slice_get m.state.objects id) e
  where
    by : (o : Option (Object ℕ)) → option_map kind_of o ≡ Some kind.Dict → flat_map (λ pair. references pair.1) (pairs_held o) ≡ references_of o
    by None e = absurd (cc)
    by (Some (AList xs)) e = absurd (cc)
    by (Some (ADict ps)) e = refl
    by (Some (AFunction c n xs)) e = absurd (cc)

pub function_leads : (m : MachineState) (id cell number : ℕ) (defaults : List Value) → function m.state id ≡ Some (cell, number, defaults) → flat_map references defaults ≡ leads m id
unfolding function object
function_leads m id cell number defaults e = by (slice_get m.state.objects id) e
  where
    by : (o : Option (Object ℕ)) → function_held o ≡ Some (cell, number, defaults) → flat_map references defaults ≡ references_of o
    by None e = absurd (cc)
    by (Some (AList xs)) e = absurd (cc)
    by (Some (ADict ps)) e = absurd (cc)
    by (Some (AFunction c n xs)) e = ap (λ found. flat_map references (defaults_in found)) (sym e)
