-- The state whose objects are numbered in the order in which they are met.
use Rattle.std.proofs.Common.{◌≡◌, ◌≤◌, ◌<◌, ◌+◌, ◌^◌, ℕ, true, List, [], ◌∷◌, ◌++◌, map, length, take, IsTrue, refl, sym, ap, arith, subst, ◌∙◌, append_assoc, append-nil, length-append}
use Rattle.std.proofs.lemmas.Bool.Decides.{Decides-eqb, nat_tests}
use Rattle.std.proofs.lemmas.Grind.{flat_map-append}
use Rattle.std.proofs.lemmas.List.{take-append-le, take_all}
use Rattle.std.specs.List.{flat_map, list_all}
use Rattle.std.specs.Prelude.{◌==◌, nat_lt, Option, Some, None, slice_get}
use Rattle.star_value.specs.declared.value.Value.{Value}
use Rattle.star_meaning.specs.State.{Object, object}
use Rattle.star_meaning.specs.Values.{has}
use Rattle.star_meaning.specs.Alike.{IsAlike, LikeFound}
use Rattle.star_meaning.specs.Snapshot.{IsCanon, are_met, is_canonical, met_from, object_references, references}
use Rattle.star_meaning.specs.Validity.{IsMachine, MachineState, all_in_object, fits}
use Rattle.star_meaning.proofs.MovedValues.{entry_to}
use Rattle.star_meaning.proofs.AlikeNumbers.{Side, and_both, apart, at_or, back, below_is, both_and, firsts_apart, or_either, place, same_number, seconds_apart}
use Rattle.star_meaning.proofs.Walked.{globals_renumbered, met_after, met_grows, met_in_order, object_renumbered}
use Rattle.star_meaning.proofs.WalkedNumbers.{Follows, after_has, has_end, has_front, side_short}
use Rattle.star_meaning.proofs.WalkedValues.{AllMet, at_has, far, found_lands, globals_land, held, met_pairs, put, put_all, put_at, refers_to, slice_at}
use Rattle.snapshot_codec.specs.Meeting.{IsOrder, first_references, leads, met_by, met_with, references_of}
use Rattle.snapshot_codec.proofs.MeetingLaws.{met_append, met_is, met_side}

refers : (o : Option (Object ℕ)) → references_of o ≡ refers_to o
refers None = refl
refers (Some o) = refl

has_flat : (f : ℕ → List ℕ) (xs : List ℕ) (id n : ℕ) → IsTrue (has xs id) → IsTrue (has (f id) n) → IsTrue (has (flat_map f xs) n)
has_flat f [] id n h k = h
has_flat f (x ∷ xs) id n h k =
    or_either (x == id) (has xs id) (IsTrue (has (f x ++ flat_map f xs) n)) (λ e. has_front (f x) (flat_map f xs) n (subst (λ a. IsTrue (has (f a) n)) (sym (same_number x id e)) k))
    (λ g. has_end (f x) (flat_map f xs) n (has_flat f xs id n g k)) h

module _ (m : MachineState) (h : IsMachine m) (order : List ℕ) (is : IsOrder m order) where
  abbrev os : List (Object ℕ)
  os = m.state.objects

  abbrev gs : List (List ℕ × Value)
  gs = m.state.globals

  side : Side order (length os)
  side = subst (λ xs. Side xs (length os)) is.whole (met_side m h order)

  -- ---- the walk from its end

  -- what is met after some of the objects
  abbrev so_far : List ℕ → List ℕ
  so_far seen = met_by m seen

  one_more : (seen : List ℕ) (id : ℕ) → so_far (seen ++ id ∷ []) ≡ met_after (so_far seen) (leads m id)
  one_more seen id =
      ap (λ ids. met_with [] (first_references m ++ ids)) (flat_map-append (leads m) seen (id ∷ []) ∙ ap (λ ids. flat_map (leads m) seen ++ ids) (append-nil (leads m id)))
      ∙ ap (met_with []) (sym (append_assoc (first_references m) (flat_map (leads m) seen) (leads m id)))
      ∙ met_append [] (first_references m ++ flat_map (leads m) seen) (leads m id) ∙ met_is (so_far seen) (leads m id)

  -- and more is met until the end
  rest_of : (seen ids : List ℕ) → seen ++ ids ≡ order → (rest : List ℕ) × (so_far seen ++ rest ≡ order)
  rest_of seen ids e =
      let more = met_grows (so_far seen) (flat_map (leads m) ids) in (
        more.0,
        sym more.1 ∙ sym (met_is (so_far seen) (flat_map (leads m) ids))
            ∙ sym (met_append [] (first_references m ++ flat_map (leads m) seen) (flat_map (leads m) ids))
            ∙ ap (met_with []) (append_assoc (first_references m) (flat_map (leads m) seen) (flat_map (leads m) ids) ∙ ap (λ more. first_references m ++ more) (sym (flat_map-append (leads m) seen ids)))
            ∙ ap (met_by m) e ∙ is.whole,
      )

  follows_from : (seen ids : List ℕ) → seen ++ ids ≡ order → Follows (leads m) order (so_far seen) (length seen) ids
  follows_from seen [] e = let same : seen ≡ order = sym (append-nil seen) ∙ e in ap length same ∙ ap length (sym is.whole) ∙ ap (λ xs. length (met_by m xs)) (sym same)
  follows_from seen (id ∷ ids) e =
      let next : (seen ++ id ∷ []) ++ ids ≡ order = append_assoc seen (id ∷ []) ids ∙ e in
      let rest = rest_of (seen ++ id ∷ []) ids next in
      let longer : length (seen ++ id ∷ []) ≡ length seen + 1 = (let both = length-append seen (id ∷ []) in omega (arith, both)) in
      let below : length seen < length order = subst (λ xs. length seen < length xs) e (let both = length-append seen (id ∷ ids) in omega (arith, both)) in
      let front : take (length seen) order ≡ seen =
      ap (take (length seen)) (sym e) ∙ take-append-le (length seen) seen (id ∷ ids) (omega arith) ∙ take_all (length seen) seen (omega arith) in (
        subst (λ xs. length seen < length (met_by m xs)) front (is.early (length seen) below),
        (rest.0, ap (λ xs. xs ++ rest.0) (sym (one_more seen id)) ∙ rest.1),
        subst (λ met. Follows (leads m) order met (length seen + 1) ids) (one_more seen id)
            (subst (λ n. Follows (leads m) order (so_far (seen ++ id ∷ [])) n ids) longer (follows_from (seen ++ id ∷ []) ids next)),
      )

  -- what an object of the order refers to is in the order
  closed : (id n : ℕ) → IsTrue (has order id) → IsTrue (has (leads m id) n) → IsTrue (has order n)
  closed id n k l =
      subst (λ xs. IsTrue (has xs n)) (sym (met_is [] (first_references m ++ flat_map (leads m) order)) ∙ is.whole)
      (after_has [] (first_references m ++ flat_map (leads m) order) n (has_end (first_references m) (flat_map (leads m) order) n (has_flat (leads m) order id n k l)))

  pub first_met : AllMet os order (first_references m)
  first_met n k =
      subst (λ xs. IsTrue (has xs n)) (sym (met_is [] (first_references m ++ flat_map (leads m) order)) ∙ is.whole)
      (after_has [] (first_references m ++ flat_map (leads m) order) n (has_front (first_references m) (flat_map (leads m) order) n k))

  -- ---- the state

  abbrev pub canon : MachineState
  canon = record { state = record { globals = map (entry_to (back order)) gs; objects = put_all os order }; ran = m.ran }

  put_refers : (o : Option (Object ℕ)) → object_references (put os order o) ≡ map (place order) (references_of o)
  put_refers None = refl
  put_refers (Some o) = object_renumbered (back order) o

  objects_are_met : (ids met : List ℕ) (number : ℕ) → Follows (leads m) order met number ids → IsTrue (are_met number (Some (length met)) (map (put_at os order) ids))
  objects_are_met [] met number f = (Decides-eqb number (length met)).1 f
  objects_are_met (id ∷ ids) met number f =
      let low : number < length met = f.0 in
      let test : nat_lt number (length met) ≡ true = grind (arith, nat_tests, low) in
      let step : met_from (length met) (object_references (put_at os order id)) ≡ Some (length (met_after met (leads m id))) =
      ap (met_from (length met)) (put_refers (slice_get os id)) ∙ met_in_order order met (leads m id) f.1.0 f.1.1 in
      both_and (nat_lt number (length met)) (are_met (number + 1) (met_from (length met) (object_references (put_at os order id))) (map (put_at os order) ids)) test
      (subst (λ o. IsTrue (are_met (number + 1) o (map (put_at os order) ids))) (sym step) (objects_are_met ids (met_after met (leads m id)) (number + 1) f.2))

  -- what the globals refer to is met first
  front_is : so_far [] ≡ met_after [] (first_references m)
  front_is = ap (met_with []) (append-nil (first_references m)) ∙ met_is [] (first_references m)

  canonical : IsTrue (is_canonical canon)
  canonical =
      let rest = rest_of [] order refl in
      let start : met_from 0 (flat_map (λ entry. references entry.1) (map (entry_to (back order)) gs)) ≡ Some (length (met_after [] (first_references m))) =
      ap (met_from 0) (globals_renumbered (back order) gs) ∙ met_in_order order [] (first_references m) rest.0 (ap (λ xs. xs ++ rest.0) (sym front_is) ∙ rest.1) in
      subst (λ o. IsTrue (are_met 0 o (put_all os order))) (sym start)
      (objects_are_met order (met_after [] (first_references m)) 0 (subst (λ met. Follows (leads m) order met 0 order) front_is (follows_from [] order refl)))

  globals_fit : IsTrue (list_all (λ global. fits os global.1) gs) × IsTrue (list_all (all_in_object (fits os)) os)
  globals_fit = and_both (list_all (λ global. fits os global.1) gs) (list_all (all_in_object (fits os)) os) h.references

  object_alike : (id : ℕ) → IsTrue (has order id) → LikeFound (met_pairs os order) (slice_get os id) (Some (put_at os order id))
  object_alike id k =
      (found_lands os order (slice_get os id) (λ n l. closed id n k (subst (λ ids. IsTrue (has ids n)) (sym (refers (slice_get os id))) l))
      (held (all_in_object (fits os)) os id globals_fit.1 (side.below id k))).0

  place_alike : (n : ℕ) → n < length order → LikeFound (met_pairs os order) (slice_get os (at_or (far os order) order n)) (slice_get (put_all os order) n)
  place_alike n l =
      subst (λ o. LikeFound (met_pairs os order) (slice_get os (at_or (far os order) order n)) o) (sym (slice_at os order (far os order) order n l))
      (object_alike (at_or (far os order) order n) (at_has (far os order) order n l))

  far_low : (n : ℕ) → length os ≤ length os + n
  far_low n = omega arith

  far_one : (a b : ℕ) → length os + a ≡ length os + b → a ≡ b
  far_one a b e = omega arith

  alike : IsAlike (met_pairs os order) m.state canon.state
  unfolding object
  alike = record {
    first_once = firsts_apart (at_or (far os order) order) (λ n. n) (apart (far os order) (length os) far_low far_one order side) (length order);
    second_once = seconds_apart (at_or (far os order) order) (λ n. n) (λ a b e. e) (length order);
    globals = (globals_land os order gs first_met globals_fit.0).0;
    objects = λ a b k.
        let n = below_is (at_or (far os order) order) (λ i. i) (length order) a b k in
        subst (λ x. LikeFound (met_pairs os order) (slice_get os x) (slice_get (put_all os order) b)) n.2
        (subst (λ x. LikeFound (met_pairs os order) (slice_get os (at_or (far os order) order n.0)) (slice_get (put_all os order) x)) n.3 (place_alike n.0 n.1));
  }

  pub is_canon : IsCanon m canon
  is_canon = record { alike = record { ran = refl; state = (met_pairs os order, alike) }; canonical = canonical }

  -- an object of the order is there, and what it refers to is in the order
  pub order_held : (id : ℕ) → IsTrue (has order id) → id < length os
  order_held id k = side.below id k

  pub order_met : (id : ℕ) → IsTrue (has order id) → AllMet os order (leads m id)
  order_met id k n l = closed id n k l

  pub order_short : length order ≤ length os
  order_short = side_short (length os) order side

  pub order_few : length order < 2 ^ 32
  order_few = let short = order_short in let room = h.room in let few = h.few in omega (arith, short, room, few)
