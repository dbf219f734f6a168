-- A state that is alike to itself has a snapshot.
use Rattle.std.proofs.Common.{◌≡◌, ◌≤◌, ◌<◌, ◌+◌, ℕ, suc, Bool, true, false, List, [], ◌∷◌, ◌++◌, map, length, IsTrue, refl, sym, ap, arith, subst, ◌∙◌, append-nil, length-append}
use Rattle.std.proofs.lemmas.Bool.Decides.{Decides-eqb, Decides-int_eq, nat_tests}
use Rattle.std.proofs.lemmas.Option.{slice_get_within}
use Rattle.std.proofs.lemmas.Slice.Eq.{bytes_eq-Decides}
use Rattle.std.specs.Cmp.{booleans_Decides}
use Rattle.std.specs.List.{flat_map}
use Rattle.std.specs.Prelude.{◌==◌, ◌||◌, nat_lt, if◌then◌else◌, Option, Some, None, bytes_eq, slice_get}
use Rattle.star_value.specs.declared.key.Key.{Key}
use Rattle.star_value.specs.declared.value.Value.{Value, ind-Value, map-Value, out-Value, out-roll-Value, roll-Value}
use Rattle.star_value.specs.declared.value.Value.TheOpen.{Value-F}
use Rattle.star_value.specs.KeyLaws.{same_key-Decides}
use Rattle.star_value.specs.KeyOrder.{all_hold, same_key}
use Rattle.star_meaning.specs.State.{Object, AList, ADict, AFunction, object}
use Rattle.star_meaning.specs.Values.{builtin_name, has}
use Rattle.star_meaning.specs.Alike.{AlikeMachines, IsAlike, LikeFound, LikeObjects, Pairs, is_pair, like, like_global, like_items, like_layer, like_pair, like_pairs}
use Rattle.star_meaning.specs.Snapshot.{IsBytesOf, IsCanon, are_met, is_canonical, met_from, object_references, references, state_bytes}
use Rattle.star_meaning.specs.Validity.{MachineState}
use Rattle.star_meaning.proofs.AlikeNumbers.{Side, and_both, apart, at_or, back, below_is, both_and, firsts_apart, in_or_first, in_or_second, is_below, itself, not_true, or_either, place, same_number, seconds_apart}
use Rattle.star_meaning.proofs.AlikeValues.{like_rolled, range_itself}
use Rattle.star_meaning.proofs.Canonical.{globals_refer, object_refers}
use Rattle.star_meaning.proofs.MovedValues.{entry_to, layer, moved, object_to, pair_to, rolled}
use Rattle.star_meaning.proofs.Walked.{globals_renumbered, layer_references, met_after, met_in_order, object_renumbered, place_before, rolled_references}
use Rattle.star_meaning.proofs.WalkedNumbers.{Follows, Walk, after_has, has_end, has_front, side_after, walked}
use Rattle.star_meaning.proofs.WalkedValues.{AllMet, at_has, far, met_pairs, put, put_all, put_at, refers_to, slice_at}

-- ---- values whose references are all met correspond to those with places for numbers

place_low : (xs : List ℕ) (id : ℕ) → IsTrue (has xs id) → place xs id < length xs
place_low xs id h = subst (λ ys. place ys id < length xs) (append-nil xs) (place_before xs [] id h)

place_at : (f : ℕ → ℕ) (xs : List ℕ) (id : ℕ) → IsTrue (has xs id) → at_or f xs (place xs id) ≡ id
place_at f [] id h = absurd (not_true h)
place_at f (x ∷ xs) id h = by (x == id) refl (place_at f xs id) h
  where
    by : (t : Bool) → (x == id) ≡ t → (IsTrue (has xs id) → at_or f xs (place xs id) ≡ id) → IsTrue (t || has xs id) → at_or f (x ∷ xs) (if t then 0 else suc (place xs id)) ≡ id
    by true e k g = (Decides-eqb x id).0 e
    by false e k g = k g

module _ (os : List (Object ℕ)) (met : List ℕ) where
  abbrev own : Pairs
  own = met_pairs os met

  met_pair : (id : ℕ) → IsTrue (has met id) → IsTrue (is_pair own id (place met id))
  met_pair id h =
      subst (λ x. IsTrue (is_pair own x (place met id))) (place_at (far os met) met id h)
      (is_below (at_or (far os met) met) (λ n. n) (length met) (place met id) (place_low met id h))

  front_met : (xs ys : List ℕ) → AllMet os met (xs ++ ys) → AllMet os met xs
  front_met xs ys h n k = h n (has_front xs ys n k)

  end_met : (xs ys : List ℕ) → AllMet os met (xs ++ ys) → AllMet os met ys
  end_met xs ys h n k = h n (has_end xs ys n k)

  abbrev Lands : Value → Type 0
  Lands v = AllMet os met (references v) → IsTrue (like own v (moved (back met) v))

  abbrev Known : Type 0
  Known = (v : Value) × Lands v

  abbrev bare : Value-F Known → Value-F Value
  bare = map-Value Known Value (λ e. e.0)

  parts_land : (every : List Known) → AllMet os met (flat_map (λ ids. ids) (map references (map (λ e. e.0) every)))
      → IsTrue (all_hold (map (like own) (map (λ e. e.0) every)) (map (moved (back met)) (map (λ e. e.0) every)))
  parts_land [] h = refl
  parts_land (e ∷ every) h =
      let others = map (λ o. o.0) every in
      let ids = flat_map (λ n. n) (map references others) in
      both_and (like own e.0 (moved (back met) e.0)) (all_hold (map (like own) others) (map (moved (back met)) others)) (e.1 (front_met (references e.0) ids h))
      (parts_land every (end_met (references e.0) ids h))

  abbrev Layers : Value-F Value → Type 0
  Layers x = IsTrue (like_layer own (map-Value Value (Value → Bool) (like own) x) (layer (back met) x))

  layer_lands : (y : Value-F Known) → AllMet os met (layer_references (bare y)) → Layers (bare y)
  layer_lands Value-F.None h = refl
  layer_lands (Value-F.Bool b) h = (booleans_Decides b b).1 refl
  layer_lands (Value-F.Int z) h = (Decides-int_eq z z).1 refl
  layer_lands (Value-F.Text t) h = (bytes_eq-Decides t t).1 refl
  layer_lands (Value-F.Tuple every) h = parts_land every h
  layer_lands (Value-F.Range r) h = range_itself r
  layer_lands (Value-F.List id) h = met_pair id (h id (in_or_first (id == id) false (itself id)))
  layer_lands (Value-F.Dict id) h = met_pair id (h id (in_or_first (id == id) false (itself id)))
  layer_lands (Value-F.Function id) h = met_pair id (h id (in_or_first (id == id) false (itself id)))
  layer_lands (Value-F.Builtin which) h = (bytes_eq-Decides (builtin_name which) (builtin_name which)).1 refl

  like_moved : (x : Value-F Value) → like own (roll-Value x) (moved (back met) (roll-Value x)) ≡ like_layer own (map-Value Value (Value → Bool) (like own) x) (layer (back met) x)
  like_moved x =
      like_rolled own x (moved (back met) (roll-Value x))
      ∙ ap (like_layer own (map-Value Value (Value → Bool) (like own) x)) (ap out-Value (rolled (back met) x) ∙ out-roll-Value (layer (back met) x))

  rolled_lands : (y : Value-F Known) → Lands (roll-Value (bare y))
  rolled_lands y h = subst IsTrue (sym (like_moved (bare y))) (layer_lands y (subst (AllMet os met) (rolled_references (bare y)) h))

  value_lands : (v : Value) → Lands v
  value_lands = ind-Value Lands (λ x y is. subst (λ z. Lands (roll-Value z)) is (rolled_lands y))

  items_land : (xs : List Value) → AllMet os met (flat_map references xs) → IsTrue (like_items own xs (map (moved (back met)) xs))
  items_land [] h = refl
  items_land (x ∷ xs) h =
      both_and (like own x (moved (back met) x)) (like_items own xs (map (moved (back met)) xs)) (value_lands x (front_met (references x) (flat_map references xs) h))
      (items_land xs (end_met (references x) (flat_map references xs) h))

  abbrev in_pairs : List (Key × Value) → List ℕ
  in_pairs ps = flat_map (λ pair. references pair.1) ps

  pairs_land : (ps : List (Key × Value)) → AllMet os met (in_pairs ps) → IsTrue (like_pairs own ps (map (pair_to (back met)) ps))
  pairs_land [] h = refl
  pairs_land (p ∷ ps) h =
      both_and (like_pair own p (pair_to (back met) p)) (like_pairs own ps (map (pair_to (back met)) ps))
      (both_and (same_key p.0 p.0) (like own p.1 (moved (back met) p.1)) ((same_key-Decides p.0 p.0).1 refl) (value_lands p.1 (front_met (references p.1) (in_pairs ps) h)))
      (pairs_land ps (end_met (references p.1) (in_pairs ps) h))

  abbrev in_globals : List (List ℕ × Value) → List ℕ
  in_globals gs = flat_map (λ entry. references entry.1) gs

  globals_land : (gs : List (List ℕ × Value)) → AllMet os met (in_globals gs) → IsTrue (all_hold (map (like_global own) gs) (map (entry_to (back met)) gs))
  globals_land [] h = refl
  globals_land (g ∷ gs) h =
      both_and (like_global own g (entry_to (back met) g)) (all_hold (map (like_global own) gs) (map (entry_to (back met)) gs))
      (both_and (bytes_eq g.0 g.0) (like own g.1 (moved (back met) g.1)) ((bytes_eq-Decides g.0 g.0).1 refl) (value_lands g.1 (front_met (references g.1) (in_globals gs) h)))
      (globals_land gs (end_met (references g.1) (in_globals gs) h))

  object_lands : (o : Object ℕ) → AllMet os met (object_references o) → LikeObjects own o (object_to (back met) o)
  object_lands (AList xs) h = items_land xs h
  object_lands (ADict ps) h = pairs_land ps h
  object_lands (AFunction c n xs) h = (refl, refl, items_land xs h)

  found_lands : (p : Pairs) (o : Option (Object ℕ)) → LikeFound p o o → AllMet os met (refers_to o) → LikeFound own o (Some (put os met o))
  found_lands p (Some o) l h = object_lands o h
  found_lands p None l h = absurd l

-- ---- what the globals of a state reach that is alike to itself: each number there is a pair with itself

module _ (p : Pairs) (m : MachineState) (alike : IsAlike p m.state m.state) where
  abbrev os : List (Object ℕ)
  os = m.state.objects

  abbrev gs : List (List ℕ × Value)
  gs = m.state.globals

  abbrev IsFixed : ℕ → Type 0
  IsFixed n = IsTrue (is_pair p n n)

  abbrev AllFixed : List ℕ → Type 0
  AllFixed ns = (n : ℕ) → IsTrue (has ns n) → IsFixed n

  fixed_in : (xs : List ℕ) → IsTrue (all_hold (map (is_pair p) xs) xs) → AllFixed xs
  fixed_in [] h n k = absurd (not_true k)
  fixed_in (x ∷ xs) h n k =
      let both = and_both (is_pair p x x) (all_hold (map (is_pair p) xs) xs) h in
      or_either (x == n) (has xs n) (IsFixed n) (λ e. subst IsFixed (same_number x n e) both.0) (λ e. fixed_in xs both.1 n e) k

  none_fixed : AllFixed []
  none_fixed n k = absurd (not_true k)

  push_fixed : (xs : List ℕ) (id : ℕ) → AllFixed xs → IsFixed id → AllFixed (xs ++ id ∷ [])
  push_fixed [] id h k n l = or_either (id == n) false (IsFixed n) (λ e. subst IsFixed (same_number id n e) k) (λ e. absurd (not_true e)) l
  push_fixed (x ∷ xs) id h k n l =
      or_either (x == n) (has (xs ++ id ∷ []) n) (IsFixed n) (λ e. h n (in_or_first (x == n) (has xs n) e))
      (λ e. push_fixed xs id (λ i j. h i (in_or_second (x == i) (has xs i) j)) k n e) l

  met_fixed : (met ids : List ℕ) → AllFixed met → AllFixed ids → AllFixed (met_after met ids)
  met_fixed met [] h k = h
  met_fixed met (id ∷ ids) h k = by (has met id) (λ ns f. met_fixed ns ids f (λ n l. k n (in_or_second (id == n) (has ids n) l)))
    where
      by : (t : Bool) → ((ns : List ℕ) → AllFixed ns → AllFixed (met_after ns ids)) → AllFixed (met_after (if t then met else met ++ id ∷ []) ids)
      by true f = f met h
      by false f = f (met ++ id ∷ []) (push_fixed met id h (k id (in_or_first (id == id) (has ids id) (itself id))))

  abbrev first : List ℕ
  first = flat_map (λ entry. references entry.1) gs

  first_fixed : AllFixed first
  first_fixed = fixed_in first (globals_refer p gs gs alike.globals)

  found_fixed : (o : Option (Object ℕ)) → LikeFound p o o → AllFixed (refers_to o)
  found_fixed (Some o) l = fixed_in (object_references o) (object_refers p o o l)
  found_fixed None l = absurd l

  there : (id : ℕ) → IsFixed id → LikeFound p (slice_get os id) (slice_get os id)
  unfolding object
  there id h = alike.objects id id h

  within : (o : Option (Object ℕ)) (id : ℕ) → slice_get os id ≡ o → LikeFound p o o → id < length os
  within (Some o) id is l = slice_get_within os id o is
  within None id is l = absurd l

  fixed_low : (id : ℕ) → IsFixed id → id < length os
  fixed_low id h = within (slice_get os id) id refl (there id h)

  -- what a number leads to, where it is a pair with itself
  abbrev leads : ℕ → List ℕ
  leads id = if is_pair p id id then refers_to (slice_get os id) else []

  leads_are : (id : ℕ) → IsFixed id → leads id ≡ refers_to (slice_get os id)
  leads_are id h = ap (λ t. if t then refers_to (slice_get os id) else []) h

  leads_fixed : (id : ℕ) → AllFixed (leads id)
  leads_fixed id = by (is_pair p id id) refl
    where
      by : (t : Bool) → is_pair p id id ≡ t → AllFixed (if t then refers_to (slice_get os id) else [])
      by true e = found_fixed (slice_get os id) (there id e)
      by false e = none_fixed

  start_side : Side (met_after [] first) (length os)
  start_side = side_after (length os) [] first (record { once = refl; below = λ n k. absurd (not_true k) }) (λ n k. fixed_low n (first_fixed n k))

  walk : Walk leads (length os) [] (met_after [] first)
  walk = walked leads (length os) (λ id n l k. fixed_low n (leads_fixed id n k)) (length os) [] (met_after [] first) (omega arith) start_side

  -- all that is met
  none_left : (rest : List ℕ) → length rest ≡ 0 → rest ≡ []
  none_left [] h = refl
  none_left (x ∷ rest) h = absurd (omega (arith, h))

  whole : (met rest all : List ℕ) → met ++ rest ≡ all → length all ≡ length met → met ≡ all
  whole met rest all e long =
      let both : length (met ++ rest) ≡ length met + length rest = length-append met rest in
      let same : length (met ++ rest) ≡ length all = ap length e in
      sym (append-nil met) ∙ (ap (λ xs. met ++ xs) (sym (none_left rest (omega (arith, both, same, long)))) ∙ e)

  all_fixed : (all met ids rest : List ℕ) (number : ℕ) → Follows leads all met number ids → met ++ rest ≡ all → number + length ids ≡ length all → AllFixed met → AllFixed all
  all_fixed all met [] rest number h e long fixed =
      let none : length {A = ℕ} [] ≡ 0 = refl in
      let last : number ≡ length met = h in
      subst AllFixed (whole met rest all e (omega (arith, last, long, none))) fixed
  all_fixed all met (id ∷ ids) rest number h e long fixed =
      let more : length (id ∷ ids) ≡ suc (length ids) = refl in
      all_fixed all (met_after met (leads id)) ids h.1.0 (number + 1) h.2 h.1.1 (omega (arith, long, more)) (met_fixed met (leads id) fixed (leads_fixed id))

  put_refers : (met : List ℕ) (o : Option (Object ℕ)) → object_references (put os met o) ≡ map (place met) (refers_to o)
  put_refers met None = refl
  put_refers met (Some o) = object_renumbered (back met) o

  objects_are_met : (all ids met : List ℕ) (number : ℕ) → AllFixed ids → Follows leads all met number ids → IsTrue (are_met number (Some (length met)) (map (put_at os all) ids))
  objects_are_met all [] met number fixed h = (Decides-eqb number (length met)).1 h
  objects_are_met all (id ∷ ids) met number fixed h =
      let low : number < length met = h.0 in
      let test : nat_lt number (length met) ≡ true = grind (arith, nat_tests, low) in
      let same : refers_to (slice_get os id) ≡ leads id = sym (leads_are id (fixed id (in_or_first (id == id) (has ids id) (itself id)))) in
      let step : met_from (length met) (object_references (put_at os all id)) ≡ Some (length (met_after met (leads id))) =
      ap (met_from (length met)) (put_refers all (slice_get os id) ∙ ap (map (place all)) same) ∙ met_in_order all met (leads id) h.1.0 h.1.1 in
      both_and (nat_lt number (length met)) (are_met (number + 1) (met_from (length met) (object_references (put_at os all id))) (map (put_at os all) ids)) test
      (subst (λ o. IsTrue (are_met (number + 1) o (map (put_at os all) ids))) (sym step)
      (objects_are_met all ids (met_after met (leads id)) (number + 1) (λ n k. fixed n (in_or_second (id == n) (has ids n) k)) h.2))

  module _ (w : Walk leads (length os) [] (met_after [] first)) where
    abbrev met : List ℕ
    met = w.ids

    ids_fixed : AllFixed met
    ids_fixed = all_fixed met (met_after [] first) met w.rest 0 (w.follows met refl) (sym w.front) (omega arith) (met_fixed [] first none_fixed first_fixed)

    abbrev canon : MachineState
    canon = record { state = record { globals = map (entry_to (back met)) gs; objects = put_all os met }; ran = m.ran }

    canonical : IsTrue (is_canonical canon)
    canonical =
        let start : met_from 0 (flat_map (λ entry. references entry.1) (map (entry_to (back met)) gs)) ≡ Some (length (met_after [] first)) =
        ap (met_from 0) (globals_renumbered (back met) gs) ∙ met_in_order met [] first w.rest (sym w.front) in
        subst (λ o. IsTrue (are_met 0 o (put_all os met))) (sym start) (objects_are_met met met (met_after [] first) 0 ids_fixed (w.follows met refl))

    first_met : AllMet os met first
    first_met n k = subst (λ xs. IsTrue (has xs n)) (sym w.front) (has_front (met_after [] first) w.rest n (after_has [] first n k))

    object_good : (id : ℕ) → IsTrue (has met id) → LikeFound (met_pairs os met) (slice_get os id) (Some (put_at os met id))
    object_good id k =
        found_lands os met p (slice_get os id) (there id (ids_fixed id k))
        (λ n l. w.closed id n k (subst (λ ns. IsTrue (has ns n)) (sym (leads_are id (ids_fixed id k))) l))

    place_good : (n : ℕ) → n < length met → LikeFound (met_pairs os met) (slice_get os (at_or (far os met) met n)) (slice_get (put_all os met) n)
    place_good n l =
        subst (λ o. LikeFound (met_pairs os met) (slice_get os (at_or (far os met) met n)) o) (sym (slice_at os met (far os met) met n l))
        (object_good (at_or (far os met) met n) (at_has (far os met) met n l))

    far_low : (n : ℕ) → length os ≤ length os + n
    far_low n = omega arith

    far_one : (a b : ℕ) → length os + a ≡ length os + b → a ≡ b
    far_one a b e = omega arith

    met_alike : IsAlike (met_pairs os met) m.state canon.state
    unfolding object
    met_alike = record {
      first_once = firsts_apart (at_or (far os met) met) (λ n. n) (apart (far os met) (length os) far_low far_one met w.side) (length met);
      second_once = seconds_apart (at_or (far os met) met) (λ n. n) (λ a b e. e) (length met);
      globals = globals_land os met gs first_met;
      objects = λ a b k.
          let n = below_is (at_or (far os met) met) (λ i. i) (length met) a b k in
          subst (λ x. LikeFound (met_pairs os met) (slice_get os x) (slice_get (put_all os met) b)) n.2
          (subst (λ x. LikeFound (met_pairs os met) (slice_get os (at_or (far os met) met n.0)) (slice_get (put_all os met) x)) n.3 (place_good n.0 n.1));
    }

    is_canon : IsCanon m canon
    is_canon = record { alike = record { ran = refl; state = (met_pairs os met, met_alike) }; canonical = canonical }

    bytes_there : (bytes : List ℕ) × IsBytesOf m bytes
    bytes_there = (state_bytes canon, (canon, is_canon, refl))

-- so it has a snapshot
pub has_snapshot : (m : MachineState) → AlikeMachines m m → (bytes : List ℕ) × IsBytesOf m bytes
has_snapshot m alike = bytes_there alike.state.0 m alike.state.1 (walk alike.state.0 m alike.state.1)
