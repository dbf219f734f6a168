-- Each state of a machine is alike to one whose objects are numbered as they are met.
use Rattle.std.proofs.Common.{◌≡◌, ◌≤◌, ◌<◌, ◌+◌, ◌*◌, ℕ, Bool, true, List, [], ◌∷◌, map, length, IsTrue, refl, sym, ap, arith, subst, ◌∙◌}
use Rattle.std.proofs.lemmas.Bool.Decides.{Decides-eqb, nat_tests}
use Rattle.std.proofs.lemmas.List.{length-map}
use Rattle.std.specs.List.{flat_map, list_all, list_any}
use Rattle.std.specs.List.Sorted.{IsStrictlySortedBy}
use Rattle.std.specs.Map.{keys_of}
use Rattle.std.specs.Prelude.{◌==◌, ◌&&◌, ◌||◌, not, nat_le, nat_lt, Option, Some, None, slice_get}
use Rattle.std.specs.Str.{all_scalars}
use Rattle.chex_base.specs.TextOrder.{text_cmp}
use Rattle.star_syntax.specs.declared.cell.Program.{Program}
use Rattle.star_syntax.specs.declared.statement.Definition.{Definition}
use Rattle.star_syntax.specs.declared.statement.Statement.{Statement}
use Rattle.star_value.specs.declared.key.Key.{Key}
use Rattle.star_value.specs.declared.value.Value.{Value}
use Rattle.star_value.specs.declared.value.Value.TheOpen.{Value-F}
use Rattle.star_value.specs.KeyOrder.{all_hold, same_key}
use Rattle.star_value.specs.Keys as keys
use Rattle.star_meaning.specs.State.{Object, AList, ADict, AFunction, object}
use Rattle.star_meaning.specs.Values.{has}
use Rattle.star_meaning.specs.Alike.{IsAlike, LikeFound, is_pair, like_global}
use Rattle.star_meaning.specs.Laws.{EachStateHasACanon, EachValidStateHasASnapshot, HasCanon}
use Rattle.star_meaning.specs.Snapshot.{IsBytesOf, are_met, is_canonical, met_from, object_references, references, state_bytes}
use Rattle.star_meaning.specs.Validity.{IsMachine, IsValid, MachineState, all_in, all_in_object, all_in_pair, are_distinct, fits, function_at, has_defaults, has_distinct_keys, has_small_numbers, is_defined, is_proper, proper_step}
use Rattle.star_meaning.proofs.MovedValues.{Moving, depth_moved, entry_to, fold_moved, moved, numbers, object_to, pair_to}
use Rattle.star_meaning.proofs.AlikeNumbers.{Side, and_both, apart, at_or, back, below_is, both_and, firsts_apart, in_or_first, in_or_second, is_below, itself, not_true, or_either, pairs_below, place, same_number, seconds_apart}
use Rattle.star_meaning.proofs.AlikeTurned.{alike_itself}
use Rattle.star_meaning.proofs.Canonical.{globals_refer, object_refers}
use Rattle.star_meaning.proofs.Walked.{globals_renumbered, met_after, met_in_order, object_renumbered}
use Rattle.star_meaning.proofs.WalkedNumbers.{Follows, Walk, after_has, has_front, side_after, side_short, walked}
use Rattle.star_meaning.proofs.WalkedValues.{AllMet, Holds, at_has, far, found_lands, globals_land, held, met_pairs, put, put_all, put_at, refers_to, slice_at}

-- ---- what other numbers leave

module _ (mv : Moving) where
  proper_numbers : (x : Value-F Bool) → proper_step (numbers mv x) ≡ proper_step x
  proper_numbers (Value-F.List id) = refl
  proper_numbers _ = refl

  proper_moved : (v : Value) → is_proper (moved mv v) ≡ is_proper v
  unfolding is_proper
  proper_moved v = λ i. nat_le (depth_moved mv v i) 64 && fold_moved mv proper_step proper_numbers v i

  proper_items : (xs : List Value) → list_all is_proper (map (moved mv) xs) ≡ list_all is_proper xs
  proper_items [] = refl
  proper_items (x ∷ xs) = λ i. proper_moved x i && proper_items xs i

  proper_pairs : (ps : List (Key × Value)) → list_all (all_in_pair is_proper) (map (pair_to mv) ps) ≡ list_all (all_in_pair is_proper) ps
  proper_pairs [] = refl
  proper_pairs (p ∷ ps) = λ i. (is_proper (keys.value_of p.0) && proper_moved p.1 i) && proper_pairs ps i

  proper_globals : (gs : List (List ℕ × Value)) → list_all (λ global. is_proper global.1) (map (entry_to mv) gs) ≡ list_all (λ global. is_proper global.1) gs
  proper_globals [] = refl
  proper_globals (g ∷ gs) = λ i. proper_moved g.1 i && proper_globals gs i

  proper_object : (o : Object ℕ) → IsTrue (all_in_object is_proper o) → IsTrue (all_in_object is_proper (object_to mv o))
  proper_object (AList xs) h = subst IsTrue (sym (proper_items xs)) h
  proper_object (ADict ps) h = subst IsTrue (sym (proper_pairs ps)) h
  proper_object (AFunction c n xs) h = subst IsTrue (sym (proper_items xs)) h

  names_kept : (gs : List (List ℕ × Value)) → keys_of (map (entry_to mv) gs) ≡ keys_of gs
  names_kept [] = refl
  names_kept (g ∷ gs) = ap (λ names. g.0 ∷ names) (names_kept gs)

  small_kept : (o : Object ℕ) → IsTrue (has_small_numbers o) → IsTrue (has_small_numbers (object_to mv o))
  small_kept (AList xs) h = h
  small_kept (ADict ps) h = h
  small_kept (AFunction c n xs) h = h

  others_kept : (k : Key) (ps : List (Key × Value)) → list_any (λ other. same_key k other.0) (map (pair_to mv) ps) ≡ list_any (λ other. same_key k other.0) ps
  others_kept k [] = refl
  others_kept k (p ∷ ps) = λ i. same_key k p.0 || others_kept k ps i

  pairs_distinct : (ps : List (Key × Value)) → are_distinct (map (pair_to mv) ps) ≡ are_distinct ps
  pairs_distinct [] = refl
  pairs_distinct (p ∷ ps) = λ i. not (others_kept p.0 ps i) && pairs_distinct ps i

  distinct_kept : (o : Object ℕ) → IsTrue (has_distinct_keys o) → IsTrue (has_distinct_keys (object_to mv o))
  distinct_kept (AList xs) h = h
  distinct_kept (ADict ps) h = subst IsTrue (sym (pairs_distinct ps)) h
  distinct_kept (AFunction c n xs) h = h

  defaults_kept : (xs : List Value) (o : Option (Definition Statement)) → has_defaults (map (moved mv) xs) o ≡ has_defaults xs o
  defaults_kept xs None = refl
  defaults_kept xs (Some def) = ap (λ n. n == length def.defaults) (length-map xs (moved mv))

  defined_kept : (program : Program) (ran : List ℕ) (o : Object ℕ) → IsTrue (is_defined program ran o) → IsTrue (is_defined program ran (object_to mv o))
  defined_kept program ran (AList xs) h = h
  defined_kept program ran (ADict ps) h = h
  defined_kept program ran (AFunction c n xs) h = subst IsTrue (ap (λ b. list_any (λ node. node == c) ran && b) (sym (defaults_kept xs (function_at program c n)))) h

-- ---- numbers that correspond to themselves are below the count of objects

paired_low : (count : ℕ) (xs : List ℕ) → IsTrue (all_hold (map (is_pair (pairs_below (λ n. n) (λ n. n) count)) xs) xs) → (n : ℕ) → IsTrue (has xs n) → n < count
paired_low count [] h n k = absurd (not_true k)
paired_low count (x ∷ xs) h n k =
    let own = pairs_below (λ n. n) (λ n. n) count in
    let both = and_both (is_pair own x x) (all_hold (map (is_pair own) xs) xs) h in
    or_either (x == n) (has xs n) (n < count)
    (λ e. let found = below_is (λ i. i) (λ i. i) count x x both.0 in subst (λ i. i < count) (found.2 ∙ same_number x n e) found.1) (λ e. paired_low count xs both.1 n e) k

-- ---- the objects that are met, in order

module _ (os : List (Object ℕ)) where
  abbrev leads : ℕ → List ℕ
  leads id = refers_to (slice_get os id)

  put_refers : (met : List ℕ) (o : Option (Object ℕ)) → object_references (put os met o) ≡ map (place met) (refers_to o)
  put_refers met None = refl
  put_refers met (Some o) = object_renumbered (back met) o

  objects_are_met : (all ids met : List ℕ) (number : ℕ) → Follows leads all met number ids → IsTrue (are_met number (Some (length met)) (map (put_at os all) ids))
  objects_are_met all [] met number h = (Decides-eqb number (length met)).1 h
  objects_are_met all (id ∷ ids) met number h =
      let low : number < length met = h.0 in
      let test : nat_lt number (length met) ≡ true = grind (arith, nat_tests, low) in
      let step : met_from (length met) (object_references (put_at os all id)) ≡ Some (length (met_after met (leads id))) =
      ap (met_from (length met)) (put_refers all (slice_get os id)) ∙ met_in_order all met (leads id) h.1.0 h.1.1 in
      both_and (nat_lt number (length met)) (are_met (number + 1) (met_from (length met) (object_references (put_at os all id))) (map (put_at os all) ids)) test
      (subst (λ o. IsTrue (are_met (number + 1) o (map (put_at os all) ids))) (sym step) (objects_are_met all ids (met_after met (leads id)) (number + 1) h.2))

  -- a test of each object is one of each that is met
  module _ (met : List ℕ) (test other : Object ℕ → Bool) (h : (o : Object ℕ) → IsTrue (test o) → IsTrue (other (object_to (back met) o))) (k : IsTrue (list_all test os)) where
    put_passes : (o : Option (Object ℕ)) → Holds test o → IsTrue (other (put os met o))
    put_passes None l = absurd l
    put_passes (Some o) l = h o l

    all_pass : (ids : List ℕ) → ((n : ℕ) → IsTrue (has ids n) → n < length os) → IsTrue (list_all other (map (put_at os met) ids))
    all_pass [] low = refl
    all_pass (id ∷ ids) low =
        both_and (other (put_at os met id)) (list_all other (map (put_at os met) ids)) (put_passes (slice_get os id) (held test os id k (low id (in_or_first (id == id) (has ids id) (itself id)))))
        (all_pass ids (λ n l. low n (in_or_second (id == n) (has ids n) l)))

-- ---- the state

module _ (m : MachineState) (h : IsMachine m) where
  abbrev os : List (Object ℕ)
  os = m.state.objects

  abbrev gs : List (List ℕ × Value)
  gs = m.state.globals

  abbrev first : List ℕ
  first = flat_map (λ entry. references entry.1) gs

  globals_fit : IsTrue (list_all (λ global. fits os global.1) gs) × IsTrue (list_all (all_in_object (fits os)) os)
  globals_fit = and_both (list_all (λ global. fits os global.1) gs) (list_all (all_in_object (fits os)) os) h.references

  own_alike : IsAlike (pairs_below (λ n. n) (λ n. n) (length os)) m.state m.state
  own_alike = alike_itself m.state h.references

  first_low : (n : ℕ) → IsTrue (has first n) → n < length os
  first_low = paired_low (length os) first (globals_refer (pairs_below (λ n. n) (λ n. n) (length os)) gs gs own_alike.globals)

  found_low : (o : Option (Object ℕ)) → LikeFound (pairs_below (λ n. n) (λ n. n) (length os)) o o → (n : ℕ) → IsTrue (has (refers_to o) n) → n < length os
  found_low (Some o) l = paired_low (length os) (object_references o) (object_refers (pairs_below (λ n. n) (λ n. n) (length os)) o o l)
  found_low None l = absurd l

  leads_low : (id n : ℕ) → id < length os → IsTrue (has (leads os id) n) → n < length os
  unfolding object
  leads_low id n l = found_low (slice_get os id) (own_alike.objects id id (is_below (λ i. i) (λ i. i) (length os) id l)) n

  start_side : Side (met_after [] first) (length os)
  start_side = side_after (length os) [] first (record { once = refl; below = λ n k. absurd (not_true k) }) first_low

  -- all objects that the globals reach
  walk : Walk (leads os) (length os) [] (met_after [] first)
  walk = walked (leads os) (length os) leads_low (length os) [] (met_after [] first) (omega arith) start_side

  module _ (w : Walk (leads os) (length os) [] (met_after [] first)) where
    abbrev met : List ℕ
    met = w.ids

    abbrev canon : MachineState
    canon = record { state = record { globals = map (entry_to (back met)) gs; objects = put_all os met }; ran = m.ran }

    canonical : IsTrue (is_canonical canon)
    canonical =
        let start : met_from 0 (flat_map (λ entry. references entry.1) (map (entry_to (back met)) gs)) ≡ Some (length (met_after [] first)) =
        ap (met_from 0) (globals_renumbered (back met) gs) ∙ met_in_order met [] first w.rest (sym w.front) in
        subst (λ o. IsTrue (are_met 0 o (put_all os met))) (sym start) (objects_are_met os met met (met_after [] first) 0 (w.follows met refl))

    first_met : AllMet os met first
    first_met n k = subst (λ xs. IsTrue (has xs n)) (sym w.front) (has_front (met_after [] first) w.rest n (after_has [] first n k))

    globals_good : IsTrue (all_hold (map (like_global (met_pairs os met)) gs) (map (entry_to (back met)) gs)) × IsTrue (list_all (λ global. fits (put_all os met) global.1) (map (entry_to (back met)) gs))
    globals_good = globals_land os met gs first_met globals_fit.0

    abbrev Good : ℕ → Type 0
    Good id = LikeFound (met_pairs os met) (slice_get os id) (Some (put_at os met id)) × IsTrue (all_in_object (fits (put_all os met)) (put_at os met id))

    object_good : (id : ℕ) → IsTrue (has met id) → Good id
    object_good id k = found_lands os met (slice_get os id) (λ n l. w.closed id n k l) (held (all_in_object (fits os)) os id globals_fit.1 (w.side.below id k))

    place_good : (n : ℕ) → n < length met → LikeFound (met_pairs os met) (slice_get os (at_or (far os met) met n)) (slice_get (put_all os met) n)
    place_good n l =
        subst (λ o. LikeFound (met_pairs os met) (slice_get os (at_or (far os met) met n)) o) (sym (slice_at os met (far os met) met n l))
        (object_good (at_or (far os met) met n) (at_has (far os met) met n l)).0

    far_low : (n : ℕ) → length os ≤ length os + n
    far_low n = omega arith

    far_one : (a b : ℕ) → length os + a ≡ length os + b → a ≡ b
    far_one a b e = omega arith

    met_alike : IsAlike (met_pairs os met) m.state canon.state
    unfolding object
    met_alike = record {
      first_once = firsts_apart (at_or (far os met) met) (λ n. n) (apart (far os met) (length os) far_low far_one met w.side) (length met);
      second_once = seconds_apart (at_or (far os met) met) (λ n. n) (λ a b e. e) (length met);
      globals = globals_good.0;
      objects = λ a b k.
          let n = below_is (at_or (far os met) met) (λ i. i) (length met) a b k in
          subst (λ x. LikeFound (met_pairs os met) (slice_get os x) (slice_get (put_all os met) b)) n.2
          (subst (λ x. LikeFound (met_pairs os met) (slice_get os (at_or (far os met) met n.0)) (slice_get (put_all os met) x)) n.3 (place_good n.0 n.1));
    }

    objects_good : (ids : List ℕ) → ((n : ℕ) → IsTrue (has ids n) → IsTrue (has met n)) → IsTrue (list_all (all_in_object (fits (put_all os met))) (map (put_at os met) ids))
    objects_good [] k = refl
    objects_good (id ∷ ids) k =
        both_and (all_in_object (fits (put_all os met)) (put_at os met id)) (list_all (all_in_object (fits (put_all os met))) (map (put_at os met) ids))
        (object_good id (k id (in_or_first (id == id) (has ids id) (itself id)))).1 (objects_good ids (λ n l. k n (in_or_second (id == n) (has ids n) l)))

    few_met : length (put_all os met) ≤ 1000000 * length m.ran
    few_met = let long = length-map met (put_at os met) in let short = side_short (length os) met w.side in let room = h.room in omega (arith, long, short, room)

    canon_kept : IsMachine canon
    canon_kept = record {
      names = subst (λ names. IsStrictlySortedBy text_cmp names) (sym (names_kept (back met) gs)) h.names;
      characters = subst (λ names. IsTrue (list_all all_scalars names)) (sym (names_kept (back met) gs)) h.characters;
      nodes = h.nodes;
      numbers = all_pass os met has_small_numbers has_small_numbers (small_kept (back met)) h.numbers met w.side.below;
      keys = all_pass os met has_distinct_keys has_distinct_keys (distinct_kept (back met)) h.keys met w.side.below;
      references =
          both_and (list_all (λ global. fits (put_all os met) global.1) (map (entry_to (back met)) gs)) (list_all (all_in_object (fits (put_all os met))) (put_all os met)) globals_good.1
          (objects_good met (λ n k. k));
      few = h.few;
      room = few_met;
    }

    canon_proper : IsTrue (all_in is_proper m.state) → IsTrue (all_in is_proper canon.state)
    canon_proper p =
        let both = and_both (list_all (λ global. is_proper global.1) gs) (list_all (all_in_object is_proper) os) p in
        both_and (list_all (λ global. is_proper global.1) (map (entry_to (back met)) gs)) (list_all (all_in_object is_proper) (put_all os met)) (subst IsTrue (sym (proper_globals (back met) gs)) both.0)
        (all_pass os met (all_in_object is_proper) (all_in_object is_proper) (proper_object (back met)) both.1 met w.side.below)

    canon_valid : (program : Program) → IsValid program m → IsValid program canon
    canon_valid program v = record {
      kept = canon_kept;
      values = canon_proper v.values;
      nodes = v.nodes;
      functions = all_pass os met (is_defined program m.ran) (is_defined program m.ran) (defined_kept (back met) program m.ran) v.functions met w.side.below;
    }

    has_canon : HasCanon m
    has_canon = record {
      canon = canon;
      is_canon = record { alike = record { ran = refl; state = (met_pairs os met, met_alike) }; canonical = canonical };
      kept = canon_kept;
      proper = canon_proper;
      valid = canon_valid;
    }

-- ---- the laws

pub each_canon : EachStateHasACanon
each_canon m h = has_canon m h (walk m h)

pub each_snapshot : EachValidStateHasASnapshot
each_snapshot program m v =
    let one = each_canon m v.kept in
    let bytes_of : IsBytesOf m (state_bytes one.canon) = (one.canon, one.is_canon, refl) in (state_bytes one.canon, bytes_of, (m, v, bytes_of))
