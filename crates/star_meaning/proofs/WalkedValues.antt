-- Values whose references are all met, with the places of the met for numbers: they correspond to the values, and name objects of
-- their kinds among those that are met.
use Rattle.std.proofs.Common.{◌≡◌, ◌<◌, ◌+◌, ℕ, zero, suc, Bool, true, false, List, [], ◌∷◌, ◌++◌, map, length, IsTrue, refl, sym, ap, arith, subst, ◌∙◌, append-nil}
use Rattle.std.proofs.lemmas.Bool.Decides.{Decides-eqb, Decides-int_eq}
use Rattle.std.proofs.lemmas.Slice.Eq.{bytes_eq-Decides}
use Rattle.std.specs.Cmp.{booleans_Decides}
use Rattle.std.specs.List.{flat_map, list_all}
use Rattle.std.specs.Prelude.{◌==◌, ◌||◌, if◌then◌else◌, Option, Some, None, bytes_eq, slice_get}
use Rattle.star_value.specs.declared.key.Key.{Key, fold-roll-Key, ind-Key, map-Key, roll-Key}
use Rattle.star_value.specs.declared.key.Key.TheOpen.{Key-F}
use Rattle.star_value.specs.declared.value.Value.{Value, fold-roll-Value, ind-Value, map-Value, out-Value, out-roll-Value, roll-Value}
use Rattle.star_value.specs.declared.value.Value.TheOpen.{Value-F}
use Rattle.star_value.specs.declared.value.Value.TheVariants as value
use Rattle.star_value.specs.KeyLaws.{same_key-Decides}
use Rattle.star_value.specs.KeyOrder.{all_hold, same_key}
use Rattle.star_value.specs.Keys as keys
use Rattle.star_value.specs.Keys.{value_step}
use Rattle.star_meaning.specs.State.{Object, AList, ADict, AFunction}
use Rattle.star_meaning.specs.Values.{builtin_name, has}
use Rattle.star_meaning.specs.Alike.{LikeFound, LikeObjects, Pairs, is_pair, like, like_global, like_items, like_layer, like_pair, like_pairs}
use Rattle.star_meaning.specs.Snapshot.{object_references, references}
use Rattle.star_meaning.specs.Validity.{all_in_object, all_in_pair, fits, fits_step, is_dict, is_function, is_list}
use Rattle.star_meaning.proofs.MovedValues.{entry_to, layer, moved, object_to, pair_to, rolled}
use Rattle.star_meaning.proofs.AlikeNumbers.{and_both, at_or, back, both_and, in_or_first, is_below, itself, not_true, pairs_below, place}
use Rattle.star_meaning.proofs.AlikeValues.{like_rolled, range_itself}
use Rattle.star_meaning.proofs.Walked.{layer_references, place_before, rolled_references}
use Rattle.star_meaning.proofs.WalkedNumbers.{has_end, has_front}

-- ---- places

place_low : (xs : List ℕ) (id : ℕ) → IsTrue (has xs id) → place xs id < length xs
place_low xs id h = subst (λ ys. place ys id < length xs) (append-nil xs) (place_before xs [] id h)

place_at : (f : ℕ → ℕ) (xs : List ℕ) (id : ℕ) → IsTrue (has xs id) → at_or f xs (place xs id) ≡ id
place_at f [] id h = absurd (not_true h)
place_at f (x ∷ xs) id h = by (x == id) refl (place_at f xs id) h
  where
    by : (t : Bool) → (x == id) ≡ t → (IsTrue (has xs id) → at_or f xs (place xs id) ≡ id) → IsTrue (t || has xs id) → at_or f (x ∷ xs) (if t then 0 else suc (place xs id)) ≡ id
    by true e k g = (Decides-eqb x id).0 e
    by false e k g = k g

pub at_has : (f : ℕ → ℕ) (xs : List ℕ) (n : ℕ) → n < length xs → IsTrue (has xs (at_or f xs n))
at_has f [] n l = absurd (omega arith)
at_has f (x ∷ xs) zero l = in_or_first (x == x) (has xs x) (itself x)
at_has f (x ∷ xs) (suc n) l = has_end (x ∷ []) xs (at_or f xs n) (at_has f xs n (omega arith))

-- ---- keys have no references

module _ {C : Type 0} (objects : List (Object C)) where
  pub fits_rolled : (x : Value-F Value) → fits objects (roll-Value x) ≡ fits_step objects (map-Value Value Bool (fits objects) x)
  unfolding fits
  fits_rolled x = fold-roll-Value Bool (fits_step objects) x

  abbrev KnownKey : Type 0
  KnownKey = (k : Key) × IsTrue (fits objects (keys.value_of k))

  abbrev bare_key : Key-F KnownKey → Key-F Key
  bare_key = map-Key KnownKey Key (λ e. e.0)

  parts_fit : (every : List KnownKey) → IsTrue (list_all (λ b. b) (map (fits objects) (map keys.value_of (map (λ e. e.0) every))))
  parts_fit [] = refl
  parts_fit (e ∷ every) = both_and (fits objects (keys.value_of e.0)) (list_all (λ b. b) (map (fits objects) (map keys.value_of (map (λ o. o.0) every)))) e.1 (parts_fit every)

  key_layer : (y : Key-F KnownKey) → IsTrue (fits objects (value_step (map-Key Key Value keys.value_of (bare_key y))))
  key_layer Key-F.None = ap (fits objects) (sym value.rolls-None) ∙ fits_rolled Value-F.None
  key_layer (Key-F.Bool b) = ap (fits objects) (sym (value.rolls-Bool b)) ∙ fits_rolled (Value-F.Bool b)
  key_layer (Key-F.Int z) = ap (fits objects) (sym (value.rolls-Int z)) ∙ fits_rolled (Value-F.Int z)
  key_layer (Key-F.Text t) = ap (fits objects) (sym (value.rolls-Text t)) ∙ fits_rolled (Value-F.Text t)
  key_layer (Key-F.Tuple every) =
      let items = map keys.value_of (map (λ e. e.0) every) in ap (fits objects) (sym (value.rolls-Tuple items)) ∙ fits_rolled (Value-F.Tuple items) ∙ parts_fit every

  pub key_fits : (k : Key) → IsTrue (fits objects (keys.value_of k))
  key_fits =
      ind-Key (λ k. IsTrue (fits objects (keys.value_of k)))
      (λ x y is. subst (λ z. IsTrue (fits objects (keys.value_of (roll-Key z)))) is (ap (fits objects) (fold-roll-Key Value value_step (bare_key y)) ∙ key_layer y))

-- ---- what is met

-- what an object refers to, where there is one
abbrev pub refers_to : Option (Object ℕ) → List ℕ
refers_to None = []
refers_to (Some o) = object_references o

-- an object is there, and passes a test
abbrev pub Holds : (Object ℕ → Bool) → Option (Object ℕ) → Type 0
Holds test None = ⊥
Holds test (Some o) = IsTrue (test o)

pub held : (test : Object ℕ → Bool) (xs : List (Object ℕ)) (n : ℕ) → IsTrue (list_all test xs) → n < length xs → Holds test (slice_get xs n)
held test [] n h l = absurd (omega arith)
held test (x ∷ xs) zero h l = (and_both (test x) (list_all test xs) h).0
held test (x ∷ xs) (suc n) h l = held test xs n (and_both (test x) (list_all test xs) h).1 (omega arith)

module _ (os : List (Object ℕ)) (met : List ℕ) where
  -- the objects that are met, in order, with places for numbers
  abbrev pub put : Option (Object ℕ) → Object ℕ
  put None = AList []
  put (Some o) = object_to (back met) o

  abbrev pub put_at : ℕ → Object ℕ
  put_at id = put (slice_get os id)

  abbrev pub put_all : List (Object ℕ)
  put_all = map put_at met

  -- each number that is met, and its place
  abbrev pub far : ℕ → ℕ
  far n = length os + n

  abbrev pub met_pairs : Pairs
  met_pairs = pairs_below (at_or far met) (λ n. n) (length met)

  met_pair : (id : ℕ) → IsTrue (has met id) → IsTrue (is_pair met_pairs id (place met id))
  met_pair id h = subst (λ x. IsTrue (is_pair met_pairs x (place met id))) (place_at far met id h) (is_below (at_or far met) (λ n. n) (length met) (place met id) (place_low met id h))

  slice_put : (xs : List ℕ) (id : ℕ) → IsTrue (has xs id) → slice_get (map put_at xs) (place xs id) ≡ Some (put_at id)
  slice_put [] id h = absurd (not_true h)
  slice_put (x ∷ xs) id h = by (x == id) refl (slice_put xs id) h
    where
      by : (t : Bool) → (x == id) ≡ t → (IsTrue (has xs id) → slice_get (map put_at xs) (place xs id) ≡ Some (put_at id)) → IsTrue (t || has xs id)
          → slice_get (put_at x ∷ map put_at xs) (if t then 0 else suc (place xs id)) ≡ Some (put_at id)
      by true e k g = ap (λ n. Some (put_at n)) ((Decides-eqb x id).0 e)
      by false e k g = k g

  pub slice_at : (f : ℕ → ℕ) (xs : List ℕ) (n : ℕ) → n < length xs → slice_get (map put_at xs) n ≡ Some (put_at (at_or f xs n))
  slice_at f [] n l = absurd (omega arith)
  slice_at f (x ∷ xs) zero l = refl
  slice_at f (x ∷ xs) (suc n) l = slice_at f xs n (omega arith)

  -- ---- references keep their kinds

  list_put : (o : Option (Object ℕ)) → IsTrue (is_list o) → IsTrue (is_list (Some (put o)))
  list_put (Some (AList xs)) h = refl
  list_put (Some (ADict ps)) h = absurd (not_true h)
  list_put (Some (AFunction c n xs)) h = absurd (not_true h)
  list_put None h = absurd (not_true h)

  dict_put : (o : Option (Object ℕ)) → IsTrue (is_dict o) → IsTrue (is_dict (Some (put o)))
  dict_put (Some (AList xs)) h = absurd (not_true h)
  dict_put (Some (ADict ps)) h = refl
  dict_put (Some (AFunction c n xs)) h = absurd (not_true h)
  dict_put None h = absurd (not_true h)

  function_put : (o : Option (Object ℕ)) → IsTrue (is_function o) → IsTrue (is_function (Some (put o)))
  function_put (Some (AList xs)) h = absurd (not_true h)
  function_put (Some (ADict ps)) h = absurd (not_true h)
  function_put (Some (AFunction c n xs)) h = refl
  function_put None h = absurd (not_true h)

  -- a test of the object at a place is one of the object that is met there
  at_place : (test : Option (Object ℕ) → Bool) (id : ℕ) → IsTrue (has met id) → IsTrue (test (Some (put_at id))) → IsTrue (test (slice_get put_all (place met id)))
  at_place test id h k = subst (λ o. IsTrue (test o)) (sym (slice_put met id h)) k

  -- ---- values

  -- all of these numbers are met
  abbrev pub AllMet : List ℕ → Type 0
  AllMet ids = (n : ℕ) → IsTrue (has ids n) → IsTrue (has met n)

  front_met : (xs ys : List ℕ) → AllMet (xs ++ ys) → AllMet xs
  front_met xs ys h n k = h n (has_front xs ys n k)

  end_met : (xs ys : List ℕ) → AllMet (xs ++ ys) → AllMet ys
  end_met xs ys h n k = h n (has_end xs ys n k)

  -- a value corresponds to the one with places, which fits
  abbrev Lands : Value → Type 0
  Lands v = AllMet (references v) → IsTrue (fits os v) → IsTrue (like met_pairs v (moved (back met) v)) × IsTrue (fits put_all (moved (back met) v))

  abbrev Known : Type 0
  Known = (v : Value) × Lands v

  abbrev bare : Value-F Known → Value-F Value
  bare = map-Value Known Value (λ e. e.0)

  parts_land : (every : List Known) → AllMet (flat_map (λ ids. ids) (map references (map (λ e. e.0) every))) → IsTrue (list_all (λ b. b) (map (fits os) (map (λ e. e.0) every)))
      → IsTrue (all_hold (map (like met_pairs) (map (λ e. e.0) every)) (map (moved (back met)) (map (λ e. e.0) every))) × IsTrue (list_all (λ b. b) (map (fits put_all) (map (moved (back met)) (map (λ e. e.0) every))))
  parts_land [] h k = (refl, refl)
  parts_land (e ∷ every) h k =
      let others = map (λ o. o.0) every in
      let ids = flat_map (λ n. n) (map references others) in
      let fit = and_both (fits os e.0) (list_all (λ b. b) (map (fits os) others)) k in
      let first = e.1 (front_met (references e.0) ids h) fit.0 in
      let rest = parts_land every (end_met (references e.0) ids h) fit.1 in (
        both_and (like met_pairs e.0 (moved (back met) e.0)) (all_hold (map (like met_pairs) others) (map (moved (back met)) others)) first.0 rest.0,
        both_and (fits put_all (moved (back met) e.0)) (list_all (λ b. b) (map (fits put_all) (map (moved (back met)) others))) first.1 rest.1,
      )

  abbrev Layers : Value-F Value → Type 0
  Layers x =
      IsTrue (like_layer met_pairs (map-Value Value (Value → Bool) (like met_pairs) x) (layer (back met) x)) × IsTrue (fits_step put_all (map-Value Value Bool (fits put_all) (layer (back met) x)))

  layer_lands : (y : Value-F Known) → AllMet (layer_references (bare y)) → IsTrue (fits_step os (map-Value Value Bool (fits os) (bare y))) → Layers (bare y)
  layer_lands Value-F.None h k = (refl, refl)
  layer_lands (Value-F.Bool b) h k = ((booleans_Decides b b).1 refl, refl)
  layer_lands (Value-F.Int z) h k = ((Decides-int_eq z z).1 refl, refl)
  layer_lands (Value-F.Text t) h k = ((bytes_eq-Decides t t).1 refl, refl)
  layer_lands (Value-F.Tuple every) h k = parts_land every h k
  layer_lands (Value-F.Range r) h k = (range_itself r, refl)
  layer_lands (Value-F.List id) h k =
      let there = h id (in_or_first (id == id) false (itself id)) in (met_pair id there, at_place is_list id there (list_put (slice_get os id) k))
  layer_lands (Value-F.Dict id) h k =
      let there = h id (in_or_first (id == id) false (itself id)) in (met_pair id there, at_place is_dict id there (dict_put (slice_get os id) k))
  layer_lands (Value-F.Function id) h k =
      let there = h id (in_or_first (id == id) false (itself id)) in (met_pair id there, at_place is_function id there (function_put (slice_get os id) k))
  layer_lands (Value-F.Builtin which) h k = ((bytes_eq-Decides (builtin_name which) (builtin_name which)).1 refl, refl)

  like_moved : (x : Value-F Value)
      → like met_pairs (roll-Value x) (moved (back met) (roll-Value x)) ≡ like_layer met_pairs (map-Value Value (Value → Bool) (like met_pairs) x) (layer (back met) x)
  like_moved x =
      like_rolled met_pairs x (moved (back met) (roll-Value x))
      ∙ ap (like_layer met_pairs (map-Value Value (Value → Bool) (like met_pairs) x)) (ap out-Value (rolled (back met) x) ∙ out-roll-Value (layer (back met) x))

  fits_moved : (x : Value-F Value) → fits put_all (moved (back met) (roll-Value x)) ≡ fits_step put_all (map-Value Value Bool (fits put_all) (layer (back met) x))
  fits_moved x = ap (fits put_all) (rolled (back met) x) ∙ fits_rolled put_all (layer (back met) x)

  rolled_lands : (y : Value-F Known) → Lands (roll-Value (bare y))
  rolled_lands y h k =
      let found = layer_lands y (subst AllMet (rolled_references (bare y)) h) (subst IsTrue (fits_rolled os (bare y)) k) in
      (subst IsTrue (sym (like_moved (bare y))) found.0, subst IsTrue (sym (fits_moved (bare y))) found.1)

  value_lands : (v : Value) → Lands v
  value_lands = ind-Value Lands (λ x y is. subst (λ z. Lands (roll-Value z)) is (rolled_lands y))

  -- ---- lists, dicts, globals and objects

  items_land : (xs : List Value) → AllMet (flat_map references xs) → IsTrue (list_all (fits os) xs) → IsTrue (like_items met_pairs xs (map (moved (back met)) xs)) × IsTrue (list_all (fits put_all) (map (moved (back met)) xs))
  items_land [] h k = (refl, refl)
  items_land (x ∷ xs) h k =
      let fit = and_both (fits os x) (list_all (fits os) xs) k in
      let first = value_lands x (front_met (references x) (flat_map references xs) h) fit.0 in
      let rest = items_land xs (end_met (references x) (flat_map references xs) h) fit.1 in (
        both_and (like met_pairs x (moved (back met) x)) (like_items met_pairs xs (map (moved (back met)) xs)) first.0 rest.0,
        both_and (fits put_all (moved (back met) x)) (list_all (fits put_all) (map (moved (back met)) xs)) first.1 rest.1,
      )

  abbrev in_pairs : List (Key × Value) → List ℕ
  in_pairs ps = flat_map (λ pair. references pair.1) ps

  pairs_land : (ps : List (Key × Value)) → AllMet (in_pairs ps) → IsTrue (list_all (all_in_pair (fits os)) ps)
      → IsTrue (like_pairs met_pairs ps (map (pair_to (back met)) ps)) × IsTrue (list_all (all_in_pair (fits put_all)) (map (pair_to (back met)) ps))
  pairs_land [] h k = (refl, refl)
  pairs_land (p ∷ ps) h k =
      let fit = and_both (all_in_pair (fits os) p) (list_all (all_in_pair (fits os)) ps) k in
      let first = value_lands p.1 (front_met (references p.1) (in_pairs ps) h) (and_both (fits os (keys.value_of p.0)) (fits os p.1) fit.0).1 in
      let rest = pairs_land ps (end_met (references p.1) (in_pairs ps) h) fit.1 in (
        both_and (like_pair met_pairs p (pair_to (back met) p)) (like_pairs met_pairs ps (map (pair_to (back met)) ps))
            (both_and (same_key p.0 p.0) (like met_pairs p.1 (moved (back met) p.1)) ((same_key-Decides p.0 p.0).1 refl) first.0) rest.0,
        both_and (all_in_pair (fits put_all) (pair_to (back met) p)) (list_all (all_in_pair (fits put_all)) (map (pair_to (back met)) ps))
            (both_and (fits put_all (keys.value_of p.0)) (fits put_all (moved (back met) p.1)) (key_fits put_all p.0) first.1) rest.1,
      )

  abbrev in_globals : List (List ℕ × Value) → List ℕ
  in_globals gs = flat_map (λ entry. references entry.1) gs

  pub globals_land : (gs : List (List ℕ × Value)) → AllMet (in_globals gs) → IsTrue (list_all (λ global. fits os global.1) gs)
      → IsTrue (all_hold (map (like_global met_pairs) gs) (map (entry_to (back met)) gs)) × IsTrue (list_all (λ global. fits put_all global.1) (map (entry_to (back met)) gs))
  globals_land [] h k = (refl, refl)
  globals_land (g ∷ gs) h k =
      let fit = and_both (fits os g.1) (list_all (λ global. fits os global.1) gs) k in
      let first = value_lands g.1 (front_met (references g.1) (in_globals gs) h) fit.0 in
      let rest = globals_land gs (end_met (references g.1) (in_globals gs) h) fit.1 in (
        both_and (like_global met_pairs g (entry_to (back met) g)) (all_hold (map (like_global met_pairs) gs) (map (entry_to (back met)) gs))
            (both_and (bytes_eq g.0 g.0) (like met_pairs g.1 (moved (back met) g.1)) ((bytes_eq-Decides g.0 g.0).1 refl) first.0) rest.0,
        both_and (fits put_all (moved (back met) g.1)) (list_all (λ global. fits put_all global.1) (map (entry_to (back met)) gs)) first.1 rest.1,
      )

  object_lands : (o : Object ℕ) → AllMet (object_references o) → IsTrue (all_in_object (fits os) o) → LikeObjects met_pairs o (object_to (back met) o) × IsTrue (all_in_object (fits put_all) (object_to (back met) o))
  object_lands (AList xs) h k = items_land xs h k
  object_lands (ADict ps) h k = pairs_land ps h k
  object_lands (AFunction c n xs) h k = let found = items_land xs h k in ((refl, refl, found.0), found.1)

  pub found_lands : (o : Option (Object ℕ)) → AllMet (refers_to o) → Holds (all_in_object (fits os)) o → LikeFound met_pairs o (Some (put o)) × IsTrue (all_in_object (fits put_all) (put o))
  found_lands (Some o) h k = object_lands o h k
  found_lands None h k = absurd k
