-- To be alike goes both ways, and a state whose references name its objects is alike to itself.
use Rattle.std.proofs.Common.{◌≡◌, ◌<◌, ℕ, zero, suc, List, [], ◌∷◌, map, length, Bool, IsTrue, refl, sym, ap, arith, subst, ◌∙◌}
use Rattle.std.proofs.lemmas.Bool.Decides.{Decides-int_eq}
use Rattle.std.proofs.lemmas.Option.{slice_get_within}
use Rattle.std.proofs.lemmas.Slice.Eq.{bytes_eq-Decides}
use Rattle.std.specs.Cmp.{booleans_Decides}
use Rattle.std.specs.List.{list_all}
use Rattle.std.specs.Prelude.{◌==◌, ◌&&◌, Option, Some, None, bytes_eq, slice_get}
use Rattle.star_value.specs.declared.key.Key.{Key}
use Rattle.star_value.specs.declared.value.Value.{Value, fold-roll-Value, ind-Value, map-Value, out-Value, out-roll-Value, roll-Value, roll-out-Value}
use Rattle.star_value.specs.declared.value.Value.TheOpen.{Value-F}
use Rattle.star_value.specs.KeyLaws.{same_key-Decides}
use Rattle.star_value.specs.KeyOrder.{all_hold, same_key}
use Rattle.star_meaning.specs.State.{Object, AList, ADict, AFunction, State, object}
use Rattle.star_meaning.specs.Values.{builtin_name}
use Rattle.star_meaning.specs.Alike.{AlikeMachines, IsAlike, LikeFound, LikeObjects, Pairs, are_apart, is_pair, like, like_global, like_items, like_layer, like_pair, like_pairs}
use Rattle.star_meaning.specs.Laws.{AlikeIsAnEquivalence}
use Rattle.star_meaning.specs.Validity.{IsMachine, MachineState, all_in, all_in_object, all_in_pair, fits, fits_step, is_dict, is_function, is_list}
use Rattle.star_meaning.proofs.AlikeNumbers.{and_both, below_is, both_and, firsts, firsts_apart, in_or_first, in_or_second, is_below, not_true, or_either, pairs_below, seconds, seconds_apart}
use Rattle.star_meaning.proofs.AlikeOrder.{alike_over, joined}
use Rattle.star_meaning.proofs.AlikeValues.{like_rolled, range_itself, ranges_same}

opened : (pairs : Pairs) (x y : Value) → like pairs x y ≡ like_layer pairs (map-Value Value (Value → Bool) (like pairs) (out-Value x)) (out-Value y)
opened pairs x y = ap (λ v. like pairs v y) (sym (roll-out-Value x)) ∙ like_rolled pairs (out-Value x) y

rolled_both : (pairs : Pairs) (x y : Value-F Value) → like pairs (roll-Value x) (roll-Value y) ≡ like_layer pairs (map-Value Value (Value → Bool) (like pairs) x) y
rolled_both pairs x y = like_rolled pairs x (roll-Value y) ∙ ap (like_layer pairs (map-Value Value (Value → Bool) (like pairs) x)) (out-roll-Value y)

-- ---- both ways

module _ (p r : Pairs) (turn : (a b : ℕ) → IsTrue (is_pair p a b) → IsTrue (is_pair r b a)) where
  abbrev Turned : Value → Type 0
  Turned x = (y : Value) → IsTrue (like p x y) → IsTrue (like r y x)

  abbrev Known : Type 0
  Known = (v : Value) × Turned v

  abbrev bare : Value-F Known → Value-F Value
  bare = map-Value Known Value (λ e. e.0)

  items_turned : (all : List Known) (ys : List Value) → IsTrue (all_hold (map (like p) (map (λ e. e.0) all)) ys) → IsTrue (all_hold (map (like r) ys) (map (λ e. e.0) all))
  items_turned [] [] h = refl
  items_turned [] (y ∷ ys) h = absurd (not_true h)
  items_turned (e ∷ all) [] h = absurd (not_true h)
  items_turned (e ∷ all) (y ∷ ys) h = let both = and_both (like p e.0 y) _ h in both_and (like r y e.0) _ (e.1 y both.0) (items_turned all ys both.1)

  layers_turned : (y : Value-F Known) (v : Value-F Value) → IsTrue (like_layer p (map-Value Value (Value → Bool) (like p) (bare y)) v) → IsTrue (like_layer r (map-Value Value (Value → Bool) (like r) v) (bare y))
  layers_turned Value-F.None Value-F.None h = refl
  layers_turned (Value-F.Bool a) (Value-F.Bool b) h = (booleans_Decides b a).1 (sym ((booleans_Decides a b).0 h))
  layers_turned (Value-F.Int a) (Value-F.Int b) h = (Decides-int_eq b a).1 (sym ((Decides-int_eq a b).0 h))
  layers_turned (Value-F.Text a) (Value-F.Text b) h = (bytes_eq-Decides b a).1 (sym ((bytes_eq-Decides a b).0 h))
  layers_turned (Value-F.Tuple all) (Value-F.Tuple ys) h = items_turned all ys h
  layers_turned (Value-F.Range a) (Value-F.Range b) h = subst (λ x. IsTrue (like_layer r (Value-F.Range b) (Value-F.Range x))) (sym (ranges_same a b h)) (range_itself b)
  layers_turned (Value-F.List a) (Value-F.List b) h = turn a b h
  layers_turned (Value-F.Dict a) (Value-F.Dict b) h = turn a b h
  layers_turned (Value-F.Function a) (Value-F.Function b) h = turn a b h
  layers_turned (Value-F.Builtin a) (Value-F.Builtin b) h = (bytes_eq-Decides (builtin_name b) (builtin_name a)).1 (sym ((bytes_eq-Decides (builtin_name a) (builtin_name b)).0 h))
  layers_turned _ _ h = absurd (not_true h)

  rolled_turned : (y : Value-F Known) → Turned (roll-Value (bare y))
  rolled_turned y v h =
      let found = layers_turned y (out-Value v) (subst IsTrue (like_rolled p (bare y) v) h) in
      subst IsTrue (sym (opened r v (roll-Value (bare y)) ∙ ap (like_layer r (map-Value Value (Value → Bool) (like r) (out-Value v))) (out-roll-Value (bare y)))) found

  values_turned : (x : Value) → Turned x
  values_turned = ind-Value Turned (λ x y is. subst (λ z. Turned (roll-Value z)) is (rolled_turned y))

  lists_turned : (xs ys : List Value) → IsTrue (like_items p xs ys) → IsTrue (like_items r ys xs)
  lists_turned [] [] h = refl
  lists_turned [] (y ∷ ys) h = absurd (not_true h)
  lists_turned (x ∷ xs) [] h = absurd (not_true h)
  lists_turned (x ∷ xs) (y ∷ ys) h = let both = and_both (like p x y) _ h in both_and (like r y x) _ (values_turned x y both.0) (lists_turned xs ys both.1)

  dicts_turned : (xs ys : List (Key × Value)) → IsTrue (like_pairs p xs ys) → IsTrue (like_pairs r ys xs)
  dicts_turned [] [] h = refl
  dicts_turned [] (y ∷ ys) h = absurd (not_true h)
  dicts_turned (x ∷ xs) [] h = absurd (not_true h)
  dicts_turned (x ∷ xs) (y ∷ ys) h =
      let both = and_both (like_pair p x y) _ h in
      let one = and_both (same_key x.0 y.0) (like p x.1 y.1) both.0 in
      both_and (like_pair r y x) _ (both_and (same_key y.0 x.0) (like r y.1 x.1) ((same_key-Decides y.0 x.0).1 (sym ((same_key-Decides x.0 y.0).0 one.0))) (values_turned x.1 y.1 one.1)) (dicts_turned xs ys both.1)

  globals_turned : (xs ys : List (List ℕ × Value)) → IsTrue (all_hold (map (like_global p) xs) ys) → IsTrue (all_hold (map (like_global r) ys) xs)
  globals_turned [] [] h = refl
  globals_turned [] (y ∷ ys) h = absurd (not_true h)
  globals_turned (x ∷ xs) [] h = absurd (not_true h)
  globals_turned (x ∷ xs) (y ∷ ys) h =
      let both = and_both (like_global p x y) _ h in
      let one = and_both (bytes_eq x.0 y.0) (like p x.1 y.1) both.0 in
      both_and (like_global r y x) _ (both_and (bytes_eq y.0 x.0) (like r y.1 x.1) ((bytes_eq-Decides y.0 x.0).1 (sym ((bytes_eq-Decides x.0 y.0).0 one.0))) (values_turned x.1 y.1 one.1)) (globals_turned xs ys both.1)

  objects_turned : {C : Type 0} (o q : Object C) → LikeObjects p o q → LikeObjects r q o
  objects_turned (AList xs) (AList ys) h = lists_turned xs ys h
  objects_turned (ADict xs) (ADict ys) h = dicts_turned xs ys h
  objects_turned (AFunction c m xs) (AFunction d n ys) h = (sym h.0, sym h.1, lists_turned xs ys h.2)
  objects_turned _ _ h = absurd h

  found_turned : {C : Type 0} (o q : Option (Object C)) → LikeFound p o q → LikeFound r q o
  found_turned (Some o) (Some q) h = objects_turned o q h
  found_turned (Some o) None h = absurd h
  found_turned None (Some q) h = absurd h
  found_turned None None h = absurd h

-- each pair the other way round
abbrev pub turned : Pairs → Pairs
turned [] = []
turned (pair ∷ pairs) = (pair.1, pair.0) ∷ turned pairs

turned_firsts : (pairs : Pairs) → firsts (turned pairs) ≡ seconds pairs
turned_firsts [] = refl
turned_firsts (pair ∷ pairs) = ap (λ ns. pair.1 ∷ ns) (turned_firsts pairs)

turned_seconds : (pairs : Pairs) → seconds (turned pairs) ≡ firsts pairs
turned_seconds [] = refl
turned_seconds (pair ∷ pairs) = ap (λ ns. pair.0 ∷ ns) (turned_seconds pairs)

turned_pair : (pairs : Pairs) (a b : ℕ) → IsTrue (is_pair pairs a b) → IsTrue (is_pair (turned pairs) b a)
turned_pair [] a b h = h
turned_pair (pair ∷ pairs) a b h =
    or_either ((pair.0 == a) && (pair.1 == b)) (is_pair pairs a b) (IsTrue (is_pair (turned (pair ∷ pairs)) b a))
    (λ k. let both = and_both (pair.0 == a) (pair.1 == b) k in in_or_first ((pair.1 == b) && (pair.0 == a)) (is_pair (turned pairs) b a) (both_and (pair.1 == b) (pair.0 == a) both.1 both.0))
    (λ k. in_or_second ((pair.1 == b) && (pair.0 == a)) (is_pair (turned pairs) b a) (turned_pair pairs a b k)) h

pair_turned : (pairs : Pairs) (a b : ℕ) → IsTrue (is_pair (turned pairs) b a) → IsTrue (is_pair pairs a b)
pair_turned [] a b h = h
pair_turned (pair ∷ pairs) a b h =
    or_either ((pair.1 == b) && (pair.0 == a)) (is_pair (turned pairs) b a) (IsTrue (is_pair (pair ∷ pairs) a b))
    (λ k. let both = and_both (pair.1 == b) (pair.0 == a) k in in_or_first ((pair.0 == a) && (pair.1 == b)) (is_pair pairs a b) (both_and (pair.0 == a) (pair.1 == b) both.1 both.0))
    (λ k. in_or_second ((pair.0 == a) && (pair.1 == b)) (is_pair pairs a b) (pair_turned pairs a b k)) h

pub alike_turned : {C : Type 0} (p : Pairs) (s t : State C) → IsAlike p s t → IsAlike (turned p) t s
alike_turned p s t h = record {
  first_once = subst (λ ns. IsTrue (are_apart ns)) (sym (turned_firsts p)) h.second_once;
  second_once = subst (λ ns. IsTrue (are_apart ns)) (sym (turned_seconds p)) h.first_once;
  globals = globals_turned p (turned p) (turned_pair p) s.globals t.globals h.globals;
  objects = λ a b k. found_turned p (turned p) (turned_pair p) (object s b) (object t a) (h.objects b a (pair_turned p b a k));
}

-- ---- a state and itself

module _ {C : Type 0} (s : State C) where
  -- each number with itself
  abbrev own : Pairs
  own = pairs_below (λ n. n) (λ n. n) (length s.objects)

  within_list : (o : Option (Object C)) (id : ℕ) → slice_get s.objects id ≡ o → IsTrue (is_list o) → id < length s.objects
  within_list (Some o) id e h = slice_get_within s.objects id o e
  within_list None id e h = absurd (not_true h)

  within_dict : (o : Option (Object C)) (id : ℕ) → slice_get s.objects id ≡ o → IsTrue (is_dict o) → id < length s.objects
  within_dict (Some o) id e h = slice_get_within s.objects id o e
  within_dict None id e h = absurd (not_true h)

  within_function : (o : Option (Object C)) (id : ℕ) → slice_get s.objects id ≡ o → IsTrue (is_function o) → id < length s.objects
  within_function (Some o) id e h = slice_get_within s.objects id o e
  within_function None id e h = absurd (not_true h)

  abbrev Fitting : Value → Type 0
  Fitting v = IsTrue (fits s.objects v) → IsTrue (like own v v)

  abbrev Fit : Type 0
  Fit = (v : Value) × Fitting v

  abbrev bare_fit : Value-F Fit → Value-F Value
  bare_fit = map-Value Fit Value (λ e. e.0)

  items_own : (all : List Fit) → IsTrue (list_all (λ b. b) (map (fits s.objects) (map (λ e. e.0) all))) → IsTrue (all_hold (map (like own) (map (λ e. e.0) all)) (map (λ e. e.0) all))
  items_own [] h = refl
  items_own (e ∷ all) h = let both = and_both (fits s.objects e.0) _ h in both_and (like own e.0 e.0) _ (e.1 both.0) (items_own all both.1)

  layer_own : (y : Value-F Fit) → IsTrue (fits_step s.objects (map-Value Value Bool (fits s.objects) (bare_fit y))) → IsTrue (like_layer own (map-Value Value (Value → Bool) (like own) (bare_fit y)) (bare_fit y))
  layer_own Value-F.None h = refl
  layer_own (Value-F.Bool b) h = (booleans_Decides b b).1 refl
  layer_own (Value-F.Int z) h = (Decides-int_eq z z).1 refl
  layer_own (Value-F.Text t) h = (bytes_eq-Decides t t).1 refl
  layer_own (Value-F.Tuple all) h = items_own all h
  layer_own (Value-F.Range r) h = range_itself r
  layer_own (Value-F.List id) h = is_below (λ n. n) (λ n. n) (length s.objects) id (within_list (slice_get s.objects id) id refl h)
  layer_own (Value-F.Dict id) h = is_below (λ n. n) (λ n. n) (length s.objects) id (within_dict (slice_get s.objects id) id refl h)
  layer_own (Value-F.Function id) h = is_below (λ n. n) (λ n. n) (length s.objects) id (within_function (slice_get s.objects id) id refl h)
  layer_own (Value-F.Builtin which) h = (bytes_eq-Decides (builtin_name which) (builtin_name which)).1 refl

  rolled_own : (y : Value-F Fit) → Fitting (roll-Value (bare_fit y))
  unfolding fits
  rolled_own y h = subst IsTrue (sym (rolled_both own (bare_fit y) (bare_fit y))) (layer_own y (subst IsTrue (fold-roll-Value Bool (fits_step s.objects) (bare_fit y)) h))

  value_own : (v : Value) → Fitting v
  value_own = ind-Value Fitting (λ x y is. subst (λ z. Fitting (roll-Value z)) is (rolled_own y))

  list_own : (xs : List Value) → IsTrue (list_all (fits s.objects) xs) → IsTrue (like_items own xs xs)
  list_own [] h = refl
  list_own (x ∷ xs) h = let both = and_both (fits s.objects x) _ h in both_and (like own x x) _ (value_own x both.0) (list_own xs both.1)

  dict_own : (ps : List (Key × Value)) → IsTrue (list_all (all_in_pair (fits s.objects)) ps) → IsTrue (like_pairs own ps ps)
  dict_own [] h = refl
  dict_own (p ∷ ps) h =
      let both = and_both (all_in_pair (fits s.objects) p) _ h in
      let pair = and_both _ (fits s.objects p.1) both.0 in
      both_and (like_pair own p p) _ (both_and (same_key p.0 p.0) (like own p.1 p.1) ((same_key-Decides p.0 p.0).1 refl) (value_own p.1 pair.1)) (dict_own ps both.1)

  globals_own : (gs : List (List ℕ × Value)) → IsTrue (list_all (λ global. fits s.objects global.1) gs) → IsTrue (all_hold (map (like_global own) gs) gs)
  globals_own [] h = refl
  globals_own (g ∷ gs) h =
      let both = and_both (fits s.objects g.1) _ h in
      both_and (like_global own g g) _ (both_and (bytes_eq g.0 g.0) (like own g.1 g.1) ((bytes_eq-Decides g.0 g.0).1 refl) (value_own g.1 both.0)) (globals_own gs both.1)

  object_own : (o : Object C) → IsTrue (all_in_object (fits s.objects) o) → LikeObjects own o o
  object_own (AList xs) h = list_own xs h
  object_own (ADict ps) h = dict_own ps h
  object_own (AFunction c n xs) h = (refl, refl, list_own xs h)

  found_own : (os : List (Object C)) (n : ℕ) → n < length os → IsTrue (list_all (all_in_object (fits s.objects)) os) → LikeFound own (slice_get os n) (slice_get os n)
  found_own [] n l h = absurd (omega arith)
  found_own (o ∷ os) zero l h = object_own o (and_both (all_in_object (fits s.objects) o) _ h).0
  found_own (o ∷ os) (suc n) l h = found_own os n (omega arith) (and_both (all_in_object (fits s.objects) o) _ h).1

  pub alike_itself : IsTrue (all_in (fits s.objects) s) → IsAlike own s s
  unfolding object
  alike_itself h =
      let both = and_both (list_all (λ global. fits s.objects global.1) s.globals) (list_all (all_in_object (fits s.objects)) s.objects) h in
      record {
        first_once = firsts_apart (λ n. n) (λ n. n) (λ a b e. e) (length s.objects);
        second_once = seconds_apart (λ n. n) (λ n. n) (λ a b e. e) (length s.objects);
        globals = globals_own s.globals both.0;
        objects = λ a b k.
            let n = below_is (λ n. n) (λ n. n) (length s.objects) a b k in
            subst (λ x. LikeFound own (slice_get s.objects x) (slice_get s.objects b)) n.2 (subst (λ x. LikeFound own (slice_get s.objects n.0) (slice_get s.objects x)) n.3 (found_own s.objects n.0 n.1 both.1));
      }

-- ---- machine states

pub machines_turned : (m n : MachineState) → AlikeMachines m n → AlikeMachines n m
machines_turned m n h = record { ran = sym h.ran; state = (turned h.state.0, alike_turned h.state.0 m.state n.state h.state.1) }

pub machines_over : (m n o : MachineState) → AlikeMachines m n → AlikeMachines n o → AlikeMachines m o
machines_over m n o h k = record { ran = h.ran ∙ k.ran; state = (joined h.state.0 k.state.0, alike_over h.state.0 k.state.0 m.state n.state o.state h.state.1 k.state.1) }

pub machine_itself : (m : MachineState) → IsMachine m → AlikeMachines m m
machine_itself m h = record { ran = refl; state = (own m.state, alike_itself m.state h.references) }

pub alike_is_an_equivalence : AlikeIsAnEquivalence
alike_is_an_equivalence = record { itself = machine_itself; both_ways = machines_turned; over = machines_over }
