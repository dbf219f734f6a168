-- Comparing, truth, items and written forms are the same with other numbers of objects.
use Rattle.std.proofs.Common.{◌≡◌, ℕ, ℤ, zero, suc, ◌+◌, List, [], ◌∷◌, map, length, Bool, true, false, refl, sym, ap, subst, ◌∙◌}
use Rattle.std.proofs.lemmas.List.{length-map}
use Rattle.std.specs.Prelude.{Option, Some, None, option_map, ◌==◌, not, ◌&&◌, is_some, nat_lt, codes}
use Rattle.star_syntax.specs.declared.operator.CompareOp.{CompareOp}
use Rattle.star_syntax.specs.declared.operator.CompareOp.TheVariants as op
use Rattle.star_value.specs.declared.failure.Failure.{Failure}
use Rattle.star_value.specs.declared.failure.Failure.TheVariants as failure
use Rattle.star_value.specs.declared.key.Key.{Key}
use Rattle.star_value.specs.declared.value.Value.{Value, out-Value}
use Rattle.star_value.specs.declared.value.Value.TheOpen.{Value-F}
use Rattle.star_value.specs.declared.value.Value.TheVariants as value
use Rattle.star_value.specs.Keys as keys
use Rattle.star_value.specs.Weight.{depth, weight}
use Rattle.star_meaning.specs.State.{Object, AList, ADict, AFunction, State, object, function, function_held, list, dict, dict_get}
use Rattle.star_meaning.specs.Steps.{Action, ◌>>=◌, given_or, read}
use Rattle.star_meaning.specs.Values.{check_depth, integers_of, items_at, items_in, items_of, key_values, truth_at, is_true, is_empty, new_tuple, text_in, charge_items, charge_weight}
use Rattle.star_meaning.specs.Comparing.{Verdict, Same, Before, After, Apart, Test, onward, own_part, own_part_at, walk, walk_lists, same_if, same_value, walk_found, walk_pairs, walk_dicts, deeper, look, compared, equal, ordered_as, are_ordered, by_order, search_from, search_in, stop_or, within_list, key_in, within_dict, within_text, within_at, within, negated, compare}
use Rattle.star_meaning.specs.Showing.{Naming, Writing, made, ◌<+>◌, made_after, made_between, between, list_text, tuple_text, pair_text, dict_text, opened, function_name, function_text, quoted_at, quoted_in, quoted, shown_at, shown}
use Rattle.star_meaning.proofs.MovedValues.{Moving, by_out, by_two, depth_moved, key_moved, keys_moved, layer, moved, moved_int, moved_key, moved_tuple, object_to, pair_to, text_moved, weight_moved, weights_moved}
use Rattle.star_meaning.proofs.MovedLists.{empty_map, get_map, some_map}
use Rattle.star_meaning.proofs.Moved.{Acts, Within, act_charge, act_charge_is, act_dict, act_fail, act_given_or, act_if, act_list, act_pure, act_read, act_then, dict_moved, list_moved}

same_option : {A : Type 0} (o : Option A) → o ≡ option_map (λ a. a) o
same_option None = refl
same_option (Some a) = refl

module _ (mv : Moving) where
  lengths : {A : Type 0} (f : A → A) (xs ys : List A) → (length (map f xs) == length (map f ys)) ≡ (length xs == length ys)
  lengths f xs ys = λ j. length-map xs f j == length-map ys f j

  own_layers : (x y : Value-F Value) → own_part_at (layer mv x) (layer mv y) ≡ own_part_at x y
  own_layers (Value-F.Text a) (Value-F.Text b) = refl
  own_layers _ _ = refl

  own_moved : (a b : Value) → own_part (moved mv a) (moved mv b) ≡ own_part a b
  unfolding own_part
  own_moved a b = by_two mv (λ x y z w. own_part_at z w ≡ own_part_at x y) own_layers a b

  ordered_layers : (x y : Value-F Value) → are_ordered (layer mv x) (layer mv y) ≡ are_ordered x y
  ordered_layers (Value-F.Int a) (Value-F.Int b) = refl
  ordered_layers (Value-F.Text a) (Value-F.Text b) = refl
  ordered_layers (Value-F.Tuple a) (Value-F.Tuple b) = refl
  ordered_layers (Value-F.List a) (Value-F.List b) = refl
  ordered_layers _ _ = refl

  integers_moved : (zs : List ℤ) → map value.Int zs ≡ map (moved mv) (map value.Int zs)
  integers_moved [] = refl
  integers_moved (z ∷ zs) = λ j. sym (moved_int mv z) j ∷ integers_moved zs j

  pub depth_of_tuple : (items : List Value) → depth (value.Tuple (map (moved mv) items)) ≡ depth (value.Tuple items)
  depth_of_tuple items = ap depth (sym (moved_tuple mv items)) ∙ depth_moved mv (value.Tuple items)

module _ {C : Type 0} (mv : Moving) where
  -- the same result
  abbrev pub Acts_same : {A : Type 0} → Action C A → Action C A → Type 0
  Acts_same p q = Acts mv (λ a. a) p q

  pub act_charge_weight : (v : Value) → Acts_same (charge_weight v) (charge_weight (moved mv v))
  act_charge_weight v = act_charge_is mv (weight_moved mv v)

  pub act_charge_items : (xs : List Value) → Acts_same (charge_items xs) (charge_items (map (moved mv) xs))
  act_charge_items xs = act_charge_is mv (weights_moved mv xs)

  -- ---- comparing

  abbrev Tests : Test C → Type 0
  Tests t = (a b : Value) → Acts_same (t a b) (t (moved mv a) (moved mv b))

  act_onward : (p q : Action C Verdict) (v : Verdict) → Acts_same p q → Acts_same (onward p v) (onward q v)
  act_onward p q Same h = h
  act_onward p q Before h = act_pure mv refl
  act_onward p q After h = act_pure mv refl
  act_onward p q Apart h = act_pure mv refl

  act_walk : (t : Test C) → Tests t → (xs ys : List Value) → Acts_same (walk t xs ys) (walk t (map (moved mv) xs) (map (moved mv) ys))
  act_walk t h [] [] = act_pure mv refl
  act_walk t h [] (y ∷ ys) = act_pure mv refl
  act_walk t h (x ∷ xs) [] = act_pure mv refl
  act_walk t h (x ∷ xs) (y ∷ ys) = act_then mv _ (h x y) (λ v. act_onward _ _ v (act_walk t h xs ys))

  act_walk_lists : (l : Bool) (t : Test C) → Tests t → (xs ys : List Value) → Acts_same (walk_lists l t xs ys) (walk_lists l t (map (moved mv) xs) (map (moved mv) ys))
  act_walk_lists l t h xs ys = act_if mv (ap (λ b. l && not b) (lengths mv (moved mv) xs ys)) (act_pure mv refl) (act_walk t h xs ys)

  act_same_value : (p q : Action C Verdict) (v : Verdict) → Acts_same p q → Acts_same (same_value p v) (same_value q v)
  act_same_value p q Same h = h
  act_same_value p q Before h = act_pure mv refl
  act_same_value p q After h = act_pure mv refl
  act_same_value p q Apart h = act_pure mv refl

  act_walk_found : (t : Test C) → Tests t → (v : Value) (o : Option Value) (p q : Action C Verdict) → Acts_same p q → Acts_same (walk_found t v o p) (walk_found t (moved mv v) (option_map (moved mv) o) q)
  act_walk_found t h v None p q k = act_pure mv refl
  act_walk_found t h v (Some x) p q k = act_then mv _ (h v x) (λ y. act_same_value _ _ y k)

  act_walk_pairs : (t : Test C) → Tests t → (xs ys : List (Key × Value)) → Acts_same (walk_pairs t xs ys) (walk_pairs t (map (pair_to mv) xs) (map (pair_to mv) ys))
  act_walk_pairs t h [] ys = act_pure mv refl
  act_walk_pairs t h (x ∷ xs) ys =
      act_then mv _ (act_charge mv (weight (keys.value_of x.0))) (λ _.
      subst (λ o. Acts_same (walk_found t x.1 (dict_get ys x.0) (walk_pairs t xs ys)) (walk_found t (moved mv x.1) o (walk_pairs t (map (pair_to mv) xs) (map (pair_to mv) ys)))) (sym (get_map (moved mv) ys x.0))
      (act_walk_found t h x.1 (dict_get ys x.0) _ _ (act_walk_pairs t h xs ys)))

  act_walk_dicts : (t : Test C) → Tests t → (xs ys : List (Key × Value)) → Acts_same (walk_dicts t xs ys) (walk_dicts t (map (pair_to mv) xs) (map (pair_to mv) ys))
  act_walk_dicts t h xs ys = act_if mv (lengths mv (pair_to mv) xs ys) (act_walk_pairs t h xs ys) (act_pure mv refl)

  abbrev Inner : Option (Test C) → Type 0
  Inner None = Unit {0}
  Inner (Some t) = Tests t

  act_deeper : (i : Option (Test C)) (f g : Test C → Action C Verdict) → Inner i → ((t : Test C) → Tests t → Acts_same (f t) (g t)) → Acts_same (deeper i f) (deeper i g)
  act_deeper None f g h k = act_fail mv
  act_deeper (Some t) f g h k = k t h

  act_look : (l : Bool) (i : Option (Test C)) → Inner i → (x y : Value-F Value) → Acts_same (look l i x y) (look l i (layer mv x) (layer mv y))
  act_look l i h Value-F.None Value-F.None = act_pure mv refl
  act_look l i h (Value-F.Bool a) (Value-F.Bool b) = act_pure mv refl
  act_look l i h (Value-F.Int a) (Value-F.Int b) = act_pure mv refl
  act_look l i h (Value-F.Text a) (Value-F.Text b) = act_pure mv refl
  act_look l i h (Value-F.Tuple xs) (Value-F.Tuple ys) = act_deeper i _ _ h (λ t k. act_walk_lists l t k xs ys)
  act_look l i h (Value-F.Range a) (Value-F.Range b) = act_pure mv refl
  act_look l i h (Value-F.List a) (Value-F.List b) = act_then mv (λ xs. read (λ s. list s (mv.to b)) >>= (λ ys. deeper i (λ test. walk_lists l test xs ys))) (act_list mv a) (λ xs.
      act_then mv (λ ys. deeper i (λ test. walk_lists l test (map (moved mv) xs) ys)) (act_list mv b) (λ ys. act_deeper i _ _ h (λ t k. act_walk_lists l t k xs ys)))
  act_look l i h (Value-F.Dict a) (Value-F.Dict b) = act_then mv (λ xs. read (λ s. dict s (mv.to b)) >>= (λ ys. deeper i (λ test. walk_dicts test xs ys))) (act_dict mv a) (λ xs.
      act_then mv (λ ys. deeper i (λ test. walk_dicts test (map (pair_to mv) xs) ys)) (act_dict mv b) (λ ys. act_deeper i _ _ h (λ t k. act_walk_dicts t k xs ys)))
  act_look l i h (Value-F.Function a) (Value-F.Function b) = act_pure mv (ap same_if (mv.one a b))
  act_look l i h (Value-F.Builtin a) (Value-F.Builtin b) = act_pure mv refl
  act_look l i h _ _ = act_pure mv refl

  act_look_at : (l : Bool) (i : Option (Test C)) → Inner i → (a b : Value) → Acts_same (look l i (out-Value a) (out-Value b)) (look l i (out-Value (moved mv a)) (out-Value (moved mv b)))
  act_look_at l i h a b = by_two mv (λ x y z w. Acts_same (look l i x y) (look l i z w)) (act_look l i h) a b

  act_compared : (l : Bool) (n : ℕ) → Tests (compared l n)
  unfolding compared
  act_compared l zero a b = act_then mv _ (act_charge_is mv (own_moved mv a b)) (λ _. act_look_at l None tt a b)
  act_compared l (suc n) a b = act_then mv _ (act_charge_is mv (own_moved mv a b)) (λ _. act_look_at l (Some (compared l n)) (act_compared l n) a b)

  pub act_equal : (a b : Value) → Acts_same (equal a b) (equal (moved mv a) (moved mv b))
  unfolding equal
  act_equal a b = act_then mv _ (act_compared true 64 a b) (λ v. act_pure mv refl)

  act_ordered_as : (x y z : Bool) (v : Verdict) → Acts_same (ordered_as x y z v) (ordered_as x y z v)
  act_ordered_as x y z Before = act_pure mv refl
  act_ordered_as x y z Same = act_pure mv refl
  act_ordered_as x y z After = act_pure mv refl
  act_ordered_as x y z Apart = act_fail mv

  act_by_order : (x y z : Bool) (a b : Value) → Acts_same (by_order (ordered_as x y z) a b) (by_order (ordered_as x y z) (moved mv a) (moved mv b))
  unfolding by_order
  act_by_order x y z a b =
      act_if mv (by_two mv (λ k l m n. are_ordered m n ≡ are_ordered k l) (ordered_layers mv) a b) (act_then mv _ (act_compared false 64 a b) (act_ordered_as x y z)) (act_fail mv)

  act_stop_or : (b : Bool) (n : ℕ) (p q : Action C (Option ℕ)) → Acts_same p q → Acts_same (stop_or b n p) (stop_or b n q)
  act_stop_or true n p q h = act_pure mv refl
  act_stop_or false n p q h = h

  act_search_from : (n : ℕ) (x : Value) (xs : List Value) → Acts_same (search_from n x xs) (search_from n (moved mv x) (map (moved mv) xs))
  act_search_from n x [] = act_pure mv refl
  act_search_from n x (y ∷ ys) = act_then mv _ (act_equal x y) (λ b. act_stop_or b n _ _ (act_search_from (n + 1) x ys))

  pub act_search_in : (x : Value) (xs : List Value) → Acts_same (search_in x xs) (search_in (moved mv x) (map (moved mv) xs))
  unfolding search_in
  act_search_in x xs = act_search_from 0 x xs

  act_within_list : (x : Value) (xs : List Value) → Acts_same (within_list x xs) (within_list (moved mv x) (map (moved mv) xs))
  act_within_list x xs = act_then mv _ (act_search_in x xs) (λ o. act_pure mv refl)

  pub act_given : {A : Type 0} (e : Failure) {o p : Option A} → p ≡ o → Acts_same (given_or e o) (given_or e p)
  act_given e {o = o} h = act_given_or mv e o (h ∙ same_option o)

  pub act_key_in : (x : Value) → Acts_same (key_in x) (key_in (moved mv x))
  act_key_in x = act_given _ (key_moved mv x)

  act_within_dict : (x : Value) (id : ℕ) → Acts_same (within_dict x id) (within_dict (moved mv x) (mv.to id))
  act_within_dict x id =
      act_then mv _ (act_key_in x) (λ k. act_then mv _ (act_charge_weight x) (λ _. act_read mv (λ b. b) _ _ (λ s t i. ap (λ ps. is_some (dict_get ps k)) (dict_moved mv s t i id) ∙ ap is_some (get_map (moved mv) (dict s id) k) ∙ some_map (moved mv) (dict_get (dict s id) k))))

  act_within_text : (a b : List ℕ) → Acts_same (within_text a b) (within_text a b)
  act_within_text a b = act_then mv _ (act_charge mv _) (λ _. act_pure mv refl)

  act_within_at : (x : Value) (a b : Value-F Value) → Acts_same (within_at x a b) (within_at (moved mv x) (layer mv a) (layer mv b))
  act_within_at x _ (Value-F.List id) = act_then mv (within_list (moved mv x)) (act_list mv id) (act_within_list x)
  act_within_at x _ (Value-F.Tuple items) = act_within_list x items
  act_within_at x _ (Value-F.Dict id) = act_within_dict x id
  act_within_at x (Value-F.Int z) (Value-F.Range r) = act_pure mv refl
  act_within_at x (Value-F.Text a) (Value-F.Text b) = act_within_text a b
  act_within_at x _ _ = act_fail mv

  act_within : (x y : Value) → Acts_same (within x y) (within (moved mv x) (moved mv y))
  unfolding within
  act_within x y = by_two mv (λ a b c d. Acts_same (within_at x a b) (within_at (moved mv x) c d)) (act_within_at x) x y

  act_negated : (p q : Action C Bool) → Acts_same p q → Acts_same (negated p) (negated q)
  act_negated p q h = act_then mv _ h (λ b. act_pure mv refl)

  pub act_compare : (o : CompareOp) (x y : Value) → Acts_same (compare o x y) (compare o (moved mv x) (moved mv y))
  unfolding compare
  act_compare op.Equal x y = act_equal x y
  act_compare op.NotEqual x y = act_negated _ _ (act_equal x y)
  act_compare op.Less x y = act_by_order true false false x y
  act_compare op.Greater x y = act_by_order false false true x y
  act_compare op.AtMost x y = act_by_order true true false x y
  act_compare op.AtLeast x y = act_by_order false true true x y
  act_compare op.Within x y = act_within x y
  act_compare op.NotWithin x y = act_negated _ _ (act_within x y)

  -- ---- truth and items

  truth_layer : (s t : State C) → Within mv s t → (x : Value-F Value) → truth_at t (layer mv x) ≡ truth_at s x
  truth_layer s t i (Value-F.List id) = ap (λ items. not (is_empty items)) (list_moved mv s t i id) ∙ ap not (empty_map (moved mv) (list s id))
  truth_layer s t i (Value-F.Dict id) = ap (λ pairs. not (is_empty pairs)) (dict_moved mv s t i id) ∙ ap not (empty_map (pair_to mv) (dict s id))
  truth_layer s t i (Value-F.Tuple items) = ap not (empty_map (moved mv) items)
  truth_layer s t i _ = refl

  pub truth_moved : (s t : State C) → Within mv s t → (v : Value) → is_true t (moved mv v) ≡ is_true s v
  unfolding is_true
  truth_moved s t i v = by_out mv (λ x y. truth_at t y ≡ truth_at s x) (truth_layer s t i) v

  items_layer : (s t : State C) → Within mv s t → (x : Value-F Value) → items_at t (layer mv x) ≡ option_map (map (moved mv)) (items_at s x)
  items_layer s t i (Value-F.List id) = ap Some (list_moved mv s t i id)
  items_layer s t i (Value-F.Dict id) = ap (λ pairs. Some (key_values pairs)) (dict_moved mv s t i id) ∙ ap Some (keys_moved mv (dict s id))
  items_layer s t i (Value-F.Range r) = ap Some (integers_moved mv (integers_of r))
  items_layer s t i _ = refl

  pub act_items_of : (v : Value) → Acts {C = C} mv (map (moved mv)) (items_of v) (items_of (moved mv v))
  unfolding items_of items_in
  act_items_of v =
      act_then mv (given_or failure.WrongType) (act_read mv (option_map (map (moved mv))) _ _ (λ s t i. by_out mv (λ x y. items_at t y ≡ option_map (map (moved mv)) (items_at s x)) (items_layer s t i) v)) (λ o. act_given_or mv _ _ refl)

  pub act_check_depth : (v w : Value) → depth w ≡ depth v → Acts_same (check_depth v) (check_depth w)
  act_check_depth v w h = act_if mv (ap (nat_lt 64) h) (act_fail mv) (act_pure mv refl)

  pub act_new_tuple : (items : List Value) → Acts {C = C} mv (moved mv) (new_tuple items) (new_tuple (map (moved mv) items))
  unfolding new_tuple
  act_new_tuple items = act_then mv _ (act_check_depth (value.Tuple items) (value.Tuple (map (moved mv) items)) (depth_of_tuple mv items)) (λ _. act_pure mv (sym (moved_tuple mv items)))

  -- ---- written forms

  pub act_made : (text : List ℕ) → Acts_same (made text) (made text)
  unfolding made
  act_made text = act_then mv _ (act_charge mv _) (λ _. act_pure mv refl)

  pub act_joined : {p x q y : Action C (List ℕ)} → Acts_same p q → Acts_same x y → Acts_same (p <+> x) (q <+> y)
  act_joined h k = act_then mv _ h (λ a. act_then mv _ k (λ b. act_pure mv refl))

  module _ {X : Type 0} (by : List ℕ) (f : X → Action C (List ℕ)) (g : X → X) (h : (x : X) → Acts_same (f x) (f (g x))) where
    act_made_after : (xs : List X) → Acts_same (made_after by (map f xs)) (made_after by (map f (map g xs)))
    act_made_after [] = act_pure mv refl
    act_made_after (x ∷ xs) = act_joined (act_joined (act_made by) (h x)) (act_made_after xs)

    pub act_made_between : (xs : List X) → Acts_same (made_between by (map f xs)) (made_between by (map f (map g xs)))
    act_made_between [] = act_pure mv refl
    act_made_between (x ∷ xs) = act_joined (h x) (act_made_after xs)

  act_between : (a b : List ℕ) (p q : Action C (List ℕ)) → Acts_same p q → Acts_same (between a b p) (between a b q)
  act_between a b p q h = act_joined (act_joined (act_made a) h) (act_made b)

  abbrev Writes : Writing C → Type 0
  Writes f = (v : Value) → Acts_same (f v) (f (moved mv v))

  module _ (f : Writing C) (h : Writes f) where
    act_list_text : (items : List Value) → Acts_same (list_text items f) (list_text (map (moved mv) items) f)
    act_list_text items = act_between _ _ _ _ (act_made_between (codes ", ") f (moved mv) h items)

    act_tuple_text : (items : List Value) → Acts_same (tuple_text items f) (tuple_text (map (moved mv) items) f)
    act_tuple_text [] = act_between _ _ _ _ (act_made_between (codes ", ") f (moved mv) h [])
    act_tuple_text (x ∷ []) = act_between _ _ _ _ (h x)
    act_tuple_text (x ∷ y ∷ more) = act_between _ _ _ _ (act_made_between (codes ", ") f (moved mv) h (x ∷ y ∷ more))

    act_key_text : (k : Key) → Acts_same (f (keys.value_of k)) (f (keys.value_of k))
    act_key_text k = subst (λ v. Acts_same (f (keys.value_of k)) (f v)) (moved_key mv k) (h (keys.value_of k))

    act_pair_text : (pair : Key × Value) → Acts_same (pair_text f pair) (pair_text f (pair_to mv pair))
    act_pair_text pair = act_joined (act_joined (act_key_text pair.0) (act_made _)) (h pair.1)

    act_dict_text : (pairs : List (Key × Value)) → Acts_same (dict_text pairs f) (dict_text (map (pair_to mv) pairs) f)
    act_dict_text pairs = act_between _ _ _ _ (act_made_between (codes ", ") (pair_text f) (pair_to mv) act_pair_text pairs)

  abbrev InnerWriting : Option (Writing C) → Type 0
  InnerWriting None = Unit {0}
  InnerWriting (Some f) = Writes f

  act_opened : (i : Option (Writing C)) (p q : Writing C → Action C (List ℕ)) → InnerWriting i → ((f : Writing C) → Writes f → Acts_same (p f) (q f)) → Acts_same (opened i p) (opened i q)
  act_opened None p q h k = act_fail mv
  act_opened (Some f) p q h k = k f h

  -- a function's cell and number stay
  abbrev pub parts_to : C × ℕ × List Value → C × ℕ × List Value
  parts_to parts = (parts.0, parts.1, map (moved mv) parts.2)

  held_function : (o : Option (Object C)) → function_held (option_map (object_to mv) o) ≡ option_map parts_to (function_held o)
  held_function None = refl
  held_function (Some (AList items)) = refl
  held_function (Some (ADict pairs)) = refl
  held_function (Some (AFunction cell number defaults)) = refl

  pub function_moved : (s t : State C) → Within mv s t → (id : ℕ) → function t (mv.to id) ≡ option_map parts_to (function s id)
  unfolding function
  function_moved s t i id = ap function_held (i.objects id) ∙ held_function (object s id)

  module _ (naming : Naming C) where
    same_name : (o : Option (C × ℕ × List Value)) → function_name naming (option_map parts_to o) ≡ function_name naming o
    same_name None = refl
    same_name (Some parts) = refl

    act_function : (o : Option (C × ℕ × List Value)) → Acts_same (made (function_text (function_name naming o))) (made (function_text (function_name naming (option_map parts_to o))))
    act_function o = subst (λ n. Acts_same (made (function_text (function_name naming o))) (made (function_text n))) (sym (same_name o)) (act_made _)

    act_quoted_at : (i : Option (Writing C)) → InnerWriting i → (x : Value-F Value) → Acts_same (quoted_at naming i x) (quoted_at naming i (layer mv x))
    act_quoted_at i h Value-F.None = act_made _
    act_quoted_at i h (Value-F.Bool true) = act_made _
    act_quoted_at i h (Value-F.Bool false) = act_made _
    act_quoted_at i h (Value-F.Int z) = act_made _
    act_quoted_at i h (Value-F.Text points) = act_made _
    act_quoted_at i h (Value-F.Tuple items) = act_opened i _ _ h (λ f k. act_tuple_text f k items)
    act_quoted_at i h (Value-F.Range r) = act_made _
    act_quoted_at i h (Value-F.List id) = act_then mv (λ items. opened i (list_text items)) (act_list mv id) (λ items. act_opened i _ _ h (λ f k. act_list_text f k items))
    act_quoted_at i h (Value-F.Dict id) = act_then mv (λ pairs. opened i (dict_text pairs)) (act_dict mv id) (λ pairs. act_opened i _ _ h (λ f k. act_dict_text f k pairs))
    act_quoted_at i h (Value-F.Function id) = act_then mv (λ parts. made (function_text (function_name naming parts))) (act_read mv (option_map parts_to) _ _ (λ s t w. function_moved s t w id)) act_function
    act_quoted_at i h (Value-F.Builtin which) = act_made _

    act_quoted_in : (n : ℕ) → Writes (quoted_in naming n)
    unfolding quoted_in
    act_quoted_in zero v = by_out mv (λ x y. Acts_same (quoted_at naming None x) (quoted_at naming None y)) (act_quoted_at None tt) v
    act_quoted_in (suc n) v =
        by_out mv (λ x y. Acts_same (quoted_at naming (Some (quoted_in naming n)) x) (quoted_at naming (Some (quoted_in naming n)) y)) (act_quoted_at (Some (quoted_in naming n)) (act_quoted_in n)) v

    pub act_quoted : (v : Value) → Acts_same (quoted naming v) (quoted naming (moved mv v))
    unfolding quoted
    act_quoted v = act_quoted_in 64 v

    act_shown_at : (o : Option (List ℕ)) (p q : Action C (List ℕ)) → Acts_same p q → Acts_same (shown_at o p) (shown_at o q)
    act_shown_at (Some points) p q h = act_made points
    act_shown_at None p q h = h

    pub act_shown : (v : Value) → Acts_same (shown naming v) (shown naming (moved mv v))
    unfolding shown
    act_shown v =
        subst (λ o. Acts_same (shown_at (text_in v) (quoted naming v)) (shown_at o (quoted naming (moved mv v)))) (sym (text_moved mv v)) (act_shown_at (text_in v) _ _ (act_quoted v))
