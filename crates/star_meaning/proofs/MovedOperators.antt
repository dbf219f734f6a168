-- The operators do the same with other numbers of objects.
use Rattle.std.proofs.Common.{◌≡◌, ℕ, ℤ, pos, List, [], ◌∷◌, ◌++◌, map, length, refl, sym, ap, subst, ◌∙◌}
use Rattle.std.proofs.lemmas.List.{length-map, map-append}
use Rattle.std.specs.Int.{int_bit_and, int_bit_or, int_bit_xor, w128}
use Rattle.std.specs.List.{repeat}
use Rattle.std.specs.Prelude.{◌-ℤ◌, Option, Some, None, option_map, slice_set, ◌==◌, not, ◌&&◌, unwrap_or, is_some}
use Rattle.star_syntax.specs.declared.operator.BinaryOp.{BinaryOp}
use Rattle.star_syntax.specs.declared.operator.BinaryOp.TheVariants as op
use Rattle.star_syntax.specs.declared.operator.UnaryOp.{UnaryOp}
use Rattle.star_syntax.specs.declared.operator.UnaryOp.TheVariants as sign
use Rattle.star_value.specs.declared.failure.Failure.TheVariants as failure
use Rattle.star_value.specs.declared.format.Part.{Part}
use Rattle.star_value.specs.declared.format.Part.TheVariants as part
use Rattle.star_value.specs.declared.key.Key.{Key}
use Rattle.star_value.specs.declared.value.Value.{Value, out-Value}
use Rattle.star_value.specs.declared.value.Value.TheOpen.{Value-F}
use Rattle.star_value.specs.declared.value.Value.TheVariants as value
use Rattle.star_value.specs.Format.{parts_of}
use Rattle.star_meaning.specs.State.{list, dict, dict_get, dict_put, with_list}
use Rattle.star_meaning.specs.Steps.{Action, change, given_or, pure, read, ◌>>=◌}
use Rattle.star_meaning.specs.Values.{in_range, integer, times, floor_of, rest_of, place_of, int_in, range_item}
use Rattle.star_meaning.specs.Showing.{Naming}
use Rattle.star_meaning.specs.Operators.{bound, bound_at, add_at, added_in_place, augmented, binary, Bounds, charged_list, check_sliced, decimal_text, decimals_fit, divided, extend, filled, formatted_parts, index, index_at, is_sliced, item_at, joined_lists, modulo_at, multiply_at, on_ints, repeated_list, slice, slice_at, stepped, store, store_at, store_item, store_key, taken, unary, unpacked, unpacked_at, value_at_key, values_for, values_taken}
use Rattle.star_meaning.proofs.MovedValues.{Moving, by_out, by_two, int_moved, layer, moved, moved_int, moved_text, moved_tuple}
use Rattle.star_meaning.proofs.MovedLists.{get_map, item_map, put_map, repeat_map, set_map, taken_map}
use Rattle.star_meaning.proofs.Moved.{Acts, act_fail, act_given_or, act_if, act_list, act_new_list, act_pure, act_read, act_then, act_unlocked, act_with_dict, act_with_list, dict_moved}
use Rattle.star_meaning.proofs.MovedComparing.{Acts_same, act_charge_items, act_charge_weight, act_given, act_items_of, act_joined, act_key_in, act_quoted, act_shown}

module _ (mv : Moving) where
  ints_moved : {A : Type 0} (f : A → ℤ) (o : Option A) → option_map (λ a. value.Int (f a)) o ≡ option_map (moved mv) (option_map (λ a. value.Int (f a)) o)
  ints_moved f None = refl
  ints_moved f (Some a) = ap Some (sym (moved_int mv (f a)))

  appended : (xs ys : List Value) → map (moved mv) xs ++ map (moved mv) ys ≡ map (moved mv) (xs ++ ys)
  appended xs ys = sym (map-append (moved mv) xs ys)

  bound_layer : (x : Value-F Value) → bound_at (layer mv x) ≡ bound_at x
  bound_layer (Value-F.Int z) = refl
  bound_layer _ = refl

  bound_moved : (o : Option Value) → bound (option_map (moved mv) o) ≡ bound o
  bound_moved None = refl
  bound_moved (Some v) = by_out mv (λ x y. bound_at y ≡ bound_at x) bound_layer v

  abbrev pub bounds_to : Bounds → Bounds
  bounds_to bounds = record { start = option_map (moved mv) bounds.start; stop = option_map (moved mv) bounds.stop; step = option_map (moved mv) bounds.step }

  sliced_layer : (x : Value-F Value) → is_sliced (layer mv x) ≡ is_sliced x
  sliced_layer (Value-F.Int z) = refl
  sliced_layer _ = refl

  int_some : (v : Value) → is_some (int_in (moved mv v)) ≡ is_some (int_in v)
  int_some v = ap is_some (int_moved mv v)

  decimals_moved : (ps : List Part) (vs : List Value) → decimals_fit ps (map (moved mv) vs) ≡ decimals_fit ps vs
  decimals_moved [] vs = refl
  decimals_moved (part.Plain text ∷ ps) [] = decimals_moved ps []
  decimals_moved (part.Plain text ∷ ps) (v ∷ vs) = decimals_moved ps (v ∷ vs)
  decimals_moved (part.Shown ∷ ps) (v ∷ vs) = decimals_moved ps vs
  decimals_moved (part.Quoted ∷ ps) (v ∷ vs) = decimals_moved ps vs
  decimals_moved (part.Decimal ∷ ps) (v ∷ vs) = λ j. int_some v j && decimals_moved ps vs j
  decimals_moved (part.Shown ∷ ps) [] = refl
  decimals_moved (part.Quoted ∷ ps) [] = refl
  decimals_moved (part.Decimal ∷ ps) [] = refl

  values_layer : (y : Value) (x : Value-F Value) → values_for (layer mv x) (moved mv y) ≡ map (moved mv) (values_for x y)
  values_layer y (Value-F.Int z) = refl
  values_layer y _ = refl

module _ {C : Type 0} (mv : Moving) where
  abbrev pub Acts_value : Action C Value → Action C Value → Type 0
  Acts_value p q = Acts {C = C} mv (moved mv) p q

  pub act_integer : (z : ℤ) → Acts_value (integer z) (integer z)
  act_integer z = act_given_or mv _ _ (ints_moved mv (λ x. x) (in_range z))

  pub act_text : (t : List ℕ) → Acts_value (pure (value.Text t)) (pure (value.Text t))
  act_text t = act_pure mv (sym (moved_text mv t))

  pub act_int : (z : ℤ) → Acts_value (pure (value.Int z)) (pure (value.Int z))
  act_int z = act_pure mv (sym (moved_int mv z))

  pub act_tuple : (xs : List Value) {ys : List Value} → ys ≡ map (moved mv) xs → Acts_value (pure (value.Tuple xs)) (pure (value.Tuple ys))
  act_tuple xs e = act_pure mv (ap value.Tuple e ∙ sym (moved_tuple mv xs))

  pub act_charged_list : (xs ys : List Value) → ys ≡ map (moved mv) xs → Acts_value (charged_list xs) (charged_list ys)
  act_charged_list xs ys e = subst (λ zs. Acts_value (charged_list xs) (charged_list zs)) (sym e) (act_then mv _ (act_charge_items mv xs) (λ _. act_new_list mv xs refl))

  act_joined_lists : (a b : ℕ) → Acts_value (joined_lists a b) (joined_lists (mv.to a) (mv.to b))
  act_joined_lists a b =
      act_then mv (λ xs. read (λ s. list s (mv.to b)) >>= (λ ys. charged_list (xs ++ ys))) (act_list mv a) (λ xs. act_then mv (λ ys. charged_list (map (moved mv) xs ++ ys)) (act_list mv b) (λ ys. act_charged_list (xs ++ ys) _ (appended mv xs ys)))

  act_add_at : (x y : Value-F Value) → Acts_value (add_at x y) (add_at (layer mv x) (layer mv y))
  act_add_at (Value-F.Int x) (Value-F.Int y) = act_integer _
  act_add_at (Value-F.Text x) (Value-F.Text y) = act_text _
  act_add_at (Value-F.Tuple x) (Value-F.Tuple y) = act_tuple _ (appended mv x y)
  act_add_at (Value-F.List a) (Value-F.List b) = act_joined_lists a b
  act_add_at _ _ = act_fail mv

  act_on_ints : (f : ℤ → ℤ → Action C Value) → ((a b : ℤ) → Acts_value (f a b) (f a b)) → (x y : Value-F Value) → Acts_value (on_ints f x y) (on_ints f (layer mv x) (layer mv y))
  act_on_ints f h (Value-F.Int x) (Value-F.Int y) = h x y
  act_on_ints f h _ _ = act_fail mv

  act_repeated_list : (z : ℤ) (id : ℕ) → Acts_value (repeated_list z id) (repeated_list z (mv.to id))
  act_repeated_list z id = act_then mv (λ xs. charged_list (repeat (times z) xs)) (act_list mv id) (λ xs. act_charged_list (repeat (times z) xs) _ (repeat_map (moved mv) (times z) xs))

  act_multiply_at : (x y : Value-F Value) → Acts_value (multiply_at x y) (multiply_at (layer mv x) (layer mv y))
  act_multiply_at (Value-F.Int x) (Value-F.Int y) = act_integer _
  act_multiply_at (Value-F.Text x) (Value-F.Int z) = act_text _
  act_multiply_at (Value-F.Int z) (Value-F.Text x) = act_text _
  act_multiply_at (Value-F.Tuple x) (Value-F.Int z) = act_tuple _ (repeat_map (moved mv) (times z) x)
  act_multiply_at (Value-F.Int z) (Value-F.Tuple x) = act_tuple _ (repeat_map (moved mv) (times z) x)
  act_multiply_at (Value-F.List id) (Value-F.Int z) = act_repeated_list z id
  act_multiply_at (Value-F.Int z) (Value-F.List id) = act_repeated_list z id
  act_multiply_at _ _ = act_fail mv

  act_divided : (f : ℤ → ℤ → ℤ) (x y : ℤ) → Acts_value (divided f x y) (divided f x y)
  act_divided f x y = act_if mv refl (act_fail mv) (act_integer _)

  pub act_unary : (s : UnaryOp) (x : Value) → Acts_value (unary s x) (unary s (moved mv x))
  unfolding unary
  act_unary sign.Plus x = act_then mv _ (act_given mv failure.WrongType (int_moved mv x)) (λ z. act_integer _)
  act_unary sign.Minus x = act_then mv _ (act_given mv failure.WrongType (int_moved mv x)) (λ z. act_integer _)
  act_unary sign.Invert x = act_then mv _ (act_given mv failure.WrongType (int_moved mv x)) (λ z. act_integer _)

  -- ---- index and slice

  pub act_item_at : (xs : List Value) (z : ℤ) → Acts_value (item_at xs z) (item_at (map (moved mv) xs) z)
  act_item_at xs z = act_given_or mv _ _ (item_map (moved mv) xs z)

  act_item_same : {A : Type 0} (xs : List A) (z : ℤ) → Acts_same {C = C} mv (item_at xs z) (item_at xs z)
  act_item_same xs z = act_given mv _ refl

  pub act_lookup : (id : ℕ) (key : Key) → Acts {C = C} mv (option_map (moved mv)) (read (λ s. dict_get (dict s id) key)) (read (λ s. dict_get (dict s (mv.to id)) key))
  act_lookup id key = act_read mv (option_map (moved mv)) _ _ (λ s t i. ap (λ ps. dict_get ps key) (dict_moved mv s t i id) ∙ get_map (moved mv) (dict s id) key)

  act_value_at_key : (id : ℕ) (at : Value) → Acts_value (value_at_key id at) (value_at_key (mv.to id) (moved mv at))
  act_value_at_key id at =
      act_then mv _ (act_key_in mv at) (λ key. act_then mv _ (act_then mv (given_or failure.NoKey) (act_lookup id key) (λ o. act_given_or mv _ _ refl)) (λ v. act_then mv _ (act_charge_weight mv at) (λ _. act_pure mv refl)))

  act_index_at : (x : Value-F Value) (at : Value) (y : Value-F Value) → Acts_value (index_at x at y) (index_at (layer mv x) (moved mv at) (layer mv y))
  act_index_at (Value-F.Dict id) at _ = act_value_at_key id at
  act_index_at (Value-F.List id) at (Value-F.Int z) = act_then mv (λ items. item_at items z) (act_list mv id) (λ items. act_item_at items z)
  act_index_at (Value-F.Tuple items) at (Value-F.Int z) = act_item_at items z
  act_index_at (Value-F.Text points) at (Value-F.Int z) = act_then mv _ (act_item_same points z) (λ c. act_text _)
  act_index_at (Value-F.Range r) at (Value-F.Int z) = act_given_or mv _ _ (ints_moved mv (range_item r) _)
  act_index_at _ at _ = act_fail mv

  pub act_index : (x at : Value) → Acts_value (index x at) (index (moved mv x) (moved mv at))
  unfolding index
  act_index x at = by_two mv (λ a b c d. Acts_value (index_at a at b) (index_at c (moved mv at) d)) (λ a b. act_index_at a at b) x at

  act_slice_at : (i j : Option ℤ) (k : ℤ) (x : Value-F Value) → Acts_value (slice_at x i j k) (slice_at (layer mv x) i j k)
  act_slice_at i j k (Value-F.List id) = act_then mv (λ items. charged_list (taken items i j k)) (act_list mv id) (λ items. act_charged_list (taken items i j k) _ (taken_map (moved mv) items i j k))
  act_slice_at i j k (Value-F.Tuple items) = act_tuple _ (taken_map (moved mv) items i j k)
  act_slice_at i j k (Value-F.Text points) = act_text _
  act_slice_at i j k _ = act_fail mv

  act_check_sliced : (v : Value) → Acts_same {C = C} mv (check_sliced (out-Value v)) (check_sliced (out-Value (moved mv v)))
  act_check_sliced v = act_if mv (by_out mv (λ x y. is_sliced y ≡ is_sliced x) (sliced_layer mv) v) (act_pure mv refl) (act_fail mv)

  act_stepped : (v : Value) (i j : Option ℤ) (k : ℤ) → Acts_value (stepped (out-Value v) i j k) (stepped (out-Value (moved mv v)) i j k)
  act_stepped v i j k = act_if mv refl (act_fail mv) (by_out mv (λ x y. Acts_value (slice_at x i j k) (slice_at y i j k)) (act_slice_at i j k) v)

  pub act_slice : (x : Value) (bounds : Bounds) → Acts_value (slice x bounds) (slice (moved mv x) (bounds_to mv bounds))
  unfolding slice
  act_slice x bounds =
      act_then mv _ (act_check_sliced x) (λ _. act_then mv _ (act_given mv failure.WrongType (bound_moved mv bounds.start)) (λ i. act_then mv _ (act_given mv failure.WrongType (bound_moved mv bounds.stop)) (λ j.
      act_then mv _ (act_given mv failure.WrongType (bound_moved mv bounds.step)) (λ k. act_stepped x i j (unwrap_or k (pos 1))))))

  -- ---- changes

  module _ (locked : List ℕ) where
    act_store_item : (id : ℕ) (z : ℤ) (v : Value) → Acts_same {C = C} mv (store_item locked id z v) (store_item (map mv.to locked) (mv.to id) z (moved mv v))
    act_store_item id z v =
        act_then mv _ (act_unlocked mv locked id) (λ _. act_then mv (λ items. given_or failure.BadIndex (place_of z (length items)) >>= (λ place. change (λ s. with_list s (mv.to id) (slice_set items place (moved mv v))))) (act_list mv id) (λ items.
        act_then mv _ (act_given mv failure.BadIndex (ap (place_of z) (length-map items (moved mv))))
        (λ place. act_with_list mv id (λ _. slice_set items place v) (λ _. slice_set (map (moved mv) items) place (moved mv v)) (λ _. sym (set_map (moved mv) items place v)))))

    act_store_key : (id : ℕ) (at v : Value) → Acts_same {C = C} mv (store_key locked id at v) (store_key (map mv.to locked) (mv.to id) (moved mv at) (moved mv v))
    act_store_key id at v =
        act_then mv _ (act_key_in mv at) (λ key. act_then mv _ (act_unlocked mv locked id) (λ _. act_then mv _ (act_charge_weight mv at) (λ _.
        act_with_dict mv id (λ pairs. dict_put pairs key v) (λ pairs. dict_put pairs key (moved mv v)) (λ pairs. put_map (moved mv) pairs key v))))

    act_store_at : (x : Value-F Value) (at : Value) (y : Value-F Value) (v : Value) → Acts_same {C = C} mv (store_at locked x at y v) (store_at (map mv.to locked) (layer mv x) (moved mv at) (layer mv y) (moved mv v))
    act_store_at (Value-F.Dict id) at _ v = act_store_key id at v
    act_store_at (Value-F.List id) at (Value-F.Int z) v = act_store_item id z v
    act_store_at _ at _ v = act_fail mv

    pub act_store : (x at v : Value) → Acts_same {C = C} mv (store locked x at v) (store (map mv.to locked) (moved mv x) (moved mv at) (moved mv v))
    unfolding store
    act_store x at v = by_two mv (λ a b c d. Acts_same {C = C} mv (store_at locked a at b v) (store_at (map mv.to locked) c (moved mv at) d (moved mv v))) (λ a b. act_store_at a at b v) x at

    pub act_extend : (id : ℕ) (v : Value) → Acts_same {C = C} mv (extend locked id v) (extend (map mv.to locked) (mv.to id) (moved mv v))
    unfolding extend
    act_extend id v =
        act_then mv _ (act_items_of mv v) (λ more. act_then mv _ (act_unlocked mv locked id) (λ _. act_then mv _ (act_charge_items mv more) (λ _.
        act_with_list mv id (λ items. items ++ more) (λ items. items ++ map (moved mv) more) (λ items. (appended mv) items more))))

  act_unpacked_at : (x : Value-F Value) → Acts {C = C} mv (map (moved mv)) (unpacked_at x) (unpacked_at (layer mv x))
  act_unpacked_at (Value-F.List id) = act_list mv _
  act_unpacked_at (Value-F.Tuple items) = act_pure mv refl
  act_unpacked_at _ = act_fail mv

  pub act_unpacked : (n : ℕ) (v : Value) → Acts {C = C} mv (map (moved mv)) (unpacked n v) (unpacked n (moved mv v))
  unfolding unpacked
  act_unpacked n v =
      act_then mv _ (by_out mv (λ x y. Acts {C = C} mv (map (moved mv)) (unpacked_at x) (unpacked_at y)) act_unpacked_at v)
      (λ items. act_then mv _ (act_charge_items mv items) (λ _. act_if mv (ap (λ k. k == n) (length-map items (moved mv))) (act_pure mv refl) (act_fail mv)))

  -- ---- the table

  module _ (naming : Naming C) where
    act_filled : (ps : List Part) (vs : List Value) → Acts_same {C = C} mv (filled naming ps vs) (filled naming ps (map (moved mv) vs))
    act_filled [] vs = act_pure mv refl
    act_filled (part.Plain text ∷ ps) [] = act_joined mv (act_pure mv {a = text} {b = text} refl) (act_filled ps [])
    act_filled (part.Plain text ∷ ps) (v ∷ vs) = act_joined mv (act_pure mv {a = text} {b = text} refl) (act_filled ps (v ∷ vs))
    act_filled (part.Shown ∷ ps) (v ∷ vs) = act_joined mv (act_shown mv naming v) (act_filled ps vs)
    act_filled (part.Quoted ∷ ps) (v ∷ vs) = act_joined mv (act_quoted mv naming v) (act_filled ps vs)
    act_filled (part.Decimal ∷ ps) (v ∷ vs) = act_joined mv (act_pure mv {a = decimal_text (int_in v)} {b = decimal_text (int_in (moved mv v))} (ap decimal_text (int_moved mv v))) (act_filled ps vs)
    act_filled (part.Shown ∷ ps) [] = act_pure mv refl
    act_filled (part.Quoted ∷ ps) [] = act_pure mv refl
    act_filled (part.Decimal ∷ ps) [] = act_pure mv refl

    act_formatted_parts : (ps : List Part) (vs : List Value) → Acts_value (formatted_parts naming ps vs) (formatted_parts naming ps (map (moved mv) vs))
    act_formatted_parts ps vs =
        act_if mv (ap (λ n. not (values_taken ps == n)) (length-map vs (moved mv))) (act_fail mv)
        (act_if mv (decimals_moved mv ps vs) (act_then mv _ (act_filled ps vs) (λ text. act_text _)) (act_fail mv))

    act_formatted : (y : Value) (ps : List Part) → Acts_value (formatted_parts naming ps (values_for (out-Value y) y)) (formatted_parts naming ps (values_for (out-Value (moved mv y)) (moved mv y)))
    act_formatted y ps =
        subst (λ vs. Acts_value (formatted_parts naming ps (values_for (out-Value y) y)) (formatted_parts naming ps vs))
        (sym (by_out mv (λ a b. values_for b (moved mv y) ≡ map (moved mv) (values_for a y)) (values_layer mv y) y)) (act_formatted_parts ps (values_for (out-Value y) y))

    act_modulo_at : (y : Value) (x : Value-F Value) → Acts_value (modulo_at naming x y) (modulo_at naming (layer mv x) (moved mv y))
    act_modulo_at y (Value-F.Text text) = act_then mv _ (act_given mv failure.BadText {o = parts_of text} {p = parts_of text} refl) (act_formatted y)
    act_modulo_at y (Value-F.Int z) = by_out mv (λ a b. Acts_value (on_ints (divided rest_of) (Value-F.Int z) a) (on_ints (divided rest_of) (Value-F.Int z) b)) (act_on_ints (divided rest_of) (act_divided rest_of) (Value-F.Int z)) y
    act_modulo_at y _ = act_fail mv

    act_ints : (f : ℤ → ℤ → Action C Value) → ((a b : ℤ) → Acts_value (f a b) (f a b)) → (x y : Value) → Acts_value (on_ints f (out-Value x) (out-Value y)) (on_ints f (out-Value (moved mv x)) (out-Value (moved mv y)))
    act_ints f h x y = by_two mv (λ a b c d. Acts_value (on_ints f a b) (on_ints f c d)) (act_on_ints f h) x y

    pub act_binary : (o : BinaryOp) (x y : Value) → Acts_value (binary naming o x y) (binary naming o (moved mv x) (moved mv y))
    unfolding binary
    act_binary op.Add x y = by_two mv (λ a b c d. Acts_value (add_at a b) (add_at c d)) act_add_at x y
    act_binary op.Sub x y = act_ints (λ a b. integer (a -ℤ b)) (λ a b. act_integer (a -ℤ b)) x y
    act_binary op.Mul x y = by_two mv (λ a b c d. Acts_value (multiply_at a b) (multiply_at c d)) act_multiply_at x y
    act_binary op.Floor x y = act_ints (divided floor_of) (act_divided floor_of) x y
    act_binary op.Mod x y = by_out mv (λ a b. Acts_value (modulo_at naming a y) (modulo_at naming b (moved mv y))) (act_modulo_at y) x
    act_binary op.And x y = act_ints (λ a b. integer (int_bit_and w128 a b)) (λ a b. act_integer (int_bit_and w128 a b)) x y
    act_binary op.Or x y = act_ints (λ a b. integer (int_bit_or w128 a b)) (λ a b. act_integer (int_bit_or w128 a b)) x y
    act_binary op.Xor x y = act_ints (λ a b. integer (int_bit_xor w128 a b)) (λ a b. act_integer (int_bit_xor w128 a b)) x y

    module _ (locked : List ℕ) where
      act_added : (x y : Value) (u : Value-F Value) → Acts_value (added_in_place naming locked x u y) (added_in_place naming (map mv.to locked) (moved mv x) (layer mv u) (moved mv y))
      act_added x y (Value-F.List id) = act_then mv _ (act_extend locked id y) (λ _. act_pure mv refl)
      act_added x y _ = act_binary op.Add x y

      pub act_augmented : (o : BinaryOp) (x y : Value) → Acts_value (augmented naming locked o x y) (augmented naming (map mv.to locked) o (moved mv x) (moved mv y))
      unfolding augmented
      act_augmented op.Add x y = by_out mv (λ a b. Acts_value (added_in_place naming locked x a y) (added_in_place naming (map mv.to locked) (moved mv x) b (moved mv y))) (act_added x y) x
      act_augmented op.Sub x y = act_binary op.Sub x y
      act_augmented op.Mul x y = act_binary op.Mul x y
      act_augmented op.Floor x y = act_binary op.Floor x y
      act_augmented op.Mod x y = act_binary op.Mod x y
      act_augmented op.And x y = act_binary op.And x y
      act_augmented op.Or x y = act_binary op.Or x y
      act_augmented op.Xor x y = act_binary op.Xor x y
