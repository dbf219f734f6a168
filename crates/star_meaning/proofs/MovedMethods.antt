-- The methods do the same with other numbers of objects.
use Rattle.std.proofs.Common.{◌≡◌, ℕ, ℤ, negsuc, pos, List, [], ◌∷◌, ◌++◌, map, length, Bool, true, false, refl, sym, ap, subst, ◌∙◌}
use Rattle.std.proofs.lemmas.List.{length-map, map-append}
use Rattle.std.specs.Prelude.{Option, Some, None, option_map, if◌then◌else◌, codes, bytes_eq, unwrap_or}
use Rattle.std.specs.List.{flat_map, insert, remove}
use Rattle.star_value.specs.declared.failure.Failure.TheVariants as failure
use Rattle.star_value.specs.declared.key.Key.{Key}
use Rattle.star_value.specs.declared.value.Value.{Value}
use Rattle.star_value.specs.declared.value.Value.TheOpen.{Value-F}
use Rattle.star_value.specs.declared.value.Value.TheVariants as value
use Rattle.star_value.specs.Keys as keys
use Rattle.star_value.specs.Texts as texts
use Rattle.star_meaning.specs.State.{dict, dict_get, dict_put, dict_without, list, with_dict, with_list}
use Rattle.star_meaning.specs.Steps.{Action, ◌>>=◌, ◌>>◌, change, charge, given_or, pure, read}
use Rattle.star_meaning.specs.Values.{charge_items, charge_weight, key_values, named_in, place_of}
use Rattle.star_meaning.specs.Builtins.{ByName, as_int_or, list_of_tuples, unnamed}
use Rattle.star_meaning.specs.Comparing.{key_in, search_in}
use Rattle.star_meaning.specs.Operators.{charged_list, check_unlocked, item_at}
use Rattle.star_meaning.specs.Methods.{ObjectMethod, TextMethod, append, as_set, call_method, change_list, clear_dict, clear_list, dict_at, dict_methods, extend_by, find, found_or, get, index_of, insert_in, insert_place, items_of_dict, join, keys_of, list_methods, method_at, not_empty, pair_rows, pair_values, pieces, place_in, place_or_none, pop_item, pop_key, put_all, put_if_absent, remove_item, replace, set_default, split, split_by, strip_ends, tested_with, text_methods, update, values_of, walk_texts, with_none, with_two}
use Rattle.star_meaning.proofs.MovedValues.{Moving, by_out, keys_moved, layer, moved, moved_int, moved_key, moved_none, moved_text, pair_to}
use Rattle.star_meaning.proofs.MovedLists.{get_map, insert_map, put_map, remove_map, without_map}
use Rattle.star_meaning.proofs.Moved.{Acts, act_charge, act_dict, act_fail, act_given_or, act_if, act_list, act_pure, act_read, act_then, act_unlocked, act_with_dict, act_with_list, dict_moved}
use Rattle.star_meaning.proofs.MovedComparing.{Acts_same, act_charge_items, act_charge_weight, act_given, act_items_of, act_key_in, act_search_in}
use Rattle.star_meaning.proofs.MovedOperators.{Acts_value, act_charged_list, act_extend, act_int, act_item_at, act_lookup, act_text}
use Rattle.star_meaning.proofs.MovedBuiltins.{act_as_int, act_as_int_or, act_as_text, act_bool, act_list_of_tuples, act_unnamed, act_with_one_or_two, act_with_optional, named_to}

-- what a table has at a name does the same
abbrev Has : {A : Type 0} → (A → Type 0) → Option A → Type 0
Has P None = Unit {0}
Has P (Some a) = P a

has_if : {A : Type 0} (P : A → Type 0) (b : Bool) (a : A) (o : Option A) → P a → Has P o → Has P (if b then Some a else o)
has_if P true a o h k = h
has_if P false a o h k = k

module _ (mv : Moving) where
  abbrev each : List Value → List Value
  each vs = map (moved mv) vs

  abbrev perhaps : Option Value → Option Value
  perhaps o = option_map (moved mv) o

  abbrev pairs_to : List (Key × Value) → List (Key × Value)
  pairs_to pairs = map (pair_to mv) pairs

  inserted : (z : ℤ) (x : Value) (items : List Value) → insert (each items) (insert_place z (length (each items))) (moved mv x) ≡ each (insert items (insert_place z (length items)) x)
  inserted z x items = ap (λ n. insert (each items) (insert_place z n) (moved mv x)) (length-map items (moved mv)) ∙ insert_map (moved mv) items (insert_place z (length items)) x

  removed : (z : ℤ) (items : List Value) → remove (each items) (unwrap_or (place_of z (length (each items))) 0) ≡ each (remove items (unwrap_or (place_of z (length items)) 0))
  removed z items = ap (λ n. remove (each items) (unwrap_or (place_of z n) 0)) (length-map items (moved mv)) ∙ remove_map (moved mv) items (unwrap_or (place_of z (length items)) 0)

  or_none : (o : Option Value) → unwrap_or (option_map (moved mv) o) value.None ≡ moved mv (unwrap_or o value.None)
  or_none None = sym (moved_none mv)
  or_none (Some v) = refl

  or_moved : (o : Option Value) (d : Value) → unwrap_or (option_map (moved mv) o) (moved mv d) ≡ moved mv (unwrap_or o d)
  or_moved None d = refl
  or_moved (Some v) d = refl

  second_moved : (pairs : List (Key × Value)) → pair_values (pairs_to pairs) ≡ each (pair_values pairs)
  second_moved [] = refl
  second_moved (pair ∷ pairs) = ap (λ r. moved mv pair.1 ∷ r) (second_moved pairs)

  rows_moved : (pairs : List (Key × Value)) → pair_rows (pairs_to pairs) ≡ map each (pair_rows pairs)
  rows_moved [] = refl
  rows_moved (pair ∷ pairs) = λ j. (sym (moved_key mv pair.0) j ∷ moved mv pair.1 ∷ []) ∷ rows_moved pairs j

  abbrev flat : List (Key × Value) → List Value
  flat pairs = flat_map (λ pair. keys.value_of pair.0 ∷ pair.1 ∷ []) pairs

  flat_moved : (pairs : List (Key × Value)) → flat (pairs_to pairs) ≡ each (flat pairs)
  flat_moved [] = refl
  flat_moved (pair ∷ pairs) = λ j. sym (moved_key mv pair.0) j ∷ moved mv pair.1 ∷ flat_moved pairs j

  put_all_moved : (pairs more : List (Key × Value)) → put_all (pairs_to pairs) (pairs_to more) ≡ pairs_to (put_all pairs more)
  put_all_moved pairs [] = refl
  put_all_moved pairs (pair ∷ more) = ap (λ ps. put_all ps (pairs_to more)) (put_map (moved mv) pairs pair.0 pair.1) ∙ put_all_moved (dict_put pairs pair.0 pair.1) more

  place_moved : (o : Option ℕ) → place_or_none o ≡ moved mv (place_or_none o)
  place_moved None = sym (moved_int mv (negsuc 0))
  place_moved (Some n) = sym (moved_int mv (pos n))

  texts_moved : (parts : List (List ℕ)) → map value.Text parts ≡ each (map value.Text parts)
  texts_moved [] = refl
  texts_moved (t ∷ parts) = λ j. sym (moved_text mv t) j ∷ texts_moved parts j

module _ {C : Type 0} (mv : Moving) where
  act_with_none : (p q : Action C Value) → Acts_value {C = C} mv p q → (vs : List Value) → Acts_value {C = C} mv (with_none p vs) (with_none q (each mv vs))
  act_with_none p q h [] = h
  act_with_none p q h (x ∷ vs) = act_fail mv

  act_with_two : (f g : Value → Value → Action C Value) → ((a b : Value) → Acts_value {C = C} mv (f a b) (g (moved mv a) (moved mv b))) → (vs : List Value) → Acts_value {C = C} mv (with_two f vs) (with_two g (each mv vs))
  act_with_two f g h [] = act_fail mv
  act_with_two f g h (x ∷ []) = act_fail mv
  act_with_two f g h (x ∷ y ∷ []) = h x y
  act_with_two f g h (x ∷ y ∷ z ∷ vs) = act_fail mv

  act_none : Acts_value {C = C} mv (pure value.None) (pure value.None)
  act_none = act_pure mv (sym (moved_none mv))

  abbrev ActsMethod : ObjectMethod C → Type 0
  ActsMethod m = (locked : List ℕ) (id : ℕ) (vs : List Value) → Acts_value {C = C} mv (m locked id vs) (m (map mv.to locked) (mv.to id) (each mv vs))

  act_change_list : (id : ℕ) (by other : List Value → List Value) → ((xs : List Value) → other (each mv xs) ≡ each mv (by xs)) → Acts_value {C = C} mv (change_list id by) (change_list (mv.to id) other)
  act_change_list id by other h = act_then mv (λ _. pure value.None) (act_with_list mv id by other h) (λ _. act_none)

  act_append : ActsMethod append
  act_append locked id (x ∷ []) =
      act_then mv _ (act_unlocked mv locked id) (λ _. act_change_list id (λ items. items ++ x ∷ []) (λ items. items ++ moved mv x ∷ []) (λ items. sym (map-append (moved mv) items (x ∷ []))))
  act_append locked id [] = act_fail mv
  act_append locked id (x ∷ y ∷ vs) = act_fail mv

  act_clear_list : ActsMethod clear_list
  act_clear_list locked id [] = act_then mv _ (act_unlocked mv locked id) (λ _. act_change_list id (λ items. []) (λ items. []) (λ items. refl))
  act_clear_list locked id (x ∷ vs) = act_fail mv

  act_extend_by : ActsMethod extend_by
  act_extend_by locked id (x ∷ []) = act_then mv _ (act_extend mv locked id x) (λ _. act_none)
  act_extend_by locked id [] = act_fail mv
  act_extend_by locked id (x ∷ y ∷ vs) = act_fail mv

  act_insert_in : ActsMethod insert_in
  act_insert_in locked id (i ∷ x ∷ []) =
      act_then mv _ (act_as_int mv i) (λ z. act_then mv _ (act_unlocked mv locked id) (λ _.
      act_change_list id (λ items. insert items (insert_place z (length items)) x) (λ items. insert items (insert_place z (length items)) (moved mv x)) (inserted mv z x)))
  act_insert_in locked id [] = act_fail mv
  act_insert_in locked id (x ∷ []) = act_fail mv
  act_insert_in locked id (x ∷ y ∷ z ∷ vs) = act_fail mv

  -- an item goes, and is the result
  abbrev taking : ℕ → ℤ → List Value → Action C Value
  taking id z items = item_at items z >>= (λ x. change (λ s. with_list s id (remove items (unwrap_or (place_of z (length items)) 0))) >> pure x)

  act_taking : (id : ℕ) (z : ℤ) (items : List Value) → Acts_value {C = C} mv (taking id z items) (taking (mv.to id) z (each mv items))
  act_taking id z items =
      act_then mv _ (act_item_at mv items z) (λ x.
      act_then mv (λ _. pure (moved mv x))
      (act_with_list mv id (λ _. remove items (unwrap_or (place_of z (length items)) 0)) (λ _. remove (each mv items) (unwrap_or (place_of z (length (each mv items))) 0)) (λ _. removed mv z items)) (λ _. act_pure mv refl))

  abbrev popping : List ℕ → ℕ → Option Value → Action C Value
  popping locked id i = as_int_or (negsuc 0) i >>= (λ z. check_unlocked locked id >> (read (λ s. list s id) >>= taking id z))

  act_popping : (locked : List ℕ) (id : ℕ) (i : Option Value) → Acts_value {C = C} mv (popping locked id i) (popping (map mv.to locked) (mv.to id) (perhaps mv i))
  act_popping locked id i =
      act_then mv (λ z. check_unlocked (map mv.to locked) (mv.to id) >> (read (λ s. list s (mv.to id)) >>= taking (mv.to id) z)) (act_as_int_or mv (negsuc 0) i) (λ z.
      act_then mv _ (act_unlocked mv locked id) (λ _. act_then mv (taking (mv.to id) z) (act_list mv id) (act_taking id z)))

  act_pop_item : ActsMethod pop_item
  act_pop_item locked id vs = act_with_optional mv (popping locked id) (popping (map mv.to locked) (mv.to id)) (act_popping locked id) vs

  act_place_in : (id : ℕ) (x : Value) → Acts_same {C = C} mv (place_in id x) (place_in (mv.to id) (moved mv x))
  act_place_in id x = act_then mv (λ items. search_in (moved mv x) items >>= given_or failure.NoElement) (act_list mv id) (λ items. act_then mv _ (act_search_in mv x items) (λ o. act_given mv _ refl))

  act_remove_item : ActsMethod remove_item
  act_remove_item locked id (x ∷ []) =
      act_then mv _ (act_unlocked mv locked id) (λ _. act_then mv _ (act_place_in id x) (λ place. act_change_list id (λ items. remove items place) (λ items. remove items place) (λ items. remove_map (moved mv) items place)))
  act_remove_item locked id [] = act_fail mv
  act_remove_item locked id (x ∷ y ∷ vs) = act_fail mv

  act_index_of : ActsMethod index_of
  act_index_of locked id (x ∷ []) = act_then mv _ (act_place_in id x) (λ place. act_int mv (pos place))
  act_index_of locked id [] = act_fail mv
  act_index_of locked id (x ∷ y ∷ vs) = act_fail mv

  -- ---- dicts

  act_found : (id : ℕ) (key : Key) (d e : Value) → e ≡ moved mv d → Acts_value {C = C} mv (read (λ s. unwrap_or (dict_get (dict s id) key) d)) (read (λ s. unwrap_or (dict_get (dict s (mv.to id)) key) e))
  act_found id key d e h =
      act_read mv (moved mv) _ _ (λ s t i.
      ap (λ x. unwrap_or (dict_get (dict t (mv.to id)) key) x) h ∙ ap (λ pairs. unwrap_or (dict_get pairs key) (moved mv d)) (dict_moved mv s t i id) ∙ ap (λ o. unwrap_or o (moved mv d)) (get_map (moved mv) (dict s id) key)
      ∙ (or_moved mv) (dict_get (dict s id) key) d)

  abbrev getting : ℕ → Value → Option Value → Action C Value
  getting id k d = key_in k >>= (λ key. charge_weight k >> read (λ s. unwrap_or (dict_get (dict s id) key) (unwrap_or d value.None)))

  act_getting : (id : ℕ) (k : Value) (d : Option Value) → Acts_value {C = C} mv (getting id k d) (getting (mv.to id) (moved mv k) (perhaps mv d))
  act_getting id k d =
      act_then mv (λ key. charge_weight (moved mv k) >> read (λ s. unwrap_or (dict_get (dict s (mv.to id)) key) (unwrap_or (perhaps mv d) value.None))) (act_key_in mv k) (λ key.
      act_then mv (λ _. read (λ s. unwrap_or (dict_get (dict s (mv.to id)) key) (unwrap_or (perhaps mv d) value.None))) (act_charge_weight mv k) (λ _.
      act_found id key (unwrap_or d value.None) (unwrap_or (perhaps mv d) value.None) (or_none mv d)))

  act_get : ActsMethod get
  act_get locked id vs = act_with_one_or_two mv (getting id) (getting (mv.to id)) (act_getting id) vs

  act_found_or : (o d : Option Value) → Acts_value {C = C} mv (found_or o d) (found_or (option_map (moved mv) o) (option_map (moved mv) d))
  act_found_or (Some v) d = act_pure mv refl
  act_found_or None d = act_given_or mv _ _ refl

  -- a key goes, and its value is the result
  abbrev losing : ℕ → Value → Key → Value → Action C Value
  losing id k key v = charge_weight k >> (change (λ s. with_dict s id (dict_without (dict s id) key)) >> pure v)

  act_losing : (id : ℕ) (k : Value) (key : Key) (v : Value) → Acts_value {C = C} mv (losing id k key v) (losing (mv.to id) (moved mv k) key (moved mv v))
  act_losing id k key v =
      act_then mv (λ _. change (λ s. with_dict s (mv.to id) (dict_without (dict s (mv.to id)) key)) >> pure (moved mv v)) (act_charge_weight mv k) (λ _.
      act_then mv (λ _. pure (moved mv v)) (act_with_dict mv id (λ pairs. dict_without pairs key) (λ pairs. dict_without pairs key) (λ pairs. without_map (moved mv) pairs key)) (λ _. act_pure mv refl))

  abbrev popping_key : List ℕ → ℕ → Value → Option Value → Action C Value
  popping_key locked id k d = key_in k >>= (λ key. check_unlocked locked id >> (read (λ s. dict_get (dict s id) key) >>= (λ found. found_or found d >>= losing id k key)))

  act_popping_key : (locked : List ℕ) (id : ℕ) (k : Value) (d : Option Value) → Acts_value {C = C} mv (popping_key locked id k d) (popping_key (map mv.to locked) (mv.to id) (moved mv k) (perhaps mv d))
  act_popping_key locked id k d =
      act_then mv (λ key. check_unlocked (map mv.to locked) (mv.to id) >> (read (λ s. dict_get (dict s (mv.to id)) key) >>= (λ found. found_or found (perhaps mv d) >>= losing (mv.to id) (moved mv k) key))) (act_key_in mv k) (λ key.
      act_then mv _ (act_unlocked mv locked id) (λ _.
      act_then mv (λ found. found_or found (perhaps mv d) >>= losing (mv.to id) (moved mv k) key) (act_lookup mv id key) (λ found.
      act_then mv (losing (mv.to id) (moved mv k) key) (act_found_or found d) (act_losing id k key))))

  act_pop_key : ActsMethod pop_key
  act_pop_key locked id vs = act_with_one_or_two mv (popping_key locked id) (popping_key (map mv.to locked) (mv.to id)) (act_popping_key locked id) vs

  act_put_if_absent : (id : ℕ) (key : Key) (o : Option Value) (d : Value) → Acts_value {C = C} mv (put_if_absent id key o d) (put_if_absent (mv.to id) key (option_map (moved mv) o) (moved mv d))
  act_put_if_absent id key (Some v) d = act_pure mv refl
  act_put_if_absent id key None d =
      act_then mv (λ _. pure (moved mv d)) (act_with_dict mv id (λ pairs. dict_put pairs key d) (λ pairs. dict_put pairs key (moved mv d)) (λ pairs. put_map (moved mv) pairs key d)) (λ _. act_pure mv refl)

  abbrev setting : List ℕ → ℕ → Value → Value → Action C Value
  setting locked id k d = key_in k >>= (λ key. check_unlocked locked id >> (charge_weight k >> (read (λ s. dict_get (dict s id) key) >>= (λ found. put_if_absent id key found d))))

  act_setting : (locked : List ℕ) (id : ℕ) (k d : Value) → Acts_value {C = C} mv (setting locked id k d) (setting (map mv.to locked) (mv.to id) (moved mv k) (moved mv d))
  act_setting locked id k d =
      act_then mv (λ key. check_unlocked (map mv.to locked) (mv.to id) >> (charge_weight (moved mv k) >> (read (λ s. dict_get (dict s (mv.to id)) key) >>= (λ found. put_if_absent (mv.to id) key found (moved mv d))))) (act_key_in mv k) (λ key.
      act_then mv _ (act_unlocked mv locked id) (λ _.
      act_then mv (λ _. read (λ s. dict_get (dict s (mv.to id)) key) >>= (λ found. put_if_absent (mv.to id) key found (moved mv d))) (act_charge_weight mv k) (λ _.
      act_then mv (λ found. put_if_absent (mv.to id) key found (moved mv d)) (act_lookup mv id key) (λ found. act_put_if_absent id key found d))))

  act_set_default : ActsMethod set_default
  act_set_default locked id vs =
      act_with_one_or_two mv (λ k d. setting locked id k (unwrap_or d value.None)) (λ k d. setting (map mv.to locked) (mv.to id) k (unwrap_or d value.None))
      (λ k d. subst (λ e. Acts_value {C = C} mv (setting locked id k (unwrap_or d value.None)) (setting (map mv.to locked) (mv.to id) (moved mv k) e)) (sym (or_none mv d)) (act_setting locked id k (unwrap_or d value.None))) vs

  act_keys_of : ActsMethod keys_of
  act_keys_of locked id [] = act_then mv charged_list (act_read mv (each mv) (λ s. key_values (dict s id)) (λ s. key_values (dict s (mv.to id))) (λ s t i. ap key_values (dict_moved mv s t i id) ∙ keys_moved mv (dict s id))) (λ vs. act_charged_list mv vs _ refl)
  act_keys_of locked id (x ∷ vs) = act_fail mv

  act_values_of : ActsMethod values_of
  act_values_of locked id [] =
      act_then mv charged_list (act_read mv (each mv) (λ s. pair_values (dict s id)) (λ s. pair_values (dict s (mv.to id))) (λ s t i. ap pair_values (dict_moved mv s t i id) ∙ second_moved mv (dict s id))) (λ vs. act_charged_list mv vs _ refl)
  act_values_of locked id (x ∷ vs) = act_fail mv

  act_items_of_dict : ActsMethod items_of_dict
  act_items_of_dict locked id [] =
      act_then mv list_of_tuples (act_read mv (map (each mv)) (λ s. pair_rows (dict s id)) (λ s. pair_rows (dict s (mv.to id))) (λ s t i. ap pair_rows (dict_moved mv s t i id) ∙ rows_moved mv (dict s id))) (λ rows. act_list_of_tuples mv rows _ refl)
  act_items_of_dict locked id (x ∷ vs) = act_fail mv

  act_dict_at : (x : Value-F Value) → Acts {C = C} mv (pairs_to mv) (dict_at x) (dict_at (layer mv x))
  act_dict_at (Value-F.Dict id) = act_dict mv _
  act_dict_at _ = act_fail mv

  -- pairs that are put in a dict
  abbrev updating : List ℕ → ℕ → List (Key × Value) → Action C Value
  updating locked id more = check_unlocked locked id >> (charge_items (flat_map (λ pair. keys.value_of pair.0 ∷ pair.1 ∷ []) more) >> (change (λ s. with_dict s id (put_all (dict s id) more)) >> pure value.None))

  act_updating : (locked : List ℕ) (id : ℕ) (more : List (Key × Value)) → Acts_value {C = C} mv (updating locked id more) (updating (map mv.to locked) (mv.to id) (pairs_to mv more))
  act_updating locked id more =
      act_then mv _ (act_unlocked mv locked id) (λ _.
      act_then mv (λ _. change (λ s. with_dict s (mv.to id) (put_all (dict s (mv.to id)) (pairs_to mv more))) >> pure value.None)
      (subst (λ xs. Acts_same {C = C} mv (charge_items (flat mv more)) (charge_items xs)) (sym (flat_moved mv more)) (act_charge_items mv (flat mv more))) (λ _.
      act_then mv (λ _. pure value.None) (act_with_dict mv id (λ pairs. put_all pairs more) (λ pairs. put_all pairs (pairs_to mv more)) (λ pairs. put_all_moved mv pairs more)) (λ _. act_none)))

  act_update : ActsMethod update
  act_update locked id (d ∷ []) =
      act_then mv (updating (map mv.to locked) (mv.to id)) (by_out mv (λ x y. Acts {C = C} mv (pairs_to mv) (dict_at x) (dict_at y)) act_dict_at d) (act_updating locked id)
  act_update locked id [] = act_fail mv
  act_update locked id (x ∷ y ∷ vs) = act_fail mv

  act_clear_dict : ActsMethod clear_dict
  act_clear_dict locked id [] =
      act_then mv (λ _. pure value.None) (act_then mv (λ _. change (λ s. with_dict s (mv.to id) [])) (act_unlocked mv locked id) (λ _. act_with_dict mv id (λ pairs. []) (λ pairs. []) (λ pairs. refl))) (λ _. act_none)
  act_clear_dict locked id (x ∷ vs) = act_fail mv

  -- ---- texts

  abbrev ActsText : TextMethod C → Type 0
  ActsText m = (text : List ℕ) (vs : List Value) → Acts_value {C = C} mv (m text vs) (m text (each mv vs))

  act_find : ActsText find
  act_find text (v ∷ []) = act_then mv _ (act_as_text mv v) (λ what. act_then mv _ (act_charge mv _) (λ _. act_pure mv (place_moved mv _)))
  act_find text [] = act_fail mv
  act_find text (x ∷ y ∷ vs) = act_fail mv

  act_not_empty : (by : List ℕ) → Acts_same {C = C} mv (not_empty by) (not_empty by)
  act_not_empty by = act_if mv refl (act_fail mv) (act_pure mv refl)

  act_pieces : (text : List ℕ) (parts : List (List ℕ)) → Acts_value {C = C} mv (pieces text parts) (pieces text parts)
  act_pieces text parts = act_then mv _ (act_charge mv _) (λ _. act_charged_list mv (map value.Text parts) _ (texts_moved mv parts))

  act_split_by : (text : List ℕ) (o : Option Value) → Acts_value {C = C} mv (split_by text o) (split_by text (option_map (moved mv) o))
  act_split_by text None = act_pieces text (texts.split_white text)
  act_split_by text (Some v) = act_then mv _ (act_as_text mv v) (λ by. act_then mv _ (act_not_empty by) (λ _. act_pieces text (texts.split text by)))

  act_split : ActsText split
  act_split text vs = act_with_optional mv (split_by text) (split_by text) (act_split_by text) vs

  act_walk_texts : (xs : List Value) → Acts_same {C = C} mv (walk_texts xs) (walk_texts (each mv xs))
  act_walk_texts [] = act_pure mv refl
  act_walk_texts (x ∷ xs) = act_then mv _ (act_charge_weight mv _) (λ _. act_then mv _ (act_as_text mv x) (λ part. act_then mv _ (act_walk_texts xs) (λ more. act_pure mv refl)))

  act_join : ActsText join
  act_join text (v ∷ []) = act_then mv _ (act_items_of mv v) (λ items. act_then mv _ (act_walk_texts items) (λ parts. act_text mv _))
  act_join text [] = act_fail mv
  act_join text (x ∷ y ∷ vs) = act_fail mv

  act_replace : ActsText replace
  act_replace text (a ∷ b ∷ []) =
      act_then mv _ (act_as_text mv a) (λ old. act_then mv _ (act_as_text mv b) (λ new. act_then mv _ (act_not_empty old) (λ _. act_then mv _ (act_charge mv _) (λ _. act_text mv _))))
  act_replace text [] = act_fail mv
  act_replace text (x ∷ []) = act_fail mv
  act_replace text (x ∷ y ∷ z ∷ vs) = act_fail mv

  act_as_set : (o : Option Value) → Acts_same {C = C} mv (as_set o) (as_set (option_map (moved mv) o))
  act_as_set None = act_pure mv refl
  act_as_set (Some v) = act_then mv _ (act_as_text mv v) (λ set. act_pure mv refl)

  abbrev stripping : Bool → Bool → List ℕ → Option Value → Action C Value
  stripping l r text v = as_set v >>= (λ set. charge (length text) >> pure (value.Text (texts.strip text set l r)))

  act_stripping : (l r : Bool) (text : List ℕ) (v : Option Value) → Acts_value {C = C} mv (stripping l r text v) (stripping l r text (perhaps mv v))
  act_stripping l r text v =
      act_then mv (λ set. charge (length text) >> pure (value.Text (texts.strip text set l r))) (act_as_set v) (λ set. act_then mv (λ _. pure (value.Text (texts.strip text set l r))) (act_charge mv (length text)) (λ _. act_text mv _))

  act_strip_ends : (l r : Bool) → ActsText (strip_ends l r)
  act_strip_ends l r text vs = act_with_optional mv (stripping l r text) (stripping l r text) (act_stripping l r text) vs

  act_tested_with : (f : List ℕ → List ℕ → Bool) → ActsText (tested_with f)
  act_tested_with f text (v ∷ []) = act_then mv _ (act_as_text mv v) (λ what. act_then mv _ (act_charge mv _) (λ _. act_bool mv refl))
  act_tested_with f text [] = act_fail mv
  act_tested_with f text (x ∷ y ∷ vs) = act_fail mv
  -- ---- tables and calls

module _ (C : Type 0) (mv : Moving) where
  act_list_methods : (n : List ℕ) → Has (ActsMethod {C = C} mv) (named_in list_methods n)
  act_list_methods n =
      has_if (ActsMethod {C = C} mv) (bytes_eq n (codes "append")) _ _ (act_append mv) (has_if (ActsMethod {C = C} mv) (bytes_eq n (codes "clear")) _ _ (act_clear_list mv) (has_if (ActsMethod {C = C} mv) (bytes_eq n (codes "extend")) _ _ (act_extend_by mv)
      (has_if (ActsMethod {C = C} mv) (bytes_eq n (codes "insert")) _ _ (act_insert_in mv) (has_if (ActsMethod {C = C} mv) (bytes_eq n (codes "pop")) _ _ (act_pop_item mv) (has_if (ActsMethod {C = C} mv) (bytes_eq n (codes "remove")) _ _ (act_remove_item mv)
      (has_if (ActsMethod {C = C} mv) (bytes_eq n (codes "index")) _ None (act_index_of mv) tt))))))

  act_dict_methods : (n : List ℕ) → Has (ActsMethod {C = C} mv) (named_in dict_methods n)
  act_dict_methods n =
      has_if (ActsMethod {C = C} mv) (bytes_eq n (codes "get")) _ _ (act_get mv) (has_if (ActsMethod {C = C} mv) (bytes_eq n (codes "pop")) _ _ (act_pop_key mv) (has_if (ActsMethod {C = C} mv) (bytes_eq n (codes "setdefault")) _ _ (act_set_default mv)
      (has_if (ActsMethod {C = C} mv) (bytes_eq n (codes "keys")) _ _ (act_keys_of mv) (has_if (ActsMethod {C = C} mv) (bytes_eq n (codes "values")) _ _ (act_values_of mv) (has_if (ActsMethod {C = C} mv) (bytes_eq n (codes "items")) _ _ (act_items_of_dict mv)
      (has_if (ActsMethod {C = C} mv) (bytes_eq n (codes "update")) _ _ (act_update mv) (has_if (ActsMethod {C = C} mv) (bytes_eq n (codes "clear")) _ None (act_clear_dict mv) tt)))))))

  act_text_methods : (n : List ℕ) → Has (ActsText {C = C} mv) (named_in text_methods n)
  act_text_methods n =
      has_if (ActsText {C = C} mv) (bytes_eq n (codes "find")) _ _ (act_find mv) (has_if (ActsText {C = C} mv) (bytes_eq n (codes "split")) _ _ (act_split mv) (has_if (ActsText {C = C} mv) (bytes_eq n (codes "join")) _ _ (act_join mv)
      (has_if (ActsText {C = C} mv) (bytes_eq n (codes "replace")) _ _ (act_replace mv) (has_if (ActsText {C = C} mv) (bytes_eq n (codes "strip")) _ _ (act_strip_ends mv true true) (has_if (ActsText {C = C} mv) (bytes_eq n (codes "lstrip")) _ _ (act_strip_ends mv true false)
      (has_if (ActsText {C = C} mv) (bytes_eq n (codes "rstrip")) _ _ (act_strip_ends mv false true) (has_if (ActsText {C = C} mv) (bytes_eq n (codes "startswith")) _ _ (act_tested_with mv texts.starts_with)
      (has_if (ActsText {C = C} mv) (bytes_eq n (codes "endswith")) _ None (act_tested_with mv texts.ends_with) tt))))))))

  abbrev Method : Type 0
  Method = List Value → Action C Value

  -- both values have a method that does the same, or both have none
  abbrev Both : Option Method → Option Method → Type 0
  Both None None = Unit {0}
  Both (Some f) (Some g) = (vs : List Value) → Acts_value {C = C} mv (f vs) (g (each mv vs))
  Both None (Some g) = ⊥
  Both (Some f) None = ⊥

  object_call : (locked : List ℕ) (id : ℕ) (o : Option (ObjectMethod C)) → Has (ActsMethod {C = C} mv) o → Both (option_map (λ m. m locked id) o) (option_map (λ m. m (map mv.to locked) (mv.to id)) o)
  object_call locked id None h = tt
  object_call locked id (Some m) h = h locked id

  text_call : (text : List ℕ) (o : Option (TextMethod C)) → Has (ActsText {C = C} mv) o → Both (option_map (λ m. m text) o) (option_map (λ m. m text) o)
  text_call text None h = tt
  text_call text (Some m) h = h text

  act_method_at : (locked n : List ℕ) (x : Value-F Value) → Both (method_at locked n x) (method_at (map mv.to locked) n (layer mv x))
  act_method_at locked n (Value-F.List id) = object_call locked id _ (act_list_methods n)
  act_method_at locked n (Value-F.Dict id) = object_call locked id _ (act_dict_methods n)
  act_method_at locked n (Value-F.Text text) = text_call text _ (act_text_methods n)
  act_method_at locked n _ = tt

  act_method : (vs : List Value) (n : ByName) (o p : Option Method) → Both o p
      → Acts_value {C = C} mv (given_or failure.NoMethod o >>= (λ m. unnamed n (m vs))) (given_or failure.NoMethod p >>= (λ m. unnamed (named_to mv n) (m (each mv vs))))
  act_method vs n None None h = act_fail mv
  act_method vs n (Some f) (Some g) h = act_unnamed mv (moved mv) n _ _ (h vs)
  act_method vs n None (Some g) h = absurd h
  act_method vs n (Some f) None h = absurd h

module _ {C : Type 0} (mv : Moving) where
  pub act_call_method : (locked n : List ℕ) (of : Value) (vs : List Value) (by : ByName)
      → Acts_value {C = C} mv (call_method locked n of vs by) (call_method (map mv.to locked) n (moved mv of) (each mv vs) (named_to mv by))
  unfolding call_method
  act_call_method locked n of vs by = act_method C mv vs by _ _ (by_out mv (λ x y. Both C mv (method_at locked n x) (method_at (map mv.to locked) n y)) (act_method_at C mv locked n) of)
