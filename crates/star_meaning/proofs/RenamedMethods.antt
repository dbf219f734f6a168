-- The methods do the same whatever the names of cells.
use Rattle.std.proofs.Common.{◌≡◌, ℕ, negsuc, List, [], ◌∷◌, ◌++◌, map, length, Bool, true, false, ap}
use Rattle.std.specs.Prelude.{Option, Some, None, option_map, if◌then◌else◌, codes, bytes_eq, unwrap_or}
use Rattle.std.specs.List.{insert, remove}
use Rattle.star_value.specs.declared.failure.Failure.TheVariants as failure
use Rattle.star_value.specs.declared.key.Key.{Key}
use Rattle.star_value.specs.declared.value.Value.{Value, out-Value}
use Rattle.star_value.specs.declared.value.Value.TheOpen.{Value-F}
use Rattle.star_value.specs.declared.value.Value.TheVariants as value
use Rattle.star_value.specs.Texts as texts
use Rattle.star_value.specs.Weight.{weight}
use Rattle.star_meaning.specs.State.{dict, dict_get, dict_put, dict_without}
use Rattle.star_meaning.specs.Steps.{Action, ◌>>=◌, given_or, read}
use Rattle.star_meaning.specs.Values.{has, is_empty, key_values, named_in, place_of}
use Rattle.star_meaning.specs.Builtins.{ByName, unnamed}
use Rattle.star_meaning.specs.Methods.{ObjectMethod, TextMethod, append, as_set, call_method, change_list, clear_dict, clear_list, dict_at, dict_methods, extend_by, find, found_or, get, index_of, insert_in, insert_place, items_of_dict, join, keys_of, list_methods, method_at, not_empty, pair_rows, pair_values, pieces, place_in, pop_item, pop_key, put_all, put_if_absent, remove_item, replace, set_default, split, split_by, strip_ends, tested_with, text_methods, update, values_of, walk_texts, with_none, with_two}
use Rattle.star_meaning.specs.Renaming.{Names, Same}
use Rattle.star_meaning.proofs.Renamed.{same_then, same_pure, same_fail, same_given_or, same_charge, same_read, dict_as}
use Rattle.star_meaning.proofs.RenamedComparing.{same_if_then, same_key_in, same_list, same_dict, same_search_in}
use Rattle.star_meaning.proofs.RenamedShowing.{same_items_of}
use Rattle.star_meaning.proofs.RenamedOperators.{same_charged_list, same_dict_change, same_extend, same_item_at, same_list_change, same_unlocked}
use Rattle.star_meaning.proofs.RenamedBuiltins.{same_as_int, same_as_int_or, same_as_text, same_list_of_tuples, same_unnamed, same_with_one, same_with_one_or_two, same_with_optional}

module _ {C D : Type 0} (name : Names C D) where
  same_with_none : {A : Type 0} (p : Action C A) (q : Action D A) → Same name p q → (vs : List Value) → Same name (with_none p vs) (with_none q vs)
  same_with_none p q h [] = h
  same_with_none p q h (x ∷ vs) = same_fail name _

  same_with_two : {A : Type 0} (f : Value → Value → Action C A) (g : Value → Value → Action D A) → ((a b : Value) → Same name (f a b) (g a b)) → (vs : List Value) → Same name (with_two f vs) (with_two g vs)
  same_with_two f g h [] = same_fail name _
  same_with_two f g h (x ∷ []) = same_fail name _
  same_with_two f g h (x ∷ y ∷ []) = h x y
  same_with_two f g h (x ∷ y ∷ z ∷ vs) = same_fail name _

  abbrev SameMethod : ObjectMethod C → ObjectMethod D → Type 0
  SameMethod m n = (id : ℕ) (vs : List Value) → Same name (m name.locked id vs) (n name.locked id vs)

  same_change_list : (id : ℕ) → has name.locked id ≡ false → (by : List Value → List Value) → Same name (change_list id by) (change_list id by)
  same_change_list id free by = same_then name _ _ _ _ (same_list_change name id free by) (λ _. same_pure name value.None)

  same_append : SameMethod append append
  same_append id vs = same_with_one name _ _ (λ x. same_unlocked name id _ _ (λ free. same_change_list id free (λ items. items ++ x ∷ []))) vs

  same_clear_list : SameMethod clear_list clear_list
  same_clear_list id vs = same_with_none _ _ (same_unlocked name id _ _ (λ free. same_change_list id free (λ items. []))) vs

  same_extend_by : SameMethod extend_by extend_by
  same_extend_by id vs = same_with_one name _ _ (λ x. same_then name _ _ _ _ (same_extend name id x) (λ _. same_pure name _)) vs

  same_insert_in : SameMethod insert_in insert_in
  same_insert_in id vs =
      same_with_two _ _ (λ i x. same_then name _ _ _ _ (same_as_int name i) (λ z. same_unlocked name id _ _ (λ free. same_change_list id free (λ items. insert items (insert_place z (length items)) x)))) vs

  same_pop_item : SameMethod pop_item pop_item
  same_pop_item id vs =
      same_with_optional name _ _ (λ i. same_then name _ _ _ _ (same_as_int_or name (negsuc 0) i) (λ z. same_unlocked name id _ _ (λ free. same_then name _ _ _ _ (same_list name id) (λ items.
      same_then name _ _ _ _ (same_item_at name items z) (λ x. same_then name _ _ _ _ (same_list_change name id free (λ _. remove items (unwrap_or (place_of z (length items)) 0))) (λ _. same_pure name x)))))) vs

  same_place_in : (id : ℕ) (x : Value) → Same name (place_in id x) (place_in id x)
  same_place_in id x = same_then name _ _ _ _ (same_list name id) (λ items. same_then name _ _ _ _ (same_search_in name x items) (same_given_or name failure.NoElement))

  same_remove_item : SameMethod remove_item remove_item
  same_remove_item id vs =
      same_with_one name _ _ (λ x. same_unlocked name id _ _ (λ free. same_then name _ _ _ _ (same_place_in id x) (λ place. same_change_list id free (λ items. remove items place)))) vs

  same_index_of : SameMethod index_of index_of
  same_index_of id vs = same_with_one name _ _ (λ x. same_then name _ _ _ _ (same_place_in id x) (λ place. same_pure name _)) vs

  -- ---- dicts

  same_lookup : (id : ℕ) (key : Key) → Same name (read (λ s. dict_get (dict s id) key)) (read (λ s. dict_get (dict s id) key))
  same_lookup id key = same_read name _ _ (λ s. ap (λ pairs. dict_get pairs key) (dict_as name.to s id))

  same_get : SameMethod get get
  same_get id vs =
      same_with_one_or_two name _ _ (λ k d. same_then name _ _ _ _ (same_key_in name k) (λ key. same_then name _ _ _ _ (same_charge name (weight k)) (λ _.
      same_read name (λ s. unwrap_or (dict_get (dict s id) key) (unwrap_or d value.None)) (λ s. unwrap_or (dict_get (dict s id) key) (unwrap_or d value.None)) (λ s. ap (λ pairs. unwrap_or (dict_get pairs key) (unwrap_or d value.None)) (dict_as name.to s id))))) vs

  same_found_or : (o d : Option Value) → Same name (found_or o d) (found_or o d)
  same_found_or (Some v) d = same_pure name v
  same_found_or None d = same_given_or name _ _

  same_pop_key : SameMethod pop_key pop_key
  same_pop_key id vs =
      same_with_one_or_two name _ _ (λ k d. same_then name _ _ _ _ (same_key_in name k) (λ key. same_unlocked name id _ _ (λ free. same_then name _ _ _ _ (same_lookup id key) (λ found.
      same_then name _ _ _ _ (same_found_or found d) (λ v. same_then name _ _ _ _ (same_charge name (weight k)) (λ _. same_then name _ _ _ _ (same_dict_change name id free (λ pairs. dict_without pairs key)) (λ _. same_pure name v))))))) vs

  same_put_if_absent : (id : ℕ) → has name.locked id ≡ false → (key : Key) (o : Option Value) (d : Value) → Same name (put_if_absent id key o d) (put_if_absent id key o d)
  same_put_if_absent id free key (Some v) d = same_pure name v
  same_put_if_absent id free key None d = same_then name _ _ _ _ (same_dict_change name id free (λ pairs. dict_put pairs key d)) (λ _. same_pure name d)

  same_set_default : SameMethod set_default set_default
  same_set_default id vs =
      same_with_one_or_two name _ _ (λ k d. same_then name _ _ _ _ (same_key_in name k) (λ key. same_unlocked name id _ _ (λ free. same_then name _ _ _ _ (same_charge name (weight k)) (λ _.
      same_then name _ _ _ _ (same_lookup id key) (λ found. same_put_if_absent id free key found (unwrap_or d value.None)))))) vs

  same_keys_of : SameMethod keys_of keys_of
  same_keys_of id vs = same_with_none _ _ (same_then name _ _ _ _ (same_read name (λ s. key_values (dict s id)) (λ s. key_values (dict s id)) (λ s. ap key_values (dict_as name.to s id))) (same_charged_list name)) vs

  same_values_of : SameMethod values_of values_of
  same_values_of id vs = same_with_none _ _ (same_then name _ _ _ _ (same_read name (λ s. pair_values (dict s id)) (λ s. pair_values (dict s id)) (λ s. ap pair_values (dict_as name.to s id))) (same_charged_list name)) vs

  same_items_of_dict : SameMethod items_of_dict items_of_dict
  same_items_of_dict id vs = same_with_none _ _ (same_then name _ _ _ _ (same_read name (λ s. pair_rows (dict s id)) (λ s. pair_rows (dict s id)) (λ s. ap pair_rows (dict_as name.to s id))) (same_list_of_tuples name)) vs

  same_dict_at : (x : Value-F Value) → Same name (dict_at x) (dict_at x)
  same_dict_at (Value-F.Dict id) = same_dict name id
  same_dict_at _ = same_fail name _

  same_update : SameMethod update update
  same_update id vs =
      same_with_one name _ _ (λ d. same_then name _ _ _ _ (same_dict_at (out-Value d)) (λ more. same_unlocked name id _ _ (λ free. same_then name _ _ _ _ (same_charge name _) (λ _.
      same_then name _ _ _ _ (same_dict_change name id free (λ pairs. put_all pairs more)) (λ _. same_pure name value.None))))) vs

  same_clear_dict : SameMethod clear_dict clear_dict
  same_clear_dict id vs =
      same_with_none _ _ (same_then name _ _ _ _ (same_unlocked name id _ _ (λ free. same_dict_change name id free (λ _. []))) (λ _. same_pure name _)) vs

  -- ---- texts

  abbrev SameTextMethod : TextMethod C → TextMethod D → Type 0
  SameTextMethod m n = (text : List ℕ) (vs : List Value) → Same name (m text vs) (n text vs)

  same_find : SameTextMethod find find
  same_find text vs = same_with_one name _ _ (λ v. same_then name _ _ _ _ (same_as_text name v) (λ what. same_then name _ _ _ _ (same_charge name _) (λ _. same_pure name _))) vs

  same_not_empty : (by : List ℕ) → Same name (not_empty by) (not_empty by)
  same_not_empty by = same_if_then name (is_empty by) _ _ _ _ (same_fail name _) (same_pure name _)

  same_pieces : (text : List ℕ) (parts : List (List ℕ)) → Same name (pieces text parts) (pieces text parts)
  same_pieces text parts = same_then name _ _ _ _ (same_charge name _) (λ _. same_charged_list name (map value.Text parts))

  same_split_by : (text : List ℕ) (o : Option Value) → Same name (split_by text o) (split_by text o)
  same_split_by text None = same_pieces text (texts.split_white text)
  same_split_by text (Some v) = same_then name _ _ _ _ (same_as_text name v) (λ by. same_then name _ _ _ _ (same_not_empty by) (λ _. same_pieces text (texts.split text by)))

  same_split : SameTextMethod split split
  same_split text vs = same_with_optional name _ _ (same_split_by text) vs

  same_walk_texts : (xs : List Value) → Same name (walk_texts xs) (walk_texts xs)
  same_walk_texts [] = same_pure name _
  same_walk_texts (x ∷ xs) = same_then name _ _ _ _ (same_charge name _) (λ _. same_then name _ _ _ _ (same_as_text name x) (λ part. same_then name _ _ _ _ (same_walk_texts xs) (λ more. same_pure name _)))

  same_join : SameTextMethod join join
  same_join text vs = same_with_one name _ _ (λ v. same_then name _ _ _ _ (same_items_of name v) (λ items. same_then name _ _ _ _ (same_walk_texts items) (λ parts. same_pure name _))) vs

  same_replace : SameTextMethod replace replace
  same_replace text vs =
      same_with_two _ _ (λ a b. same_then name _ _ _ _ (same_as_text name a) (λ old. same_then name _ _ _ _ (same_as_text name b) (λ new. same_then name _ _ _ _ (same_not_empty old) (λ _.
      same_then name _ _ _ _ (same_charge name _) (λ _. same_pure name _))))) vs

  same_as_set : (o : Option Value) → Same name (as_set o) (as_set o)
  same_as_set None = same_pure name _
  same_as_set (Some v) = same_then name _ _ _ _ (same_as_text name v) (λ set. same_pure name _)

  same_strip_ends : (l r : Bool) → SameTextMethod (strip_ends l r) (strip_ends l r)
  same_strip_ends l r text vs = same_with_optional name _ _ (λ v. same_then name _ _ _ _ (same_as_set v) (λ set. same_then name _ _ _ _ (same_charge name (length text)) (λ _. same_pure name (value.Text (texts.strip text set l r))))) vs

  same_tested_with : (f : List ℕ → List ℕ → Bool) → SameTextMethod (tested_with f) (tested_with f)
  same_tested_with f text vs = same_with_one name _ _ (λ v. same_then name _ _ _ _ (same_as_text name v) (λ what. same_then name _ _ _ _ (same_charge name _) (λ _. same_pure name _))) vs

  -- ---- tables and calls

  -- at each name both tables have nothing, or entries that do the same
  abbrev BothHave : {A B : Type 0} → (A → B → Type 0) → Option A → Option B → Type 0
  BothHave R None None = Unit {0}
  BothHave R (Some a) (Some b) = R a b
  BothHave R None (Some b) = ⊥
  BothHave R (Some a) None = ⊥

  both_if : {A B : Type 0} (R : A → B → Type 0) (b : Bool) (o p : Option A) (x y : Option B) → BothHave R o x → BothHave R p y → BothHave R (if b then o else p) (if b then x else y)
  both_if R true o p x y h k = h
  both_if R false o p x y h k = k

  same_list_methods : (n : List ℕ) → BothHave SameMethod (named_in list_methods n) (named_in list_methods n)
  same_list_methods n =
      both_if SameMethod (bytes_eq n (codes "append")) _ _ _ _ same_append (both_if SameMethod (bytes_eq n (codes "clear")) _ _ _ _ same_clear_list (both_if SameMethod (bytes_eq n (codes "extend")) _ _ _ _ same_extend_by
      (both_if SameMethod (bytes_eq n (codes "insert")) _ _ _ _ same_insert_in (both_if SameMethod (bytes_eq n (codes "pop")) _ _ _ _ same_pop_item (both_if SameMethod (bytes_eq n (codes "remove")) _ _ _ _ same_remove_item
      (both_if SameMethod (bytes_eq n (codes "index")) _ _ _ _ same_index_of tt))))))

  same_dict_methods : (n : List ℕ) → BothHave SameMethod (named_in dict_methods n) (named_in dict_methods n)
  same_dict_methods n =
      both_if SameMethod (bytes_eq n (codes "get")) _ _ _ _ same_get (both_if SameMethod (bytes_eq n (codes "pop")) _ _ _ _ same_pop_key (both_if SameMethod (bytes_eq n (codes "setdefault")) _ _ _ _ same_set_default
      (both_if SameMethod (bytes_eq n (codes "keys")) _ _ _ _ same_keys_of (both_if SameMethod (bytes_eq n (codes "values")) _ _ _ _ same_values_of (both_if SameMethod (bytes_eq n (codes "items")) _ _ _ _ same_items_of_dict
      (both_if SameMethod (bytes_eq n (codes "update")) _ _ _ _ same_update (both_if SameMethod (bytes_eq n (codes "clear")) _ _ _ _ same_clear_dict tt)))))))

  same_text_methods : (n : List ℕ) → BothHave SameTextMethod (named_in text_methods n) (named_in text_methods n)
  same_text_methods n =
      both_if SameTextMethod (bytes_eq n (codes "find")) _ _ _ _ same_find (both_if SameTextMethod (bytes_eq n (codes "split")) _ _ _ _ same_split (both_if SameTextMethod (bytes_eq n (codes "join")) _ _ _ _ same_join
      (both_if SameTextMethod (bytes_eq n (codes "replace")) _ _ _ _ same_replace (both_if SameTextMethod (bytes_eq n (codes "strip")) _ _ _ _ (same_strip_ends true true) (both_if SameTextMethod (bytes_eq n (codes "lstrip")) _ _ _ _ (same_strip_ends true false)
      (both_if SameTextMethod (bytes_eq n (codes "rstrip")) _ _ _ _ (same_strip_ends false true) (both_if SameTextMethod (bytes_eq n (codes "startswith")) _ _ _ _ (same_tested_with texts.starts_with)
      (both_if SameTextMethod (bytes_eq n (codes "endswith")) _ _ _ _ (same_tested_with texts.ends_with) tt))))))))

  abbrev SameCall : (List Value → Action C Value) → (List Value → Action D Value) → Type 0
  SameCall f g = (vs : List Value) → Same name (f vs) (g vs)

  object_call : (id : ℕ) (o : Option (ObjectMethod C)) (p : Option (ObjectMethod D)) → BothHave SameMethod o p
      → BothHave SameCall (option_map (λ m. m name.locked id) o) (option_map (λ m. m name.locked id) p)
  object_call id None None h = tt
  object_call id (Some m) (Some n) h = h id
  object_call id None (Some n) h = absurd h
  object_call id (Some m) None h = absurd h

  text_call : (text : List ℕ) (o : Option (TextMethod C)) (p : Option (TextMethod D)) → BothHave SameTextMethod o p
      → BothHave SameCall (option_map (λ m. m text) o) (option_map (λ m. m text) p)
  text_call text None None h = tt
  text_call text (Some m) (Some n) h = h text
  text_call text None (Some n) h = absurd h
  text_call text (Some m) None h = absurd h

  same_method_at : (n : List ℕ) (x : Value-F Value) → BothHave SameCall (method_at name.locked n x) (method_at name.locked n x)
  same_method_at n (Value-F.List id) = object_call id _ _ (same_list_methods n)
  same_method_at n (Value-F.Dict id) = object_call id _ _ (same_dict_methods n)
  same_method_at n (Value-F.Text text) = text_call text _ _ (same_text_methods n)
  same_method_at n _ = tt

  same_found : (o : Option (List Value → Action C Value)) (p : Option (List Value → Action D Value)) (vs : List Value) (n : ByName) → BothHave SameCall o p
      → Same name (given_or failure.NoMethod o >>= (λ m. unnamed n (m vs))) (given_or failure.NoMethod p >>= (λ m. unnamed n (m vs)))
  same_found None None vs n h = same_fail name _
  same_found (Some f) (Some g) vs n h = same_unnamed name n _ _ (h vs)
  same_found None (Some g) vs n h = absurd h
  same_found (Some f) None vs n h = absurd h

  pub same_call_method : (n : List ℕ) (of : Value) (vs : List Value) (by : ByName) → Same name (call_method name.locked n of vs by) (call_method name.locked n of vs by)
  unfolding call_method
  same_call_method n of vs by = same_found _ _ vs by (same_method_at n (out-Value of))
