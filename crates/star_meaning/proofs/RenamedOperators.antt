-- The operators do the same whatever the names of cells.
use Rattle.std.proofs.Common.{◌≡◌, ℕ, ℤ, pos, List, [], ◌∷◌, ◌++◌, length, Bool, true, false, refl, ap, ◌∙◌}
use Rattle.std.specs.Int.{int_bit_and, int_bit_or, int_bit_xor, w128}
use Rattle.std.specs.List.{repeat}
use Rattle.std.specs.Prelude.{◌-ℤ◌, Option, slice_set, ◌==◌, not, if◌then◌else◌, unwrap_or}
use Rattle.star_syntax.specs.declared.operator.BinaryOp.{BinaryOp}
use Rattle.star_syntax.specs.declared.operator.BinaryOp.TheVariants as op
use Rattle.star_syntax.specs.declared.operator.UnaryOp.{UnaryOp}
use Rattle.star_syntax.specs.declared.operator.UnaryOp.TheVariants as sign
use Rattle.star_value.specs.declared.failure.Failure.TheVariants as failure
use Rattle.star_value.specs.declared.format.Part.{Part}
use Rattle.star_value.specs.declared.format.Part.TheVariants as part
use Rattle.star_value.specs.declared.key.Key.{Key}
use Rattle.star_value.specs.declared.value.Value.{Value, out-Value}
use Rattle.star_value.specs.declared.value.Value.TheOpen.{Value-F}
use Rattle.star_meaning.specs.State.{list, dict, dict_get, dict_put, with_list, with_dict}
use Rattle.star_meaning.specs.Steps.{Action, change, fail, pure, ◌>>◌}
use Rattle.star_meaning.specs.Values.{has, integer, times, floor_of, rest_of, is_zero, place_of}
use Rattle.star_meaning.specs.Showing.{Naming}
use Rattle.star_meaning.specs.Operators.{bound, add_at, added_in_place, augmented, binary, Bounds, charged_list, check_sliced, check_unlocked, decimals_fit, divided, extend, filled, formatted_parts, index, index_at, is_sliced, item_at, joined_lists, modulo_at, multiply_at, on_ints, put_key, repeated_list, slice, slice_at, stepped, store, store_at, store_item, store_key, taken, unary, unpacked, unpacked_at, value_at_key, values_for, values_taken}
use Rattle.star_meaning.specs.Renaming.{Names, state_as, Same}
use Rattle.star_meaning.proofs.Renamed.{same_then, same_pure, same_fail, same_given_or, same_charge, same_read, same_change, list_as, dict_as, with_list_as, with_dict_as}
use Rattle.star_meaning.proofs.LaterLemmas.{later_dict, later_list}
use Rattle.star_meaning.proofs.RenamedComparing.{same_if_then, same_key_in, same_list}
use Rattle.star_meaning.proofs.RenamedShowing.{same_items_of, same_joined, same_new_list, same_quoted, same_shown}

module _ {C D : Type 0} (name : Names C D) where
  pub same_integer : (z : ℤ) → Same name (integer z) (integer z)
  same_integer z = same_given_or name _ _

  pub same_charged_list : (items : List Value) → Same name (charged_list items) (charged_list items)
  same_charged_list items = same_then name _ _ _ _ (same_charge name _) (λ _. same_new_list name items)

  same_joined_lists : (a b : ℕ) → Same name (joined_lists a b) (joined_lists a b)
  same_joined_lists a b = same_then name _ _ _ _ (same_list name a) (λ xs. same_then name _ _ _ _ (same_list name b) (λ ys. same_charged_list (xs ++ ys)))

  same_add_at : (x y : Value-F Value) → Same name (add_at x y) (add_at x y)
  same_add_at (Value-F.Int x) (Value-F.Int y) = same_integer _
  same_add_at (Value-F.Text x) (Value-F.Text y) = same_pure name _
  same_add_at (Value-F.Tuple x) (Value-F.Tuple y) = same_pure name _
  same_add_at (Value-F.List a) (Value-F.List b) = same_joined_lists a b
  same_add_at _ _ = same_fail name _

  same_on_ints : (f : ℤ → ℤ → Action C Value) (g : ℤ → ℤ → Action D Value) → ((a b : ℤ) → Same name (f a b) (g a b)) → (x y : Value-F Value) → Same name (on_ints f x y) (on_ints g x y)
  same_on_ints f g h (Value-F.Int x) (Value-F.Int y) = h x y
  same_on_ints f g h _ _ = same_fail name _

  same_repeated_list : (z : ℤ) (id : ℕ) → Same name (repeated_list z id) (repeated_list z id)
  same_repeated_list z id = same_then name _ _ _ _ (same_list name id) (λ xs. same_charged_list (repeat (times z) xs))

  same_multiply_at : (x y : Value-F Value) → Same name (multiply_at x y) (multiply_at x y)
  same_multiply_at (Value-F.Int x) (Value-F.Int y) = same_integer _
  same_multiply_at (Value-F.Text x) (Value-F.Int z) = same_pure name _
  same_multiply_at (Value-F.Int z) (Value-F.Text x) = same_pure name _
  same_multiply_at (Value-F.Tuple x) (Value-F.Int z) = same_pure name _
  same_multiply_at (Value-F.Int z) (Value-F.Tuple x) = same_pure name _
  same_multiply_at (Value-F.List id) (Value-F.Int z) = same_repeated_list z id
  same_multiply_at (Value-F.Int z) (Value-F.List id) = same_repeated_list z id
  same_multiply_at _ _ = same_fail name _

  same_divided : (f : ℤ → ℤ → ℤ) (x y : ℤ) → Same name (divided f x y) (divided f x y)
  same_divided f x y = same_if_then name _ _ _ _ _ (same_fail name _) (same_integer _)

  pub same_unary : (s : UnaryOp) (x : Value) → Same name (unary s x) (unary s x)
  unfolding unary
  same_unary sign.Plus x = same_then name _ _ _ _ (same_given_or name _ _) (λ z. same_integer _)
  same_unary sign.Minus x = same_then name _ _ _ _ (same_given_or name _ _) (λ z. same_integer _)
  same_unary sign.Invert x = same_then name _ _ _ _ (same_given_or name _ _) (λ z. same_integer _)

  -- ---- index and slice

  pub same_item_at : {A : Type 0} (xs : List A) (z : ℤ) → Same name (item_at xs z) (item_at xs z)
  same_item_at xs z = same_given_or name _ _

  same_value_at_key : (id : ℕ) (at : Value) → Same name (value_at_key id at) (value_at_key id at)
  same_value_at_key id at =
      same_then name _ _ _ _ (same_key_in name at) (λ key. same_then name _ _ _ _ (same_then name _ _ _ _ (same_read name _ _ (λ s. ap (λ ps. dict_get ps key) (dict_as name.to s id))) (same_given_or name failure.NoKey))
      (λ v. same_then name _ _ _ _ (same_charge name _) (λ _. same_pure name v)))

  same_index_at : (x : Value-F Value) (at : Value) (y : Value-F Value) → Same name (index_at x at y) (index_at x at y)
  same_index_at (Value-F.Dict id) at _ = same_value_at_key id at
  same_index_at (Value-F.List id) at (Value-F.Int z) = same_then name _ _ _ _ (same_list name id) (λ items. same_item_at items z)
  same_index_at (Value-F.Tuple items) at (Value-F.Int z) = same_item_at items z
  same_index_at (Value-F.Text points) at (Value-F.Int z) = same_then name _ _ _ _ (same_item_at points z) (λ c. same_pure name _)
  same_index_at (Value-F.Range r) at (Value-F.Int z) = same_given_or name _ _
  same_index_at _ at _ = same_fail name _

  pub same_index : (x at : Value) → Same name (index x at) (index x at)
  unfolding index
  same_index x at = same_index_at (out-Value x) at (out-Value at)

  same_slice_at : (x : Value-F Value) (i j : Option ℤ) (k : ℤ) → Same name (slice_at x i j k) (slice_at x i j k)
  same_slice_at (Value-F.List id) i j k = same_then name _ _ _ _ (same_list name id) (λ items. same_charged_list (taken items i j k))
  same_slice_at (Value-F.Tuple items) i j k = same_pure name _
  same_slice_at (Value-F.Text points) i j k = same_pure name _
  same_slice_at _ i j k = same_fail name _

  same_check_sliced : (x : Value-F Value) → Same name (check_sliced x) (check_sliced x)
  same_check_sliced x = same_if_then name (is_sliced x) _ _ _ _ (same_pure name _) (same_fail name _)

  same_stepped : (x : Value-F Value) (i j : Option ℤ) (k : ℤ) → Same name (stepped x i j k) (stepped x i j k)
  same_stepped x i j k = same_if_then name (is_zero k) _ _ _ _ (same_fail name _) (same_slice_at x i j k)

  pub same_slice : (x : Value) (bounds : Bounds) → Same name (slice x bounds) (slice x bounds)
  unfolding slice
  same_slice x bounds =
      same_then name _ _ _ _ (same_check_sliced (out-Value x)) (λ _. same_then name _ _ _ _ (same_given_or name failure.WrongType (bound bounds.start)) (λ i.
      same_then name _ _ _ _ (same_given_or name failure.WrongType (bound bounds.stop)) (λ j. same_then name _ _ _ _ (same_given_or name failure.WrongType (bound bounds.step)) (λ k.
      same_stepped (out-Value x) i j (unwrap_or k (pos 1))))))

  -- ---- changes

  abbrev unless : {X : Type 0} → Bool → Action X (Unit {0})
  unless b = if b then fail failure.ChangedWhileIterated else pure tt

  unlocked_if : {A : Type 0} (b : Bool) (p : Action C A) (q : Action D A) → (b ≡ false → Same name p q) → Same name (unless {X = C} b >> p) (unless {X = D} b >> q)
  unlocked_if true p q h = same_fail name failure.ChangedWhileIterated
  unlocked_if false p q h = h refl

  -- what is done to a list or dict where it is not iterated over
  pub same_unlocked : {A : Type 0} (id : ℕ) (p : Action C A) (q : Action D A) → (has name.locked id ≡ false → Same name p q) → Same name (check_unlocked name.locked id >> p) (check_unlocked name.locked id >> q)
  unfolding check_unlocked
  same_unlocked id p q h = unlocked_if (has name.locked id) p q h

  -- other items in a list, or other pairs in a dict, that are made of those there
  pub same_list_change : (id : ℕ) → has name.locked id ≡ false → (by : List Value → List Value) → Same name (change (λ s. with_list s id (by (list s id)))) (change (λ s. with_list s id (by (list s id))))
  same_list_change id free by = same_change name (λ s. with_list s id (by (list s id))) (λ s. with_list s id (by (list s id))) (λ s. ap (λ items. with_list (state_as name.to s) id (by items)) (list_as name.to s id) ∙ with_list_as name.to s id (by (list s id))) (λ s. later_list name.here name.locked s id (by (list s.state id)) free)

  pub same_dict_change : (id : ℕ) → has name.locked id ≡ false → (by : List (Key × Value) → List (Key × Value)) → Same name (change (λ s. with_dict s id (by (dict s id)))) (change (λ s. with_dict s id (by (dict s id))))
  same_dict_change id free by = same_change name (λ s. with_dict s id (by (dict s id))) (λ s. with_dict s id (by (dict s id))) (λ s. ap (λ pairs. with_dict (state_as name.to s) id (by pairs)) (dict_as name.to s id) ∙ with_dict_as name.to s id (by (dict s id))) (λ s. later_dict name.here name.locked s id (by (dict s.state id)) free)

  same_store_item : (id : ℕ) (z : ℤ) (v : Value) → Same name (store_item name.locked id z v) (store_item name.locked id z v)
  same_store_item id z v =
      same_unlocked id _ _ (λ free. same_then name _ _ _ _ (same_list name id) (λ items. same_then name _ _ _ _ (same_given_or name failure.BadIndex (place_of z (length items)))
      (λ place. same_list_change id free (λ _. slice_set items place v))))

  pub same_put_key : (id : ℕ) → has name.locked id ≡ false → (at : Value) (key : Key) (v : Value) → Same name (put_key id at key v) (put_key id at key v)
  same_put_key id free at key v = same_then name _ _ _ _ (same_charge name _) (λ _. same_dict_change id free (λ pairs. dict_put pairs key v))

  same_store_key : (id : ℕ) (at v : Value) → Same name (store_key name.locked id at v) (store_key name.locked id at v)
  same_store_key id at v = same_then name _ _ _ _ (same_key_in name at) (λ key. same_unlocked id _ _ (λ free. same_put_key id free at key v))

  same_store_at : (x : Value-F Value) (at : Value) (y : Value-F Value) (v : Value) → Same name (store_at name.locked x at y v) (store_at name.locked x at y v)
  same_store_at (Value-F.Dict id) at _ v = same_store_key id at v
  same_store_at (Value-F.List id) at (Value-F.Int z) v = same_store_item id z v
  same_store_at _ at _ v = same_fail name _

  pub same_store : (x at v : Value) → Same name (store name.locked x at v) (store name.locked x at v)
  unfolding store
  same_store x at v = same_store_at (out-Value x) at (out-Value at) v

  pub same_extend : (id : ℕ) (v : Value) → Same name (extend name.locked id v) (extend name.locked id v)
  unfolding extend
  same_extend id v =
      same_then name _ _ _ _ (same_items_of name v) (λ more. same_unlocked id _ _ (λ free. same_then name _ _ _ _ (same_charge name _) (λ _. same_list_change id free (λ items. items ++ more))))

  same_unpacked_at : (x : Value-F Value) → Same name (unpacked_at x) (unpacked_at x)
  same_unpacked_at (Value-F.List id) = same_list name id
  same_unpacked_at (Value-F.Tuple items) = same_pure name items
  same_unpacked_at _ = same_fail name _

  pub same_unpacked : (count : ℕ) (v : Value) → Same name (unpacked count v) (unpacked count v)
  unfolding unpacked
  same_unpacked count v =
      same_then name _ _ _ _ (same_unpacked_at (out-Value v)) (λ items. same_then name _ _ _ _ (same_charge name _) (λ _. same_if_then name (length items == count) _ _ _ _ (same_pure name items) (same_fail name _)))

  module _ (nc : Naming C) (nd : Naming D) (hn : (c : C) (n : ℕ) → nd (name.to c) n ≡ nc c n) where
    same_filled : (ps : List Part) (vs : List Value) → Same name (filled nc ps vs) (filled nd ps vs)
    same_filled [] vs = same_pure name _
    same_filled (part.Plain text ∷ ps) [] = same_joined name _ _ _ _ (same_pure name text) (same_filled ps [])
    same_filled (part.Plain text ∷ ps) (v ∷ vs) = same_joined name _ _ _ _ (same_pure name text) (same_filled ps (v ∷ vs))
    same_filled (part.Shown ∷ ps) (v ∷ vs) = same_joined name _ _ _ _ (same_shown name nc nd hn v) (same_filled ps vs)
    same_filled (part.Quoted ∷ ps) (v ∷ vs) = same_joined name _ _ _ _ (same_quoted name nc nd hn v) (same_filled ps vs)
    same_filled (part.Decimal ∷ ps) (v ∷ vs) = same_joined name _ _ _ _ (same_pure name _) (same_filled ps vs)
    same_filled (part.Shown ∷ ps) [] = same_pure name _
    same_filled (part.Quoted ∷ ps) [] = same_pure name _
    same_filled (part.Decimal ∷ ps) [] = same_pure name _

    same_formatted_parts : (ps : List Part) (vs : List Value) → Same name (formatted_parts nc ps vs) (formatted_parts nd ps vs)
    same_formatted_parts ps vs =
        same_if_then name (not (values_taken ps == length vs)) _ _ _ _ (same_fail name _)
        (same_if_then name (decimals_fit ps vs) _ _ _ _ (same_then name _ _ _ _ (same_filled ps vs) (λ text. same_pure name _)) (same_fail name _))

    same_modulo_at : (x : Value-F Value) (y : Value) → Same name (modulo_at nc x y) (modulo_at nd x y)
    same_modulo_at (Value-F.Text text) y = same_then name _ _ _ _ (same_given_or name _ _) (λ ps. same_formatted_parts ps (values_for (out-Value y) y))
    same_modulo_at (Value-F.Int z) y = same_on_ints (divided rest_of) (divided rest_of) (same_divided rest_of) (Value-F.Int z) (out-Value y)
    same_modulo_at _ y = same_fail name _

    pub same_binary : (o : BinaryOp) (x y : Value) → Same name (binary nc o x y) (binary nd o x y)
    unfolding binary
    same_binary op.Add x y = same_add_at (out-Value x) (out-Value y)
    same_binary op.Sub x y = same_on_ints (λ a b. integer (a -ℤ b)) (λ a b. integer (a -ℤ b)) (λ a b. same_integer (a -ℤ b)) (out-Value x) (out-Value y)
    same_binary op.Mul x y = same_multiply_at (out-Value x) (out-Value y)
    same_binary op.Floor x y = same_on_ints (divided floor_of) (divided floor_of) (same_divided floor_of) (out-Value x) (out-Value y)
    same_binary op.Mod x y = same_modulo_at (out-Value x) y
    same_binary op.And x y = same_on_ints (λ a b. integer (int_bit_and w128 a b)) (λ a b. integer (int_bit_and w128 a b)) (λ a b. same_integer (int_bit_and w128 a b)) (out-Value x) (out-Value y)
    same_binary op.Or x y = same_on_ints (λ a b. integer (int_bit_or w128 a b)) (λ a b. integer (int_bit_or w128 a b)) (λ a b. same_integer (int_bit_or w128 a b)) (out-Value x) (out-Value y)
    same_binary op.Xor x y = same_on_ints (λ a b. integer (int_bit_xor w128 a b)) (λ a b. integer (int_bit_xor w128 a b)) (λ a b. same_integer (int_bit_xor w128 a b)) (out-Value x) (out-Value y)

    same_added_in_place : (x : Value) (u : Value-F Value) (y : Value) → Same name (added_in_place nc name.locked x u y) (added_in_place nd name.locked x u y)
    same_added_in_place x (Value-F.List id) y = same_then name _ _ _ _ (same_extend id y) (λ _. same_pure name x)
    same_added_in_place x Value-F.None y = same_binary op.Add x y
    same_added_in_place x (Value-F.Bool b) y = same_binary op.Add x y
    same_added_in_place x (Value-F.Int z) y = same_binary op.Add x y
    same_added_in_place x (Value-F.Text points) y = same_binary op.Add x y
    same_added_in_place x (Value-F.Tuple items) y = same_binary op.Add x y
    same_added_in_place x (Value-F.Range r) y = same_binary op.Add x y
    same_added_in_place x (Value-F.Dict id) y = same_binary op.Add x y
    same_added_in_place x (Value-F.Function id) y = same_binary op.Add x y
    same_added_in_place x (Value-F.Builtin which) y = same_binary op.Add x y

    pub same_augmented : (o : BinaryOp) (x y : Value) → Same name (augmented nc name.locked o x y) (augmented nd name.locked o x y)
    unfolding augmented
    same_augmented op.Add x y = same_added_in_place x (out-Value x) y
    same_augmented op.Sub x y = same_binary op.Sub x y
    same_augmented op.Mul x y = same_binary op.Mul x y
    same_augmented op.Floor x y = same_binary op.Floor x y
    same_augmented op.Mod x y = same_binary op.Mod x y
    same_augmented op.And x y = same_binary op.And x y
    same_augmented op.Or x y = same_binary op.Or x y
    same_augmented op.Xor x y = same_binary op.Xor x y
