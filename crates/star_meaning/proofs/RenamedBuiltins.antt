-- The built-in functions do the same whatever the names of cells.
use Rattle.std.proofs.Common.{◌≡◌, ℕ, ℤ, pos, List, [], ◌∷◌, length, reverse, Bool, true, false, ap}
use Rattle.std.specs.Prelude.{Option, Some, None, if◌then◌else◌, codes, ◌+ℤ◌, unsigned_abs}
use Rattle.std.specs.List.{list_all, list_any}
use Rattle.star_value.specs.declared.builtin.Builtin.{Builtin}
use Rattle.star_value.specs.declared.builtin.Builtin.TheVariants as builtin
use Rattle.star_value.specs.declared.failure.Failure.{Failure}
use Rattle.star_value.specs.declared.failure.Failure.TheVariants as failure
use Rattle.star_value.specs.declared.key.Key.{Key}
use Rattle.star_value.specs.declared.value.Value.{Value, out-Value}
use Rattle.star_value.specs.declared.value.Value.TheOpen.{Value-F}
use Rattle.star_value.specs.declared.value.Value.TheVariants as value
use Rattle.star_meaning.specs.State.{State, dict_put}
use Rattle.star_meaning.specs.Steps.{Action, ◌>>=◌, pure}
use Rattle.star_meaning.specs.Values.{items_of, new_dict, in_range, is_empty, is_true, is_zero, type_name}
use Rattle.star_meaning.specs.Showing.{Naming, quoted, shown}
use Rattle.star_meaning.specs.Builtins.{ByName, absolute, all_items, are_alike, as_int, as_int_or, as_text, as_value, backwards, best_argument, best_item, call_builtin, check, copied_pairs, count_at, dict_from, dict_of, enumerate, extreme, sorted_items, int_of, int_of_text, is_before, last_number, len, list_of, list_of_tuples, numbered, only_named, pair_at, pairs_from, printed, range, range_of, read_int, reversed, rows_of, separator, silent, sorted, tested, truth, tuple_of, tuples, two_of, unnamed, walk_alike, walk_first, walk_tuple, with_one, with_one_or_two, with_optional, zip}
use Rattle.star_meaning.specs.Renaming.{Names, state_as, Same}
use Rattle.star_meaning.proofs.Renamed.{same_then, same_pure, same_fail, same_given_or, same_charge, same_read, list_as, dict_as}
use Rattle.star_meaning.proofs.RenamedComparing.{same_if_then, same_key_in, same_list, same_dict}
use Rattle.star_meaning.proofs.RenamedShowing.{is_true_as, same_check_depth, same_items_of, same_joined, same_made, same_made_between, same_new_dict, same_new_list, same_new_tuple, same_quoted, same_shown}
use Rattle.star_meaning.proofs.RenamedOperators.{same_charged_list, same_integer}

module _ {C D : Type 0} (name : Names C D) where
  -- ---- arguments

  same_check : (e : Failure) (b : Bool) → Same name (check e b) (check e b)
  same_check e b = same_if_then name b _ _ _ _ (same_pure name _) (same_fail name _)

  pub same_unnamed : {A : Type 0} (n : ByName) (p : Action C A) (q : Action D A) → Same name p q → Same name (unnamed n p) (unnamed n q)
  same_unnamed n p q h = same_if_then name (is_empty n) _ _ _ _ h (same_fail name _)

  module _ {A : Type 0} where
    pub same_with_one : (f : Value → Action C A) (g : Value → Action D A) → ((v : Value) → Same name (f v) (g v)) → (vs : List Value) → Same name (with_one f vs) (with_one g vs)
    same_with_one f g h [] = same_fail name _
    same_with_one f g h (x ∷ []) = h x
    same_with_one f g h (x ∷ y ∷ vs) = same_fail name _

    pub same_with_optional : (f : Option Value → Action C A) (g : Option Value → Action D A) → ((o : Option Value) → Same name (f o) (g o)) → (vs : List Value) → Same name (with_optional f vs) (with_optional g vs)
    same_with_optional f g h [] = h None
    same_with_optional f g h (x ∷ []) = h (Some x)
    same_with_optional f g h (x ∷ y ∷ vs) = same_fail name _

    pub same_with_one_or_two : (f : Value → Option Value → Action C A) (g : Value → Option Value → Action D A) → ((v : Value) (o : Option Value) → Same name (f v o) (g v o)) → (vs : List Value)
        → Same name (with_one_or_two f vs) (with_one_or_two g vs)
    same_with_one_or_two f g h [] = same_fail name _
    same_with_one_or_two f g h (x ∷ []) = h x None
    same_with_one_or_two f g h (x ∷ y ∷ []) = h x (Some y)
    same_with_one_or_two f g h (x ∷ y ∷ z ∷ vs) = same_fail name _

  pub same_as_int : (v : Value) → Same name (as_int v) (as_int v)
  same_as_int v = same_given_or name _ _

  pub same_as_text : (v : Value) → Same name (as_text v) (as_text v)
  same_as_text v = same_given_or name _ _

  pub same_as_int_or : (z : ℤ) (o : Option Value) → Same name (as_int_or z o) (as_int_or z o)
  same_as_int_or z None = same_pure name _
  same_as_int_or z (Some v) = same_as_int v

  -- ---- print, str, repr

  same_separator : (o : Option Value) → Same name (separator o) (separator o)
  same_separator None = same_pure name _
  same_separator (Some v) = same_as_text v

  same_as_value : (p : Action C (List ℕ)) (q : Action D (List ℕ)) → Same name p q → Same name (as_value p) (as_value q)
  same_as_value p q h = same_then name _ _ _ _ h (λ text. same_pure name _)

  -- ---- len, bool, abs, int, range

  same_count_at : (x : Value-F Value) → Same name (count_at x) (count_at x)
  same_count_at (Value-F.Text points) = same_pure name _
  same_count_at (Value-F.Tuple items) = same_pure name _
  same_count_at (Value-F.Range r) = same_pure name _
  same_count_at (Value-F.List id) = same_read name _ _ (λ s. ap (λ xs. length xs) (list_as name.to s id))
  same_count_at (Value-F.Dict id) = same_read name _ _ (λ s. ap (λ xs. length xs) (dict_as name.to s id))
  same_count_at _ = same_fail name _

  same_len : (v : Value) → Same name (len v) (len v)
  unfolding len
  same_len v = same_then name _ _ _ _ (same_count_at (out-Value v)) (λ n. same_integer name (pos n))

  same_absolute : (v : Value) → Same name (absolute v) (absolute v)
  same_absolute v = same_then name _ _ _ _ (same_as_int v) (λ z. same_integer name (pos (unsigned_abs z)))

  same_truth : (v : Value) → Same name (truth v) (truth v)
  same_truth v = same_read name _ _ (λ s. ap value.Bool (is_true_as name s v))

  same_int_of_text : (points : List ℕ) → Same name (int_of_text points) (int_of_text points)
  same_int_of_text points =
      same_then name _ _ _ _ (same_given_or name failure.BadText (read_int points)) (λ z. same_then name _ _ _ _ (same_integer name z) (λ v. same_then name _ _ _ _ (same_charge name _) (λ _. same_pure name v)))

  same_int_of : (x : Value-F Value) → Same name (int_of x) (int_of x)
  same_int_of (Value-F.Int z) = same_pure name _
  same_int_of (Value-F.Bool true) = same_pure name _
  same_int_of (Value-F.Bool false) = same_pure name _
  same_int_of (Value-F.Text points) = same_int_of_text points
  same_int_of Value-F.None = same_fail name _
  same_int_of (Value-F.Tuple items) = same_fail name _
  same_int_of (Value-F.Range r) = same_fail name _
  same_int_of (Value-F.List id) = same_fail name _
  same_int_of (Value-F.Dict id) = same_fail name _
  same_int_of (Value-F.Function id) = same_fail name _
  same_int_of (Value-F.Builtin which) = same_fail name _

  same_range_of : (a b : Value) (c : Option Value) → Same name (range_of a b c) (range_of a b c)
  same_range_of a b c =
      same_then name _ _ _ _ (same_as_int a) (λ x. same_then name _ _ _ _ (same_as_int b) (λ y. same_then name _ _ _ _ (same_as_int_or (pos 1) c) (λ z. same_if_then name (is_zero z) _ _ _ _ (same_fail name _) (same_pure name _))))

  same_range : (vs : List Value) → Same name (range vs) (range vs)
  unfolding range
  same_range [] = same_fail name _
  same_range (b ∷ []) = same_range_of (value.Int (pos 0)) b None
  same_range (a ∷ b ∷ []) = same_range_of a b None
  same_range (a ∷ b ∷ c ∷ []) = same_range_of a b (Some c)
  same_range (a ∷ b ∷ c ∷ d ∷ vs) = same_fail name _

  -- ---- list, tuple, reversed, all, any, dict

  same_list_of : (o : Option Value) → Same name (list_of o) (list_of o)
  same_list_of None = same_new_list name []
  same_list_of (Some v) = same_then name _ _ _ _ (same_items_of name v) (same_charged_list name)

  same_walk_tuple : (xs : List Value) → Same name (walk_tuple xs) (walk_tuple xs)
  same_walk_tuple [] = same_pure name _
  same_walk_tuple (x ∷ xs) = same_then name _ _ _ _ (same_charge name _) (λ _. same_then name _ _ _ _ (same_check_depth name (value.Tuple (x ∷ []))) (λ _. same_walk_tuple xs))

  same_tuple_of : (o : Option Value) → Same name (tuple_of o) (tuple_of o)
  same_tuple_of None = same_pure name _
  same_tuple_of (Some v) = same_then name _ _ _ _ (same_items_of name v) (λ items. same_then name _ _ _ _ (same_walk_tuple items) (λ _. same_pure name _))

  same_reversed : (v : Value) → Same name (reversed v) (reversed v)
  same_reversed v = same_then name _ _ _ _ (same_items_of name v) (λ items. same_charged_list name (reverse items))

  all_as : (s : State C) (xs : List Value) → list_all (is_true (state_as name.to s)) xs ≡ list_all (is_true s) xs
  all_as s xs = ap (λ f. list_all f xs) (λ i v. is_true_as name s v i)

  any_as : (s : State C) (xs : List Value) → list_any (is_true (state_as name.to s)) xs ≡ list_any (is_true s) xs
  any_as s xs = ap (λ f. list_any f xs) (λ i v. is_true_as name s v i)

  same_tested : (f : (Value → Bool) → List Value → Bool) → ((s : State C) (xs : List Value) → f (is_true (state_as name.to s)) xs ≡ f (is_true s) xs) → (v : Value) → Same name (tested f v) (tested f v)
  same_tested f h v = same_then name _ _ _ _ (same_items_of name v) (λ items. same_then name _ _ _ _ (same_charge name _) (λ _. same_read name _ _ (λ s. ap value.Bool (h s items))))

  same_two_of : (xs : List Value) → Same name (two_of xs) (two_of xs)
  same_two_of [] = same_fail name _
  same_two_of (x ∷ []) = same_fail name _
  same_two_of (x ∷ y ∷ []) = same_pure name _
  same_two_of (x ∷ y ∷ z ∷ xs) = same_fail name _

  same_pair_at : (x : Value-F Value) → Same name (pair_at x) (pair_at x)
  same_pair_at (Value-F.List id) = same_then name _ _ _ _ (same_list name id) same_two_of
  same_pair_at (Value-F.Tuple items) = same_two_of items
  same_pair_at _ = same_fail name _

  same_pairs_from : (done : List (Key × Value)) (xs : List Value) → Same name (pairs_from done xs) (pairs_from done xs)
  same_pairs_from done [] = same_pure name _
  same_pairs_from done (x ∷ xs) =
      same_then name _ _ _ _ (same_charge name _) (λ _. same_then name _ _ _ _ (same_pair_at (out-Value x)) (λ pair. same_then name _ _ _ _ (same_key_in name pair.0) (λ key.
      same_then name _ _ _ _ (same_charge name _) (λ _. same_pairs_from (dict_put done key pair.1) xs))))

  same_copied_pairs : (pairs : List (Key × Value)) → Same name (copied_pairs pairs) (copied_pairs pairs)
  same_copied_pairs pairs = same_then name _ _ _ _ (same_charge name _) (λ _. same_then name _ _ _ _ (same_charge name _) (λ _. same_new_dict name pairs))

  same_made_dict : (v : Value) → Same name (items_of v >>= pairs_from [] >>= new_dict) (items_of v >>= pairs_from [] >>= new_dict)
  same_made_dict v = same_then name _ _ _ _ (same_then name _ _ _ _ (same_items_of name v) (same_pairs_from [])) (same_new_dict name)

  same_dict_from : (x : Value-F Value) (v : Value) → Same name (dict_from x v) (dict_from x v)
  same_dict_from (Value-F.Dict id) v = same_then name _ _ _ _ (same_dict name id) same_copied_pairs
  same_dict_from Value-F.None v = same_made_dict v
  same_dict_from (Value-F.Bool b) v = same_made_dict v
  same_dict_from (Value-F.Int z) v = same_made_dict v
  same_dict_from (Value-F.Text points) v = same_made_dict v
  same_dict_from (Value-F.Tuple items) v = same_made_dict v
  same_dict_from (Value-F.Range r) v = same_made_dict v
  same_dict_from (Value-F.List id) v = same_made_dict v
  same_dict_from (Value-F.Function id) v = same_made_dict v
  same_dict_from (Value-F.Builtin which) v = same_made_dict v

  same_dict_of : (o : Option Value) → Same name (dict_of o) (dict_of o)
  same_dict_of None = same_new_dict name []
  same_dict_of (Some v) = same_dict_from (out-Value v) v

  -- ---- enumerate, zip

  same_tuples : (rows : List (List Value)) → Same name (tuples rows) (tuples rows)
  same_tuples [] = same_pure name _
  same_tuples (row ∷ rows) = same_then name _ _ _ _ (same_charge name _) (λ _. same_then name _ _ _ _ (same_new_tuple name row) (λ v. same_then name _ _ _ _ (same_tuples rows) (λ more. same_pure name _)))

  pub same_list_of_tuples : (rows : List (List Value)) → Same name (list_of_tuples rows) (list_of_tuples rows)
  same_list_of_tuples rows = same_then name _ _ _ _ (same_tuples rows) (same_new_list name)

  same_last_number : (z : ℤ) (xs : List Value) → Same name (last_number z xs) (last_number z xs)
  same_last_number z [] = same_pure name _
  same_last_number z (x ∷ xs) = same_then name _ _ _ _ (same_given_or name failure.IntegerTooLarge (in_range (z +ℤ pos (length xs)))) (λ _. same_pure name _)

  same_enumerate : (v : Value) (o : Option Value) → Same name (enumerate v o) (enumerate v o)
  same_enumerate v o =
      same_then name _ _ _ _ (same_items_of name v) (λ items. same_then name _ _ _ _ (same_as_int_or (pos 0) o) (λ z. same_then name _ _ _ _ (same_last_number z items) (λ _. same_list_of_tuples (numbered z items))))

  same_all_items : (vs : List Value) → Same name (all_items vs) (all_items vs)
  same_all_items [] = same_pure name _
  same_all_items (v ∷ vs) = same_then name _ _ _ _ (same_items_of name v) (λ items. same_then name _ _ _ _ (same_all_items vs) (λ more. same_pure name _))

  same_zip : (vs : List Value) → Same name (zip vs) (zip vs)
  unfolding zip
  same_zip vs = same_then name _ _ _ _ (same_all_items vs) (λ columns. same_list_of_tuples (rows_of columns))

  -- ---- sorted, min, max

  same_walk_alike : (x : Value) (xs : List Value) → Same name (walk_alike x xs) (walk_alike x xs)
  same_walk_alike x [] = same_pure name _
  same_walk_alike x (y ∷ ys) = same_then name _ _ _ _ (same_charge name _) (λ _. same_then name _ _ _ _ (same_check failure.WrongType (are_alike x y)) (λ _. same_walk_alike x ys))

  same_walk_first : (xs : List Value) → Same name (walk_first xs) (walk_first xs)
  same_walk_first [] = same_pure name _
  same_walk_first (x ∷ xs) = same_walk_alike x (x ∷ xs)

  same_backwards : (o : Option Value) → Same name (backwards o) (backwards o)
  same_backwards None = same_pure name _
  same_backwards (Some v) = same_given_or name _ _

  same_sorted : (n : ByName) (v : Value) → Same name (sorted n v) (sorted n v)
  same_sorted n v =
      same_then name _ _ _ _ (same_given_or name failure.WrongArguments (only_named (codes "reverse") n)) (λ given. same_then name _ _ _ _ (same_items_of name v) (λ items. same_then name _ _ _ _ (same_backwards given) (λ back.
      same_then name _ _ _ _ (same_walk_first items) (λ _. same_new_list name (if back then reverse (sorted_items items) else sorted_items items)))))

  same_best_item : (f : Value → Value → Bool) (xs : List Value) → Same name (best_item f xs) (best_item f xs)
  same_best_item f [] = same_fail name _
  same_best_item f (x ∷ xs) = same_then name _ _ _ _ (same_walk_alike x (x ∷ xs)) (λ _. same_pure name _)

  same_best_argument : (f : Value → Value → Bool) (x : Value) (xs : List Value) → Same name (best_argument f x xs) (best_argument f x xs)
  same_best_argument f x xs = same_then name _ _ _ _ (same_check failure.WrongType (list_all (are_alike x) (x ∷ xs))) (λ _. same_then name _ _ _ _ (same_charge name _) (λ _. same_pure name _))

  same_extreme : (f : Value → Value → Bool) (vs : List Value) → Same name (extreme f vs) (extreme f vs)
  unfolding extreme
  same_extreme f [] = same_fail name _
  same_extreme f (v ∷ []) = same_then name _ _ _ _ (same_items_of name v) (same_best_item f)
  same_extreme f (x ∷ y ∷ more) = same_best_argument f x (y ∷ more)

  module _ (nc : Naming C) (nd : Naming D) (hn : (c : C) (n : ℕ) → nd (name.to c) n ≡ nc c n) where
    same_printed : (vs : List Value) (n : ByName) → Same name (printed nc vs n) (printed nd vs n)
    same_printed vs n =
        same_then name _ _ _ _ (same_given_or name failure.WrongArguments (only_named (codes "sep") n)) (λ by. same_then name _ _ _ _ (same_separator by) (λ sep.
        same_joined name _ _ _ _ (same_made_between name sep (shown nc) (shown nd) (same_shown name nc nd hn) vs) (same_made name (10 ∷ []))))

    same_silent : (p : Action C Value) (q : Action D Value) → Same name p q → Same name (silent p) (silent q)
    same_silent p q h = same_then name _ _ _ _ h (λ v. same_pure name _)

    pub same_call_builtin : (which : Builtin) (vs : List Value) (n : ByName) → Same name (call_builtin nc which vs n) (call_builtin nd which vs n)
    unfolding call_builtin
    same_call_builtin builtin.Abs vs n = same_silent _ _ (same_unnamed n _ _ (same_with_one absolute absolute same_absolute vs))
    same_call_builtin builtin.All vs n = same_silent _ _ (same_unnamed n _ _ (same_with_one (tested list_all) (tested list_all) (same_tested list_all all_as) vs))
    same_call_builtin builtin.Any vs n = same_silent _ _ (same_unnamed n _ _ (same_with_one (tested list_any) (tested list_any) (same_tested list_any any_as) vs))
    same_call_builtin builtin.Bool vs n = same_silent _ _ (same_unnamed n _ _ (same_with_one truth truth same_truth vs))
    same_call_builtin builtin.Dict vs n = same_silent _ _ (same_unnamed n _ _ (same_with_optional dict_of dict_of same_dict_of vs))
    same_call_builtin builtin.Enumerate vs n = same_silent _ _ (same_unnamed n _ _ (same_with_one_or_two enumerate enumerate same_enumerate vs))
    same_call_builtin builtin.Int vs n = same_silent _ _ (same_unnamed n _ _ (same_with_one (λ v. int_of (out-Value v)) (λ v. int_of (out-Value v)) (λ v. same_int_of (out-Value v)) vs))
    same_call_builtin builtin.Len vs n = same_silent _ _ (same_unnamed n _ _ (same_with_one len len same_len vs))
    same_call_builtin builtin.List vs n = same_silent _ _ (same_unnamed n _ _ (same_with_optional list_of list_of same_list_of vs))
    same_call_builtin builtin.Max vs n = same_silent _ _ (same_unnamed n _ _ (same_extreme (λ y x. is_before x y) vs))
    same_call_builtin builtin.Min vs n = same_silent _ _ (same_unnamed n _ _ (same_extreme is_before vs))
    same_call_builtin builtin.Print vs n = same_then name _ _ _ _ (same_printed vs n) (λ text. same_pure name _)
    same_call_builtin builtin.Range vs n = same_silent _ _ (same_unnamed n _ _ (same_range vs))
    same_call_builtin builtin.Repr vs n = same_silent _ _ (same_unnamed n _ _ (same_with_one (λ v. as_value (quoted nc v)) (λ v. as_value (quoted nd v)) (λ v. same_as_value _ _ (same_quoted name nc nd hn v)) vs))
    same_call_builtin builtin.Reversed vs n = same_silent _ _ (same_unnamed n _ _ (same_with_one reversed reversed same_reversed vs))
    same_call_builtin builtin.Sorted vs n = same_silent _ _ (same_with_one (sorted n) (sorted n) (same_sorted n) vs)
    same_call_builtin builtin.Str vs n = same_silent _ _ (same_unnamed n _ _ (same_with_one (λ v. as_value (shown nc v)) (λ v. as_value (shown nd v)) (λ v. same_as_value _ _ (same_shown name nc nd hn v)) vs))
    same_call_builtin builtin.Tuple vs n = same_silent _ _ (same_unnamed n _ _ (same_with_optional tuple_of tuple_of same_tuple_of vs))
    same_call_builtin builtin.Type vs n = same_silent _ _ (same_unnamed n _ _ (same_with_one (λ v. pure (value.Text (type_name v))) (λ v. pure (value.Text (type_name v))) (λ v. same_pure name (value.Text (type_name v))) vs))
    same_call_builtin builtin.Zip vs n = same_silent _ _ (same_unnamed n _ _ (same_zip vs))
