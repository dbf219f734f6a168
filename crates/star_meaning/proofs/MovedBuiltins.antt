-- The built-in functions do the same with other numbers of objects.
use Rattle.std.proofs.Common.{◌≡◌, ℕ, ℤ, pos, List, [], ◌∷◌, map, length, reverse, Bool, true, false, refl, sym, ap, subst, ◌∙◌}
use Rattle.std.proofs.lemmas.List.{length-map}
use Rattle.std.specs.Prelude.{Option, Some, None, option_map, if◌then◌else◌, ◌&&◌, ◌||◌, codes, bytes_eq, ◌+ℤ◌, unsigned_abs}
use Rattle.std.specs.List.{list_all, list_any}
use Rattle.star_value.specs.declared.builtin.Builtin.{Builtin}
use Rattle.star_value.specs.declared.builtin.Builtin.TheVariants as builtin
use Rattle.star_value.specs.declared.failure.Failure.{Failure}
use Rattle.star_value.specs.declared.failure.Failure.TheVariants as failure
use Rattle.star_value.specs.declared.key.Key.{Key}
use Rattle.star_value.specs.declared.value.Value.{Value, out-Value}
use Rattle.star_value.specs.declared.value.Value.TheOpen.{Value-F}
use Rattle.star_value.specs.declared.value.Value.TheVariants as value
use Rattle.star_value.specs.Weight.{weight}
use Rattle.star_meaning.specs.State.{State, dict, dict_put, list}
use Rattle.star_meaning.specs.Steps.{Action, ◌>>=◌, pure}
use Rattle.star_meaning.specs.Values.{charge_items, items_of, new_dict, in_range, is_true, key_values, type_name}
use Rattle.star_meaning.specs.Showing.{Naming, quoted, shown}
use Rattle.star_meaning.specs.Builtins.{ByName, absolute, all_items, are_alike, are_alike_at, as_int, as_int_or, as_text, as_value, backwards, best, best_argument, best_item, call_builtin, check, copied_pairs, count_at, dict_from, dict_of, each_before, enumerate, extreme, placed, sorted_items, int_of, int_of_text, is_before, is_before_at, last_number, len, list_of, list_of_tuples, new_range, numbered, only_named, pair_at, pairs_from, printed, range, range_of, read_int, reversed, rows_of, separator, silent, sorted, tested, truth, tuple_of, tuples, two_of, unnamed, walk_alike, walk_first, walk_tuple, with_one, with_one_or_two, with_optional, zip}
use Rattle.star_meaning.proofs.MovedValues.{Moving, bool_moved, by_out, by_two, entry_to, int_moved, keys_moved, layer, moved, moved_bool, moved_int, moved_none, moved_range, moved_tuple, pair_to, text_moved, type_moved, weight_moved}
use Rattle.star_meaning.proofs.MovedLists.{empty_map, put_map, reverse_map}
use Rattle.star_meaning.proofs.Moved.{Acts, Within, act_charge, act_charge_is, act_dict, act_fail, act_given_or, act_if, act_list, act_new_dict, act_new_list, act_pure, act_read, act_then, dict_moved, list_moved}
use Rattle.star_meaning.proofs.MovedComparing.{Acts_same, act_charge_items, act_charge_weight, act_check_depth, act_given, act_items_of, act_joined, act_key_in, act_made, act_made_between, act_new_tuple, act_quoted, act_shown, depth_of_tuple, truth_moved}
use Rattle.star_meaning.proofs.MovedOperators.{Acts_value, act_charged_list, act_int, act_integer, act_text, act_tuple}

module _ (mv : Moving) where
  abbrev each : List Value → List Value
  each vs = map (moved mv) vs

  abbrev perhaps : Option Value → Option Value
  perhaps o = option_map (moved mv) o

  abbrev pub named_to : ByName → ByName
  named_to n = map (entry_to mv) n

  only_if : (b : Bool) (v : Value) → (if b then Some (Some (moved mv v)) else None) ≡ option_map perhaps (if b then Some (Some v) else None)
  only_if true v = refl
  only_if false v = refl

  only_moved : (name : List ℕ) (n : ByName) → only_named name (named_to n) ≡ option_map perhaps (only_named name n)
  only_moved name [] = refl
  only_moved name (entry ∷ []) = only_if (bytes_eq entry.0 name) entry.1
  only_moved name (entry ∷ next ∷ more) = refl

  abbrev both_to : Value × Value → Value × Value
  both_to p = (moved mv p.0, moved mv p.1)

  numbered_moved : (z : ℤ) (xs : List Value) → numbered z (each xs) ≡ map each (numbered z xs)
  numbered_moved z [] = refl
  numbered_moved z (x ∷ xs) = λ j. (sym (moved_int mv z) j ∷ moved mv x ∷ []) ∷ numbered_moved (z +ℤ pos 1) xs j

  before_moved : (xs : List Value) (rows : List (List Value)) → each_before (each xs) (map each rows) ≡ map each (each_before xs rows)
  before_moved [] rows = refl
  before_moved (x ∷ xs) [] = refl
  before_moved (x ∷ xs) (row ∷ rows) = ap (λ r. (moved mv x ∷ each row) ∷ r) (before_moved xs rows)

  lone_moved : (xs : List Value) → map (λ x. x ∷ []) (each xs) ≡ map each (map (λ x. x ∷ []) xs)
  lone_moved [] = refl
  lone_moved (x ∷ xs) = ap (λ r. (moved mv x ∷ []) ∷ r) (lone_moved xs)

  rows_moved : (columns : List (List Value)) → rows_of (map each columns) ≡ map each (rows_of columns)
  rows_moved [] = refl
  rows_moved (column ∷ []) = lone_moved column
  rows_moved (column ∷ next ∷ more) = ap (each_before (each column)) (rows_moved (next ∷ more)) ∙ before_moved column (rows_of (next ∷ more))

  alike_layers : (x y : Value-F Value) → are_alike_at (layer mv x) (layer mv y) ≡ are_alike_at x y
  alike_layers (Value-F.Int a) (Value-F.Int b) = refl
  alike_layers (Value-F.Text a) (Value-F.Text b) = refl
  alike_layers _ _ = refl

  alike_moved : (x y : Value) → are_alike (moved mv x) (moved mv y) ≡ are_alike x y
  alike_moved x y = by_two mv (λ a b c d. are_alike_at c d ≡ are_alike_at a b) alike_layers x y

  before_layers : (x y : Value-F Value) → is_before_at (layer mv x) (layer mv y) ≡ is_before_at x y
  before_layers (Value-F.Int a) (Value-F.Int b) = refl
  before_layers (Value-F.Text a) (Value-F.Text b) = refl
  before_layers _ _ = refl

  is_before_moved : (x y : Value) → is_before (moved mv x) (moved mv y) ≡ is_before x y
  is_before_moved x y = by_two mv (λ a b c d. is_before_at c d ≡ is_before_at a b) before_layers x y

  all_alike : (x : Value) (xs : List Value) → list_all (are_alike (moved mv x)) (each xs) ≡ list_all (are_alike x) xs
  all_alike x [] = refl
  all_alike x (y ∷ ys) = λ j. alike_moved x y j && all_alike x ys j

  placed_if : (b : Bool) (x y : Value) (ys more rest : List Value) → rest ≡ each more → (if b then moved mv y ∷ rest else moved mv x ∷ moved mv y ∷ each ys) ≡ each (if b then y ∷ more else x ∷ y ∷ ys)
  placed_if true x y ys more rest h = ap (λ r. moved mv y ∷ r) h
  placed_if false x y ys more rest h = refl

  placed_moved : (x : Value) (ys : List Value) → placed (moved mv x) (each ys) ≡ each (placed x ys)
  placed_moved x [] = refl
  placed_moved x (y ∷ ys) =
      ap (λ b. if b then moved mv y ∷ placed (moved mv x) (each ys) else moved mv x ∷ moved mv y ∷ each ys) (is_before_moved y x)
      ∙ placed_if (is_before y x) x y ys (placed x ys) _ (placed_moved x ys)

  sorted_moved : (xs : List Value) → sorted_items (each xs) ≡ each (sorted_items xs)
  unfolding sorted_items
  sorted_moved [] = refl
  sorted_moved (x ∷ xs) = ap (placed (moved mv x)) (sorted_moved xs) ∙ placed_moved x (sorted_items xs)

  in_order : (b : Bool) (items : List Value) → (if b then reverse (sorted_items (each items)) else sorted_items (each items)) ≡ each (if b then reverse (sorted_items items) else sorted_items items)
  in_order true items = ap (λ xs. reverse xs) (sorted_moved items) ∙ reverse_map (moved mv) (sorted_items items)
  in_order false items = sorted_moved items

  chosen_if : (b : Bool) (x y : Value) → (if b then moved mv y else moved mv x) ≡ moved mv (if b then y else x)
  chosen_if true x y = refl
  chosen_if false x y = refl

  best_of : (better : Value → Value → Bool) → ((x y : Value) → better (moved mv x) (moved mv y) ≡ better x y) → (x : Value) (xs : List Value) → best better (moved mv x) (each xs) ≡ moved mv (best better x xs)
  best_of better h x [] = refl
  best_of better h x (y ∷ ys) =
      ap (λ z. best better z (each ys)) (ap (λ b. if b then moved mv y else moved mv x) (h y x) ∙ chosen_if (better y x) x y) ∙ best_of better h (if better y x then y else x) ys

  -- the result, and the same text
  abbrev pub answer_to : Value × List ℕ → Value × List ℕ
  answer_to answer = (moved mv answer.0, answer.1)

module _ {C : Type 0} (mv : Moving) where
  -- ---- arguments

  act_check : (e : Failure) (b c : Bool) → c ≡ b → Acts_same {C = C} mv (check e b) (check e c)
  act_check e b c h = act_if mv h (act_pure mv refl) (act_fail mv)

  pub act_unnamed : {A : Type 0} (f : A → A) (n : ByName) (p q : Action C A) → Acts {C = C} mv f p q → Acts {C = C} mv f (unnamed n p) (unnamed (named_to mv n) q)
  act_unnamed f n p q h = act_if mv (empty_map (entry_to mv) n) h (act_fail mv)

  pub act_with_one : (f g : Value → Action C Value) → ((v : Value) → Acts_value {C = C} mv (f v) (g (moved mv v))) → (vs : List Value) → Acts_value {C = C} mv (with_one f vs) (with_one g (each mv vs))
  act_with_one f g h [] = act_fail mv
  act_with_one f g h (x ∷ []) = h x
  act_with_one f g h (x ∷ y ∷ vs) = act_fail mv

  pub act_with_optional : (f g : Option Value → Action C Value) → ((o : Option Value) → Acts_value {C = C} mv (f o) (g (perhaps mv o))) → (vs : List Value) → Acts_value {C = C} mv (with_optional f vs) (with_optional g (each mv vs))
  act_with_optional f g h [] = h None
  act_with_optional f g h (x ∷ []) = h (Some x)
  act_with_optional f g h (x ∷ y ∷ vs) = act_fail mv

  pub act_with_one_or_two : (f g : Value → Option Value → Action C Value) → ((v : Value) (o : Option Value) → Acts_value {C = C} mv (f v o) (g (moved mv v) (perhaps mv o))) → (vs : List Value)
      → Acts_value {C = C} mv (with_one_or_two f vs) (with_one_or_two g (each mv vs))
  act_with_one_or_two f g h [] = act_fail mv
  act_with_one_or_two f g h (x ∷ []) = h x None
  act_with_one_or_two f g h (x ∷ y ∷ []) = h x (Some y)
  act_with_one_or_two f g h (x ∷ y ∷ z ∷ vs) = act_fail mv

  pub act_as_int : (v : Value) → Acts_same {C = C} mv (as_int v) (as_int (moved mv v))
  act_as_int v = act_given mv _ (int_moved mv v)

  pub act_as_text : (v : Value) → Acts_same {C = C} mv (as_text v) (as_text (moved mv v))
  act_as_text v = act_given mv _ (text_moved mv v)

  pub act_as_int_or : (z : ℤ) (o : Option Value) → Acts_same {C = C} mv (as_int_or z o) (as_int_or z (perhaps mv o))
  act_as_int_or z None = act_pure mv refl
  act_as_int_or z (Some v) = act_as_int v

  pub act_bool : {b c : Bool} → c ≡ b → Acts_value {C = C} mv (pure (value.Bool b)) (pure (value.Bool c))
  act_bool {b = b} h = act_pure mv (ap value.Bool h ∙ sym (moved_bool mv b))

  -- ---- print, str, repr

  act_separator : (o : Option Value) → Acts_same {C = C} mv (separator o) (separator (perhaps mv o))
  act_separator None = act_pure mv refl
  act_separator (Some v) = act_as_text v

  act_as_value : (p q : Action C (List ℕ)) → Acts_same {C = C} mv p q → Acts_value {C = C} mv (as_value p) (as_value q)
  act_as_value p q h = act_then mv _ h (λ text. act_text mv _)

  -- ---- len, bool, abs, int, range

  act_count_at : (x : Value-F Value) → Acts_same {C = C} mv (count_at x) (count_at (layer mv x))
  act_count_at (Value-F.Text points) = act_pure mv refl
  act_count_at (Value-F.Tuple items) = act_pure mv (length-map items (moved mv))
  act_count_at (Value-F.Range r) = act_pure mv refl
  act_count_at (Value-F.List id) = act_read mv (λ n. n) _ _ (λ s t i. ap (λ xs. length xs) (list_moved mv s t i id) ∙ length-map (list s id) (moved mv))
  act_count_at (Value-F.Dict id) = act_read mv (λ n. n) _ _ (λ s t i. ap (λ xs. length xs) (dict_moved mv s t i id) ∙ length-map (dict s id) (pair_to mv))
  act_count_at _ = act_fail mv

  act_len : (v : Value) → Acts_value {C = C} mv (len v) (len (moved mv v))
  unfolding len
  act_len v = act_then mv _ (by_out mv (λ x y. Acts_same {C = C} mv (count_at x) (count_at y)) act_count_at v) (λ n. act_integer mv (pos n))

  act_absolute : (v : Value) → Acts_value {C = C} mv (absolute v) (absolute (moved mv v))
  act_absolute v = act_then mv _ (act_as_int v) (λ z. act_integer mv (pos (unsigned_abs z)))

  act_truth : (v : Value) → Acts_value {C = C} mv (truth v) (truth (moved mv v))
  act_truth v = act_read mv (moved mv) _ _ (λ s t i. ap value.Bool (truth_moved mv s t i v) ∙ sym (moved_bool mv (is_true s v)))

  act_int_of_text : (points : List ℕ) → Acts_value {C = C} mv (int_of_text points) (int_of_text points)
  act_int_of_text points = act_then mv _ (act_given mv failure.BadText {o = read_int points} {p = read_int points} refl) (λ z. act_then mv _ (act_integer mv z) (λ v. act_then mv _ (act_charge mv _) (λ _. act_pure mv refl)))

  act_int_of : (x : Value-F Value) → Acts_value {C = C} mv (int_of x) (int_of (layer mv x))
  act_int_of (Value-F.Int z) = act_int mv _
  act_int_of (Value-F.Bool true) = act_int mv _
  act_int_of (Value-F.Bool false) = act_int mv _
  act_int_of (Value-F.Text points) = act_int_of_text points
  act_int_of Value-F.None = act_fail mv
  act_int_of (Value-F.Tuple items) = act_fail mv
  act_int_of (Value-F.Range r) = act_fail mv
  act_int_of (Value-F.List id) = act_fail mv
  act_int_of (Value-F.Dict id) = act_fail mv
  act_int_of (Value-F.Function id) = act_fail mv
  act_int_of (Value-F.Builtin which) = act_fail mv

  act_new_range : (x y z : ℤ) → Acts_value {C = C} mv (new_range x y z) (new_range x y z)
  act_new_range x y z = act_if mv refl (act_fail mv) (act_pure mv (sym (moved_range mv (record { start = x; stop = y; step = z }))))

  act_range_of : (a b : Value) (c : Option Value) → Acts_value {C = C} mv (range_of a b c) (range_of (moved mv a) (moved mv b) (perhaps mv c))
  act_range_of a b c = act_then mv _ (act_as_int a) (λ x. act_then mv _ (act_as_int b) (λ y. act_then mv _ (act_as_int_or (pos 1) c) (λ z. act_new_range x y z)))

  act_range_to : (b : Value) → Acts_value {C = C} mv (range_of (value.Int (pos 0)) b None) (range_of (value.Int (pos 0)) (moved mv b) None)
  act_range_to b = subst (λ v. Acts_value {C = C} mv (range_of (value.Int (pos 0)) b None) (range_of v (moved mv b) None)) (moved_int mv (pos 0)) (act_range_of (value.Int (pos 0)) b None)

  act_range : (vs : List Value) → Acts_value {C = C} mv (range vs) (range (each mv vs))
  unfolding range
  act_range [] = act_fail mv
  act_range (b ∷ []) = act_range_to b
  act_range (a ∷ b ∷ []) = act_range_of a b None
  act_range (a ∷ b ∷ c ∷ []) = act_range_of a b (Some c)
  act_range (a ∷ b ∷ c ∷ d ∷ vs) = act_fail mv

  -- ---- list, tuple, reversed, all, any, dict

  act_list_of : (o : Option Value) → Acts_value {C = C} mv (list_of o) (list_of (perhaps mv o))
  act_list_of None = act_new_list mv _ refl
  act_list_of (Some v) = act_then mv _ (act_items_of mv v) (λ items. act_charged_list mv items _ refl)

  act_walk_tuple : (xs : List Value) → Acts_same {C = C} mv (walk_tuple xs) (walk_tuple (each mv xs))
  act_walk_tuple [] = act_pure mv refl
  act_walk_tuple (x ∷ xs) =
      act_then mv _ (act_charge_weight mv x) (λ _. act_then mv _ (act_check_depth mv (value.Tuple (x ∷ [])) (value.Tuple (moved mv x ∷ [])) (depth_of_tuple mv (x ∷ []))) (λ _. act_walk_tuple xs))

  act_tuple_of : (o : Option Value) → Acts_value {C = C} mv (tuple_of o) (tuple_of (perhaps mv o))
  act_tuple_of None = act_tuple mv _ refl
  act_tuple_of (Some v) = act_then mv _ (act_items_of mv v) (λ items. act_then mv _ (act_walk_tuple items) (λ _. act_tuple mv _ refl))

  act_reversed : (v : Value) → Acts_value {C = C} mv (reversed v) (reversed (moved mv v))
  act_reversed v = act_then mv _ (act_items_of mv v) (λ items. act_charged_list mv (reverse items) _ (reverse_map (moved mv) items))

  all_moved : (s t : State C) → Within mv s t → (xs : List Value) → list_all (is_true t) (each mv xs) ≡ list_all (is_true s) xs
  all_moved s t i [] = refl
  all_moved s t i (x ∷ xs) = λ j. truth_moved mv s t i x j && all_moved s t i xs j

  any_moved : (s t : State C) → Within mv s t → (xs : List Value) → list_any (is_true t) (each mv xs) ≡ list_any (is_true s) xs
  any_moved s t i [] = refl
  any_moved s t i (x ∷ xs) = λ j. truth_moved mv s t i x j || any_moved s t i xs j

  act_tested : (f : (Value → Bool) → List Value → Bool) → ((s t : State C) → Within mv s t → (xs : List Value) → f (is_true t) (each mv xs) ≡ f (is_true s) xs) → (v : Value)
      → Acts_value {C = C} mv (tested f v) (tested f (moved mv v))
  act_tested f h v =
      act_then mv _ (act_items_of mv v) (λ items. act_then mv _ (act_charge_items mv items) (λ _. act_read mv (moved mv) _ _ (λ s t i. ap value.Bool (h s t i items) ∙ sym (moved_bool mv (f (is_true s) items)))))

  act_two_of : (xs : List Value) → Acts {C = C} mv (both_to mv) (two_of xs) (two_of (each mv xs))
  act_two_of [] = act_fail mv
  act_two_of (x ∷ []) = act_fail mv
  act_two_of (x ∷ y ∷ []) = act_pure mv refl
  act_two_of (x ∷ y ∷ z ∷ xs) = act_fail mv

  act_pair_at : (x : Value-F Value) → Acts {C = C} mv (both_to mv) (pair_at x) (pair_at (layer mv x))
  act_pair_at (Value-F.List id) = act_then mv two_of (act_list mv id) act_two_of
  act_pair_at (Value-F.Tuple items) = act_two_of items
  act_pair_at _ = act_fail mv

  act_pairs_from : (done : List (Key × Value)) (xs : List Value) → Acts {C = C} mv (map (pair_to mv)) (pairs_from done xs) (pairs_from (map (pair_to mv) done) (each mv xs))
  act_pairs_from done [] = act_pure mv refl
  act_pairs_from done (x ∷ xs) =
      act_then mv _ (act_charge_weight mv x) (λ _. act_then mv _ (by_out mv (λ a b. Acts {C = C} mv (both_to mv) (pair_at a) (pair_at b)) act_pair_at x) (λ pair. act_then mv _ (act_key_in mv pair.0) (λ key.
      act_then mv _ (act_charge_weight mv pair.0) (λ _. subst (λ ps. Acts {C = C} mv (map (pair_to mv)) (pairs_from (dict_put done key pair.1) xs) (pairs_from ps (each mv xs))) (sym (put_map (moved mv) done key pair.1)) (act_pairs_from (dict_put done key pair.1) xs)))))

  act_charge_keys : (pairs : List (Key × Value)) → Acts_same {C = C} mv (charge_items (key_values pairs)) (charge_items (key_values (map (pair_to mv) pairs)))
  act_charge_keys pairs = subst (λ vs. Acts_same {C = C} mv (charge_items (key_values pairs)) (charge_items vs)) (sym (keys_moved mv pairs)) (act_charge_items mv (key_values pairs))

  act_copied_pairs : (pairs : List (Key × Value)) → Acts_value {C = C} mv (copied_pairs pairs) (copied_pairs (map (pair_to mv) pairs))
  act_copied_pairs pairs = act_then mv _ (act_charge_keys pairs) (λ _. act_then mv _ (act_charge_keys pairs) (λ _. act_new_dict mv _ refl))

  act_made_dict : (v : Value) → Acts_value {C = C} mv (items_of v >>= pairs_from [] >>= new_dict) (items_of (moved mv v) >>= pairs_from [] >>= new_dict)
  act_made_dict v = act_then mv _ (act_then mv _ (act_items_of mv v) (act_pairs_from [])) (λ pairs. act_new_dict mv _ refl)

  act_dict_from : (v : Value) (x : Value-F Value) → Acts_value {C = C} mv (dict_from x v) (dict_from (layer mv x) (moved mv v))
  act_dict_from v (Value-F.Dict id) = act_then mv copied_pairs (act_dict mv id) act_copied_pairs
  act_dict_from v _ = act_made_dict v

  act_dict_of : (o : Option Value) → Acts_value {C = C} mv (dict_of o) (dict_of (perhaps mv o))
  act_dict_of None = act_new_dict mv _ refl
  act_dict_of (Some v) = by_out mv (λ x y. Acts_value {C = C} mv (dict_from x v) (dict_from y (moved mv v))) (act_dict_from v) v

  -- ---- enumerate, zip

  act_tuples : (rows : List (List Value)) → Acts {C = C} mv (each mv) (tuples rows) (tuples (map (each mv) rows))
  act_tuples [] = act_pure mv refl
  act_tuples (row ∷ rows) =
      act_then mv _ (act_charge_is mv (ap weight (sym (moved_tuple mv row)) ∙ weight_moved mv (value.Tuple row))) (λ _. act_then mv _ (act_new_tuple mv row) (λ v. act_then mv _ (act_tuples rows) (λ more. act_pure mv refl)))

  pub act_list_of_tuples : (rows others : List (List Value)) → others ≡ map (each mv) rows → Acts_value {C = C} mv (list_of_tuples rows) (list_of_tuples others)
  act_list_of_tuples rows others e = subst (λ os. Acts_value {C = C} mv (list_of_tuples rows) (list_of_tuples os)) (sym e) (act_then mv _ (act_tuples rows) (λ vs. act_new_list mv _ refl))

  act_last_number : (z : ℤ) (xs : List Value) → Acts_same {C = C} mv (last_number z xs) (last_number z (each mv xs))
  act_last_number z [] = act_pure mv refl
  act_last_number z (x ∷ xs) = act_then mv _ (act_given mv failure.IntegerTooLarge (ap (λ n. in_range (z +ℤ pos n)) (length-map xs (moved mv)))) (λ _. act_pure mv refl)

  act_enumerate : (v : Value) (o : Option Value) → Acts_value {C = C} mv (enumerate v o) (enumerate (moved mv v) (perhaps mv o))
  act_enumerate v o =
      act_then mv _ (act_items_of mv v) (λ items. act_then mv _ (act_as_int_or (pos 0) o) (λ z. act_then mv _ (act_last_number z items) (λ _. act_list_of_tuples (numbered z items) _ (numbered_moved mv z items))))

  act_all_items : (vs : List Value) → Acts {C = C} mv (map (each mv)) (all_items vs) (all_items (each mv vs))
  act_all_items [] = act_pure mv refl
  act_all_items (v ∷ vs) = act_then mv _ (act_items_of mv v) (λ items. act_then mv _ (act_all_items vs) (λ more. act_pure mv refl))

  act_zip : (vs : List Value) → Acts_value {C = C} mv (zip vs) (zip (each mv vs))
  unfolding zip
  act_zip vs = act_then mv _ (act_all_items vs) (λ columns. act_list_of_tuples (rows_of columns) _ (rows_moved mv columns))

  -- ---- sorted, min, max

  act_walk_alike : (x : Value) (xs : List Value) → Acts_same {C = C} mv (walk_alike x xs) (walk_alike (moved mv x) (each mv xs))
  act_walk_alike x [] = act_pure mv refl
  act_walk_alike x (y ∷ ys) = act_then mv _ (act_charge_weight mv y) (λ _. act_then mv _ (act_check failure.WrongType _ _ (alike_moved mv x y)) (λ _. act_walk_alike x ys))

  act_walk_first : (xs : List Value) → Acts_same {C = C} mv (walk_first xs) (walk_first (each mv xs))
  act_walk_first [] = act_pure mv refl
  act_walk_first (x ∷ xs) = act_walk_alike x (x ∷ xs)

  act_backwards : (o : Option Value) → Acts_same {C = C} mv (backwards o) (backwards (perhaps mv o))
  act_backwards None = act_pure mv refl
  act_backwards (Some v) = act_given mv _ (bool_moved mv v)

  act_sorted : (n : ByName) (v : Value) → Acts_value {C = C} mv (sorted n v) (sorted (named_to mv n) (moved mv v))
  act_sorted n v =
      act_then mv _ (act_given_or mv {f = (perhaps mv)} failure.WrongArguments (only_named (codes "reverse") n) (only_moved mv (codes "reverse") n)) (λ given. act_then mv _ (act_items_of mv v) (λ items. act_then mv _ (act_backwards given) (λ back.
      act_then mv _ (act_walk_first items) (λ _. act_new_list mv _ (in_order mv back items)))))

  module _ (better : Value → Value → Bool) (h : (x y : Value) → better (moved mv x) (moved mv y) ≡ better x y) where
    act_best_item : (xs : List Value) → Acts_value {C = C} mv (best_item better xs) (best_item better (each mv xs))
    act_best_item [] = act_fail mv
    act_best_item (x ∷ xs) = act_then mv _ (act_walk_alike x (x ∷ xs)) (λ _. act_pure mv (best_of mv better h x xs))

    act_best_argument : (x : Value) (xs : List Value) → Acts_value {C = C} mv (best_argument better x xs) (best_argument better (moved mv x) (each mv xs))
    act_best_argument x xs = act_then mv _ (act_check failure.WrongType _ _ (all_alike mv x (x ∷ xs))) (λ _. act_then mv _ (act_charge_items mv (x ∷ xs)) (λ _. act_pure mv (best_of mv better h x xs)))

    act_extreme : (vs : List Value) → Acts_value {C = C} mv (extreme better vs) (extreme better (each mv vs))
    unfolding extreme
    act_extreme [] = act_fail mv
    act_extreme (v ∷ []) = act_then mv _ (act_items_of mv v) act_best_item
    act_extreme (x ∷ y ∷ more) = act_best_argument x (y ∷ more)

  -- ---- the table

  act_type : (v : Value) → Acts_value {C = C} mv (pure (value.Text (type_name v))) (pure (value.Text (type_name (moved mv v))))
  act_type v = subst (λ t. Acts_value {C = C} mv (pure (value.Text (type_name v))) (pure (value.Text t))) (sym (type_moved mv v)) (act_text mv _)

  module _ (naming : Naming C) where
    act_printed : (vs : List Value) (n : ByName) → Acts_same {C = C} mv (printed naming vs n) (printed naming (each mv vs) (named_to mv n))
    act_printed vs n =
        act_then mv _ (act_given_or mv {f = (perhaps mv)} failure.WrongArguments (only_named (codes "sep") n) (only_moved mv (codes "sep") n)) (λ by. act_then mv _ (act_separator by) (λ sep.
        act_joined mv (act_made_between mv sep (shown naming) (moved mv) (act_shown mv naming) vs) (act_made mv (10 ∷ []))))

    act_silent : (p q : Action C Value) → Acts_value {C = C} mv p q → Acts {C = C} mv (answer_to mv) (silent p) (silent q)
    act_silent p q h = act_then mv _ h (λ v. act_pure mv refl)

    abbrev Answers : Builtin → List Value → ByName → Type 0
    Answers which vs n = Acts {C = C} mv (answer_to mv) (call_builtin naming which vs n) (call_builtin naming which (each mv vs) (named_to mv n))

    act_alone : (n : ByName) (p q : Action C Value) → Acts_value {C = C} mv p q → Acts {C = C} mv (answer_to mv) (silent (unnamed n p)) (silent (unnamed (named_to mv n) q))
    act_alone n p q h = act_silent _ _ (act_unnamed (moved mv) n p q h)

    pub act_call_builtin : (which : Builtin) (vs : List Value) (n : ByName) → Answers which vs n
    unfolding call_builtin
    act_call_builtin builtin.Abs vs n = act_alone n _ _ (act_with_one absolute absolute act_absolute vs)
    act_call_builtin builtin.All vs n = act_alone n _ _ (act_with_one (tested list_all) (tested list_all) (act_tested list_all all_moved) vs)
    act_call_builtin builtin.Any vs n = act_alone n _ _ (act_with_one (tested list_any) (tested list_any) (act_tested list_any any_moved) vs)
    act_call_builtin builtin.Bool vs n = act_alone n _ _ (act_with_one truth truth act_truth vs)
    act_call_builtin builtin.Dict vs n = act_alone n _ _ (act_with_optional dict_of dict_of act_dict_of vs)
    act_call_builtin builtin.Enumerate vs n = act_alone n _ _ (act_with_one_or_two enumerate enumerate act_enumerate vs)
    act_call_builtin builtin.Int vs n = act_alone n _ _ (act_with_one (λ v. int_of (out-Value v)) (λ v. int_of (out-Value v)) (λ v. by_out mv (λ x y. Acts_value {C = C} mv (int_of x) (int_of y)) act_int_of v) vs)
    act_call_builtin builtin.Len vs n = act_alone n _ _ (act_with_one len len act_len vs)
    act_call_builtin builtin.List vs n = act_alone n _ _ (act_with_optional list_of list_of act_list_of vs)
    act_call_builtin builtin.Max vs n = act_alone n _ _ (act_extreme (λ y x. is_before x y) (λ y x. (is_before_moved mv) x y) vs)
    act_call_builtin builtin.Min vs n = act_alone n _ _ (act_extreme is_before (is_before_moved mv) vs)
    act_call_builtin builtin.Print vs n = act_then mv _ (act_printed vs n) (λ text. act_pure mv (ap (λ v. (v, text)) (sym (moved_none mv))))
    act_call_builtin builtin.Range vs n = act_alone n _ _ (act_range vs)
    act_call_builtin builtin.Repr vs n = act_alone n _ _ (act_with_one (λ v. as_value (quoted naming v)) (λ v. as_value (quoted naming v)) (λ v. act_as_value _ _ (act_quoted mv naming v)) vs)
    act_call_builtin builtin.Reversed vs n = act_alone n _ _ (act_with_one reversed reversed act_reversed vs)
    act_call_builtin builtin.Sorted vs n = act_silent _ _ (act_with_one (sorted n) (sorted (named_to mv n)) (act_sorted n) vs)
    act_call_builtin builtin.Str vs n = act_alone n _ _ (act_with_one (λ v. as_value (shown naming v)) (λ v. as_value (shown naming v)) (λ v. act_as_value _ _ (act_shown mv naming v)) vs)
    act_call_builtin builtin.Tuple vs n = act_alone n _ _ (act_with_optional tuple_of tuple_of act_tuple_of vs)
    act_call_builtin builtin.Type vs n = act_alone n _ _ (act_with_one (λ v. pure (value.Text (type_name v))) (λ v. pure (value.Text (type_name v))) act_type vs)
    act_call_builtin builtin.Zip vs n = act_alone n _ _ (act_zip vs)
