-- Comparing does the same whatever the names of cells.
use Rattle.std.proofs.Common.{ℕ, zero, suc, ◌+◌, List, [], ◌∷◌, length, Bool, true, false, ap}
use Rattle.std.specs.Prelude.{Option, Some, None, ◌==◌, not, ◌&&◌, if◌then◌else◌, is_some}
use Rattle.star_syntax.specs.declared.operator.CompareOp.{CompareOp}
use Rattle.star_syntax.specs.declared.operator.CompareOp.TheVariants as op
use Rattle.star_value.specs.declared.failure.Failure.TheVariants as failure
use Rattle.star_value.specs.declared.key.Key.{Key}
use Rattle.star_value.specs.declared.value.Value.{Value, out-Value}
use Rattle.star_value.specs.declared.value.Value.TheOpen.{Value-F}
use Rattle.star_meaning.specs.State.{list, dict, dict_get}
use Rattle.star_meaning.specs.Steps.{Action, read}
use Rattle.star_meaning.specs.Comparing.{Verdict, Same as Equal, Before, After, Apart, Test, onward, walk, walk_lists, same_value, walk_found, walk_pairs, walk_dicts, deeper, look, compared, equal, ordered_as, are_ordered, by_order, search_from, search_in, stop_or, within_list, key_in, within_dict, within_text, within_at, within, negated, compare}
use Rattle.star_meaning.specs.Renaming.{Names, Same}
use Rattle.star_meaning.proofs.Renamed.{same_then, same_pure, same_fail, same_given_or, same_charge, same_read, list_as, dict_as}

module _ {C D : Type 0} (name : Names C D) where
  pub same_if_then : {A : Type 0} (b : Bool) (p x : Action C A) (q y : Action D A) → Same name p q → Same name x y → Same name (if b then p else x) (if b then q else y)
  same_if_then true p x q y h k = h
  same_if_then false p x q y h k = k

  pub same_onward : (p : Action C Verdict) (q : Action D Verdict) (v : Verdict) → Same name p q → Same name (onward p v) (onward q v)
  same_onward p q Equal h = h
  same_onward p q Before h = same_pure name Before
  same_onward p q After h = same_pure name After
  same_onward p q Apart h = same_pure name Apart

  pub same_walk : (t : Test C) (u : Test D) → ((a b : Value) → Same name (t a b) (u a b)) → (xs ys : List Value) → Same name (walk t xs ys) (walk u xs ys)
  same_walk t u h [] [] = same_pure name Equal
  same_walk t u h [] (y ∷ ys) = same_pure name Before
  same_walk t u h (x ∷ xs) [] = same_pure name After
  same_walk t u h (x ∷ xs) (y ∷ ys) = same_then name _ _ _ _ (h x y) (λ v. same_onward _ _ v (same_walk t u h xs ys))

  pub same_walk_lists : (l : Bool) (t : Test C) (u : Test D) → ((a b : Value) → Same name (t a b) (u a b)) → (xs ys : List Value) → Same name (walk_lists l t xs ys) (walk_lists l u xs ys)
  same_walk_lists l t u h xs ys = same_if_then (l && not (length xs == length ys)) _ _ _ _ (same_pure name Apart) (same_walk t u h xs ys)

  same_same_value : (p : Action C Verdict) (q : Action D Verdict) (v : Verdict) → Same name p q → Same name (same_value p v) (same_value q v)
  same_same_value p q Equal h = h
  same_same_value p q Before h = same_pure name Apart
  same_same_value p q After h = same_pure name Apart
  same_same_value p q Apart h = same_pure name Apart

  same_walk_found : (t : Test C) (u : Test D) → ((a b : Value) → Same name (t a b) (u a b)) → (v : Value) (o : Option Value) (p : Action C Verdict) (q : Action D Verdict) → Same name p q
      → Same name (walk_found t v o p) (walk_found u v o q)
  same_walk_found t u h v None p q k = same_pure name Apart
  same_walk_found t u h v (Some x) p q k = same_then name _ _ _ _ (h v x) (λ y. same_same_value p q y k)

  pub same_walk_pairs : (t : Test C) (u : Test D) → ((a b : Value) → Same name (t a b) (u a b)) → (xs ys : List (Key × Value)) → Same name (walk_pairs t xs ys) (walk_pairs u xs ys)
  same_walk_pairs t u h [] ys = same_pure name Equal
  same_walk_pairs t u h (x ∷ xs) ys = same_then name _ _ _ _ (same_charge name _) (λ _. same_walk_found t u h x.1 (dict_get ys x.0) _ _ (same_walk_pairs t u h xs ys))

  same_walk_dicts : (t : Test C) (u : Test D) → ((a b : Value) → Same name (t a b) (u a b)) → (xs ys : List (Key × Value)) → Same name (walk_dicts t xs ys) (walk_dicts u xs ys)
  same_walk_dicts t u h xs ys = same_if_then (length xs == length ys) _ _ _ _ (same_walk_pairs t u h xs ys) (same_pure name Apart)

  -- both may nest no further, or both go on alike
  abbrev Inner : Option (Test C) → Option (Test D) → Type 0
  Inner None None = Unit {0}
  Inner (Some t) (Some u) = (a b : Value) → Same name (t a b) (u a b)
  Inner None (Some u) = ⊥
  Inner (Some t) None = ⊥

  same_deeper : (i : Option (Test C)) (j : Option (Test D)) (f : Test C → Action C Verdict) (g : Test D → Action D Verdict)
      → Inner i j → ((t : Test C) (u : Test D) → ((a b : Value) → Same name (t a b) (u a b)) → Same name (f t) (g u)) → Same name (deeper i f) (deeper j g)
  same_deeper None None f g h k = same_fail name failure.TooDeep
  same_deeper (Some t) (Some u) f g h k = k t u h
  same_deeper None (Some u) f g h k = absurd h
  same_deeper (Some t) None f g h k = absurd h

  pub same_list : (id : ℕ) → Same name (read (λ s. list s id)) (read (λ s. list s id))
  same_list id = same_read name _ _ (λ s. list_as name.to s id)

  pub same_dict : (id : ℕ) → Same name (read (λ s. dict s id)) (read (λ s. dict s id))
  same_dict id = same_read name _ _ (λ s. dict_as name.to s id)

  same_look : (l : Bool) (i : Option (Test C)) (j : Option (Test D)) → Inner i j → (x y : Value-F Value) → Same name (look l i x y) (look l j x y)
  same_look l i j h Value-F.None Value-F.None = same_pure name _
  same_look l i j h (Value-F.Bool a) (Value-F.Bool b) = same_pure name _
  same_look l i j h (Value-F.Int a) (Value-F.Int b) = same_pure name _
  same_look l i j h (Value-F.Text a) (Value-F.Text b) = same_pure name _
  same_look l i j h (Value-F.Tuple xs) (Value-F.Tuple ys) = same_deeper i j _ _ h (λ t u k. same_walk_lists l t u k xs ys)
  same_look l i j h (Value-F.Range a) (Value-F.Range b) = same_pure name _
  same_look l i j h (Value-F.List a) (Value-F.List b) =
      same_then name _ _ _ _ (same_list a) (λ xs. same_then name _ _ _ _ (same_list b) (λ ys. same_deeper i j _ _ h (λ t u k. same_walk_lists l t u k xs ys)))
  same_look l i j h (Value-F.Dict a) (Value-F.Dict b) =
      same_then name _ _ _ _ (same_dict a) (λ xs. same_then name _ _ _ _ (same_dict b) (λ ys. same_deeper i j _ _ h (λ t u k. same_walk_dicts t u k xs ys)))
  same_look l i j h (Value-F.Function a) (Value-F.Function b) = same_pure name _
  same_look l i j h (Value-F.Builtin a) (Value-F.Builtin b) = same_pure name _
  same_look l i j h _ _ = same_pure name Apart

  pub same_compared : (l : Bool) (n : ℕ) (a b : Value) → Same name (compared l n a b) (compared l n a b)
  unfolding compared
  same_compared l zero a b = same_then name _ _ _ _ (same_charge name _) (λ _. same_look l None None tt (out-Value a) (out-Value b))
  same_compared l (suc n) a b = same_then name _ _ _ _ (same_charge name _) (λ _. same_look l (Some (compared l n)) (Some (compared l n)) (same_compared l n) (out-Value a) (out-Value b))

  pub same_equal : (a b : Value) → Same name (equal a b) (equal a b)
  unfolding equal
  same_equal a b = same_then name _ _ _ _ (same_compared true 64 a b) (λ v. same_pure name _)

  same_ordered_as : (x y z : Bool) (v : Verdict) → Same name (ordered_as x y z v) (ordered_as x y z v)
  same_ordered_as x y z Before = same_pure name _
  same_ordered_as x y z Equal = same_pure name _
  same_ordered_as x y z After = same_pure name _
  same_ordered_as x y z Apart = same_fail name _

  same_by_order : (f : Verdict → Action C Bool) (g : Verdict → Action D Bool) → ((v : Verdict) → Same name (f v) (g v)) → (a b : Value) → Same name (by_order f a b) (by_order g a b)
  unfolding by_order
  same_by_order f g h a b = same_if_then (are_ordered (out-Value a) (out-Value b)) _ _ _ _ (same_then name _ _ _ _ (same_compared false 64 a b) h) (same_fail name _)

  same_stop_or : (b : Bool) (n : ℕ) (p : Action C (Option ℕ)) (q : Action D (Option ℕ)) → Same name p q → Same name (stop_or b n p) (stop_or b n q)
  same_stop_or true n p q h = same_pure name _
  same_stop_or false n p q h = h

  same_search_from : (n : ℕ) (x : Value) (xs : List Value) → Same name (search_from n x xs) (search_from n x xs)
  same_search_from n x [] = same_pure name _
  same_search_from n x (y ∷ ys) = same_then name _ _ _ _ (same_equal x y) (λ b. same_stop_or b n _ _ (same_search_from (n + 1) x ys))

  pub same_search_in : (x : Value) (xs : List Value) → Same name (search_in x xs) (search_in x xs)
  unfolding search_in
  same_search_in x xs = same_search_from 0 x xs

  same_within_list : (x : Value) (xs : List Value) → Same name (within_list x xs) (within_list x xs)
  same_within_list x xs = same_then name _ _ _ _ (same_search_in x xs) (λ o. same_pure name _)

  pub same_key_in : (x : Value) → Same name (key_in x) (key_in x)
  same_key_in x = same_given_or name _ _

  same_within_dict : (x : Value) (id : ℕ) → Same name (within_dict x id) (within_dict x id)
  same_within_dict x id = same_then name _ _ _ _ (same_key_in x) (λ k. same_then name _ _ _ _ (same_charge name _) (λ _. same_read name _ _ (λ s. ap (λ ps. is_some (dict_get ps k)) (dict_as name.to s id))))

  same_within_text : (a b : List ℕ) → Same name (within_text a b) (within_text a b)
  same_within_text a b = same_then name _ _ _ _ (same_charge name _) (λ _. same_pure name _)

  same_within_at : (x : Value) (a b : Value-F Value) → Same name (within_at x a b) (within_at x a b)
  same_within_at x _ (Value-F.List id) = same_then name _ _ _ _ (same_list id) (same_within_list x)
  same_within_at x _ (Value-F.Tuple items) = same_within_list x items
  same_within_at x _ (Value-F.Dict id) = same_within_dict x id
  same_within_at x (Value-F.Int z) (Value-F.Range r) = same_pure name _
  same_within_at x (Value-F.Text a) (Value-F.Text b) = same_within_text a b
  same_within_at x _ _ = same_fail name _

  same_within : (x y : Value) → Same name (within x y) (within x y)
  unfolding within
  same_within x y = same_within_at x (out-Value x) (out-Value y)

  same_negated : (p : Action C Bool) (q : Action D Bool) → Same name p q → Same name (negated p) (negated q)
  same_negated p q h = same_then name _ _ _ _ h (λ b. same_pure name _)

  pub same_compare : (o : CompareOp) (x y : Value) → Same name (compare o x y) (compare o x y)
  unfolding compare
  same_compare op.Equal x y = same_equal x y
  same_compare op.NotEqual x y = same_negated _ _ (same_equal x y)
  same_compare op.Less x y = same_by_order _ _ (same_ordered_as true false false) x y
  same_compare op.Greater x y = same_by_order _ _ (same_ordered_as false false true) x y
  same_compare op.AtMost x y = same_by_order _ _ (same_ordered_as true true false) x y
  same_compare op.AtLeast x y = same_by_order _ _ (same_ordered_as false true true) x y
  same_compare op.Within x y = same_within x y
  same_compare op.NotWithin x y = same_negated _ _ (same_within x y)
