-- Expressions mean the same whatever the names of cells: the forms, over parts that mean the same.
use Rattle.std.proofs.Common.{◌≡◌, ℕ, suc, List, [], ◌∷◌, ◌++◌, map, length, Bool, true, false, refl, sym, ap, subst, ◌∙◌}
use Rattle.std.specs.Prelude.{Option, Some, None, is_some, if◌then◌else◌}
use Rattle.std.specs.List.{flat_map}
use Rattle.chex_base.specs.declared.input.Input.{Input}
use Rattle.chex_base.specs.declared.input.Input.TheVariants as input
use Rattle.star_syntax.specs.declared.expression.Clause.{Clause}
use Rattle.star_syntax.specs.declared.expression.Clause.TheVariants as clause
use Rattle.star_syntax.specs.declared.expression.Named.{Named}
use Rattle.star_syntax.specs.declared.expression.Pair.{Pair}
use Rattle.star_syntax.specs.declared.operator.CompareOp.{CompareOp}
use Rattle.star_syntax.specs.declared.operator.UnaryOp.{UnaryOp}
use Rattle.star_value.specs.declared.failure.Failure.TheVariants as failure
use Rattle.star_value.specs.declared.key.Key.{Key}
use Rattle.star_value.specs.declared.value.Value.{Value}
use Rattle.star_value.specs.Weight.{weight}
use Rattle.star_meaning.specs.State.{dict_get, dict_put}
use Rattle.star_meaning.specs.Steps.{Steps, ◌>>=◌, ◌>>◌, fail}
use Rattle.star_meaning.specs.Operators.{unpacked}
use Rattle.star_meaning.specs.Builtins.{ByName}
use Rattle.star_meaning.specs.Values.{has}
use Rattle.star_meaning.specs.World.{Work, World, acting, distinct, in_block, lock_of, unbound}
use Rattle.star_meaning.specs.Expressions.{item_value, Callee, Meant, call_function, clause_names, clauses_from, compared, comprehension, dict_turn, display_pairs, input_value, list_turn, loop_over, method_called, named_from, new_key, next_item, optional_value, signed, step_value, store_at, store_each, store_in, store_items, tests_value, truth, values, values_from}
use Rattle.star_meaning.specs.Renaming.{AreGood, Names, under, Same, SameAt, SameSteps, SameCallee, SameMeant}
use Rattle.star_meaning.proofs.Renamed.{same_then, same_pure, same_fail}
use Rattle.star_meaning.proofs.RenamedComparing.{same_if_then, same_compare, same_key_in}
use Rattle.star_meaning.proofs.RenamedShowing.{is_true_as, same_items_of, same_new_tuple}
use Rattle.star_meaning.proofs.RenamedOperators.{same_charged_list, same_store, same_unary, same_unpacked}
use Rattle.star_meaning.proofs.RenamedMethods.{same_call_method}
use Rattle.star_meaning.proofs.RenamedWorld.{same_acting, same_acting_at, same_charging, same_failing, same_going, same_in_block, same_locking, same_next, same_operate, same_operate_at, same_reading, same_turns}

-- two lists of one length whose items correspond
abbrev pub Each : {A B : Type 0} → (A → B → Type 0) → List A → List B → Type 0
Each R [] [] = Unit {0}
Each R (x ∷ xs) (y ∷ ys) = R x y × Each R xs ys
Each R [] (y ∷ ys) = ⊥
Each R (x ∷ xs) [] = ⊥

pub each_length : {A B : Type 0} (R : A → B → Type 0) (xs : List A) (ys : List B) → Each R xs ys → length ys ≡ length xs
each_length R [] [] h = refl
each_length R (x ∷ xs) (y ∷ ys) h = ap suc (each_length R xs ys h.1)
each_length R [] (y ∷ ys) h = absurd h
each_length R (x ∷ xs) [] h = absurd h

-- both there, or both not
abbrev pub Both : {A B : Type 0} → (A → B → Type 0) → Option A → Option B → Type 0
Both R None None = Unit {0}
Both R (Some x) (Some y) = R x y
Both R None (Some y) = ⊥
Both R (Some x) None = ⊥

module _ {C D : Type 0} (name : Names C D) where
  -- ---- operations of expressions

  same_new_key : (done : List (Key × Value)) (k : Value) → Same name (new_key done k) (new_key done k)
  same_new_key done k = same_then name _ _ _ _ (same_key_in name k) (λ key. same_if_then name (is_some (dict_get done key)) _ _ _ _ (same_fail name failure.RepeatedKey) (same_pure name key))

  pub same_input_value : (i : Input) → Same name (input_value i) (input_value i)
  same_input_value input.None = same_pure name _
  same_input_value (input.Bool b) = same_pure name _
  same_input_value (input.Int z) = same_pure name _
  same_input_value (input.Text points) = same_pure name _
  same_input_value (input.List items) = same_charged_list name (map item_value items)

  pub same_compared : (o : CompareOp) (x y : Value) → Same name (compared o x y) (compared o x y)
  same_compared o x y = same_then name _ _ _ _ (same_compare name o x y) (λ b. same_pure name _)

module _ {C D : Type 0} (name : Names C D) where
  abbrev pub Alike : Meant C → Meant D → Type 0
  Alike m n = SameMeant name m n

  pub record AlikeNamed (x : Named (Meant C)) (y : Named (Meant D)) : Type 0 where
    pub name_is : y.name ≡ x.name
    pub value_is : Alike x.value y.value

  -- ---- operands

  pub same_values_from : (done : List Value) (ms : List (Meant C)) (ns : List (Meant D)) → Each Alike ms ns → SameSteps name (values_from done ms) (values_from done ns)
  same_values_from done [] [] h = same_going name done
  same_values_from done (m ∷ ms) (n ∷ ns) h = same_next name _ _ _ _ h.0.value (λ v. same_values_from (done ++ v ∷ []) ms ns h.1)
  same_values_from done [] (n ∷ ns) h = absurd h
  same_values_from done (m ∷ ms) [] h = absurd h

  pub same_values : (ms : List (Meant C)) (ns : List (Meant D)) → Each Alike ms ns → SameSteps name (values ms) (values ns)
  unfolding values
  same_values ms ns h = same_values_from [] ms ns h

  same_named_step : (done : ByName) (x : Named (Meant C)) (xs : List (Named (Meant C))) (y : Named (Meant D)) (ys : List (Named (Meant D))) (v : Value) → y.name ≡ x.name
      → ((more : ByName) → SameSteps name (named_from more xs) (named_from more ys)) → SameSteps name (named_from (done ++ (x.name, v) ∷ []) xs) (named_from (done ++ (y.name, v) ∷ []) ys)
  same_named_step done x xs y ys v e k = subst (λ n. SameSteps name (named_from (done ++ (x.name, v) ∷ []) xs) (named_from (done ++ (n, v) ∷ []) ys)) (sym e) (k (done ++ (x.name, v) ∷ []))

  pub same_named_from : (done : ByName) (xs : List (Named (Meant C))) (ys : List (Named (Meant D))) → Each AlikeNamed xs ys → SameSteps name (named_from done xs) (named_from done ys)
  same_named_from done [] [] h = same_going name done
  same_named_from done (x ∷ xs) (y ∷ ys) h =
      same_next name _ _ _ _ h.0.value_is.value (λ v. same_named_step done x xs y ys v h.0.name_is (λ more. same_named_from more xs ys h.1))
  same_named_from done [] (y ∷ ys) h = absurd h
  same_named_from done (x ∷ xs) [] h = absurd h

  pub same_optional_value : (o : Option (Meant C)) (p : Option (Meant D)) → Both Alike o p → SameSteps name (optional_value o) (optional_value p)
  same_optional_value None None h = same_going name None
  same_optional_value (Some m) (Some n) h = same_next name _ _ _ _ h.value (λ v. same_going name (Some v))
  same_optional_value None (Some n) h = absurd h
  same_optional_value (Some m) None h = absurd h

  pub same_step_value : (o : Option (Option (Meant C))) (p : Option (Option (Meant D))) → Both (Both Alike) o p → SameSteps name (step_value o) (step_value p)
  same_step_value None None h = same_going name None
  same_step_value (Some m) (Some n) h = same_optional_value m n h
  same_step_value None (Some n) h = absurd h
  same_step_value (Some m) None h = absurd h

  pub same_truth : (v : Value) → SameSteps name (truth v) (truth v)
  same_truth v = same_reading name _ _ (λ s. is_true_as name s v)

  pub same_choose : {E A : Type 0} (b : Bool) (p x : Steps (World C) E A) (q y : Steps (World D) E A) → SameSteps name p q → SameSteps name x y → SameSteps name (if b then p else x) (if b then q else y)
  same_choose true p x q y h k = h
  same_choose false p x q y h k = k

  pub same_tests_value : (ms : List (Meant C)) (ns : List (Meant D)) → Each Alike ms ns → SameSteps name (tests_value ms) (tests_value ns)
  same_tests_value [] [] h = same_next name _ _ _ _ (same_values [] [] tt) (λ vs. same_operate name _ _ (λ locked. same_new_tuple (under name locked) vs))
  same_tests_value (m ∷ []) (n ∷ []) h = h.0.value
  same_tests_value (m ∷ l ∷ ms) (n ∷ o ∷ ns) h = same_next name _ _ _ _ (same_values (m ∷ l ∷ ms) (n ∷ o ∷ ns) h) (λ vs. same_operate name _ _ (λ locked. same_new_tuple (under name locked) vs))
  same_tests_value [] (n ∷ ns) h = absurd h
  same_tests_value (m ∷ ms) [] h = absurd h
  same_tests_value (m ∷ []) (n ∷ o ∷ ns) h = absurd h.1
  same_tests_value (m ∷ l ∷ ms) (n ∷ []) h = absurd h.1

  -- ---- displays

  pub record AlikePair (x : Pair (Meant C)) (y : Pair (Meant D)) : Type 0 where
    pub key_is : Alike x.key y.key
    pub value_is : Alike x.value y.value

  pub same_display_pairs : (done : List (Key × Value)) (xs : List (Pair (Meant C))) (ys : List (Pair (Meant D))) → Each AlikePair xs ys → SameSteps name (display_pairs done xs) (display_pairs done ys)
  same_display_pairs done [] [] h = same_going name done
  same_display_pairs done (x ∷ xs) (y ∷ ys) h =
      same_next name _ _ _ _ h.0.key_is.value (λ k. same_next name _ _ _ _ h.0.value_is.value (λ v. same_next name _ _ _ _ (same_acting name _ _ (λ locked. same_new_key (under name locked) done k)) (λ key.
      same_next name _ _ _ _ (same_charging name (weight k)) (λ _. same_display_pairs (dict_put done key v) xs ys h.1))))
  same_display_pairs done [] (y ∷ ys) h = absurd h
  same_display_pairs done (x ∷ xs) [] h = absurd h

  -- ---- comprehensions

  abbrev pub AlikeClause : Clause (Meant C) → Clause (Meant D) → Type 0
  AlikeClause (clause.For targets over) (clause.For others with) = Each Alike targets others × Alike over with
  AlikeClause (clause.If condition) (clause.If other) = Alike condition other
  AlikeClause (clause.For targets over) (clause.If other) = ⊥
  AlikeClause (clause.If condition) (clause.For others with) = ⊥

  names_of_targets : (ms : List (Meant C)) (ns : List (Meant D)) → Each Alike ms ns → flat_map (λ n. n.names) ns ≡ flat_map (λ m. m.names) ms
  names_of_targets [] [] h = refl
  names_of_targets (m ∷ ms) (n ∷ ns) h = ap (λ xs. xs ++ flat_map (λ n. n.names) ns) h.0.names ∙ ap (λ xs. m.names ++ xs) (names_of_targets ms ns h.1)
  names_of_targets [] (n ∷ ns) h = absurd h
  names_of_targets (m ∷ ms) [] h = absurd h

  names_of_clause : (x : Clause (Meant C)) (y : Clause (Meant D)) → AlikeClause x y → clause_names y ≡ clause_names x
  names_of_clause (clause.For targets over) (clause.For others with) h = names_of_targets targets others h.0
  names_of_clause (clause.If condition) (clause.If other) h = refl
  names_of_clause (clause.For targets over) (clause.If other) h = absurd h
  names_of_clause (clause.If condition) (clause.For others with) h = absurd h

  names_of_clauses : (xs : List (Clause (Meant C))) (ys : List (Clause (Meant D))) → Each AlikeClause xs ys → flat_map clause_names ys ≡ flat_map clause_names xs
  names_of_clauses [] [] h = refl
  names_of_clauses (x ∷ xs) (y ∷ ys) h = ap (λ n. n ++ flat_map clause_names ys) (names_of_clause x y h.0) ∙ ap (λ n. clause_names x ++ n) (names_of_clauses xs ys h.1)
  names_of_clauses [] (y ∷ ys) h = absurd h
  names_of_clauses (x ∷ xs) [] h = absurd h

  pub same_store_each : (ms : List (Meant C)) (ns : List (Meant D)) → Each Alike ms ns → (vs : List Value) → SameSteps name (store_each ms vs) (store_each ns vs)
  same_store_each [] [] h vs = same_going name tt
  same_store_each (m ∷ ms) (n ∷ ns) h [] = same_going name tt
  same_store_each (m ∷ ms) (n ∷ ns) h (v ∷ vs) = same_next name _ _ _ _ (h.0.store v) (λ _. same_store_each ms ns h.1 vs)
  same_store_each [] (n ∷ ns) h vs = absurd h
  same_store_each (m ∷ ms) [] h vs = absurd h

  pub same_store_items : (ms : List (Meant C)) (ns : List (Meant D)) → Each Alike ms ns → (v : Value) → SameSteps name (store_items ms v) (store_items ns v)
  unfolding store_items
  same_store_items ms ns h v =
      subst (λ k. SameSteps name (acting (unpacked (length ms) v) >>= store_each ms) (acting (unpacked k v) >>= store_each ns)) (sym (each_length Alike ms ns h))
      (same_next name _ _ _ _ (same_acting name _ _ (λ locked. same_unpacked (under name locked) (length ms) v)) (same_store_each ms ns h))

  pub same_store_in : (ms : List (Meant C)) (ns : List (Meant D)) → Each Alike ms ns → (v : Value) → SameSteps name (store_in ms v) (store_in ns v)
  same_store_in [] [] h v = same_store_items [] [] tt v
  same_store_in (m ∷ []) (n ∷ []) h v = h.0.store v
  same_store_in (m ∷ l ∷ ms) (n ∷ o ∷ ns) h v = same_store_items (m ∷ l ∷ ms) (n ∷ o ∷ ns) h v
  same_store_in [] (n ∷ ns) h v = absurd h
  same_store_in (m ∷ ms) [] h v = absurd h
  same_store_in (m ∷ []) (n ∷ o ∷ ns) h v = absurd h.1
  same_store_in (m ∷ l ∷ ms) (n ∷ []) h v = absurd h.1

  pub same_next_item : (ms : List (Meant C)) (ns : List (Meant D)) → Each Alike ms ns → (x : Value) → SameSteps name (next_item ms x) (next_item ns x)
  unfolding next_item
  same_next_item ms ns h x = same_next name _ _ _ _ (same_charging name (weight x)) (λ _. same_store_in ms ns h x)

  pub same_loop_over : {A : Type 0} (f : Value → A → Work C A) (g : Value → A → Work D A) → ((v : Value) (a : A) → SameSteps name (f v a) (g v a)) → (v : Value) (a : A) → SameSteps name (loop_over f v a) (loop_over g v a)
  unfolding loop_over
  same_loop_over f g h v a = same_next name _ _ _ _ (same_acting name _ _ (λ locked. same_items_of (under name locked) v)) (λ items. same_locking name (lock_of v) _ _ (same_turns name f g h items a))

  module _ {A : Type 0} (f : A → Work C A) (g : A → Work D A) (h : (a : A) → SameSteps name (f a) (g a)) where
    pub same_clauses_from : (xs : List (Clause (Meant C))) (ys : List (Clause (Meant D))) → Each AlikeClause xs ys → (a : A) → SameSteps name (clauses_from xs f a) (clauses_from ys g a)
    same_clauses_from [] [] k a = h a
    same_clauses_from (clause.If condition ∷ xs) (clause.If other ∷ ys) k a =
        same_next name _ _ _ _ k.0.value (λ v. same_next name _ _ _ _ (same_truth v) (λ t. same_choose t _ _ _ _ (same_clauses_from xs ys k.1 a) (same_going name a)))
    same_clauses_from (clause.For targets over ∷ xs) (clause.For others with ∷ ys) k a =
        same_next name _ _ _ _ k.0.1.value (λ v. same_loop_over _ _ (λ x b. same_next name _ _ _ _ (same_next_item targets others k.0.0 x) (λ _. same_clauses_from xs ys k.1 b)) v a)
    same_clauses_from (clause.For targets over ∷ xs) (clause.If other ∷ ys) k a = absurd k.0
    same_clauses_from (clause.If condition ∷ xs) (clause.For others with ∷ ys) k a = absurd k.0
    same_clauses_from [] (y ∷ ys) k a = absurd k
    same_clauses_from (x ∷ xs) [] k a = absurd k

    pub same_comprehension : (xs : List (Clause (Meant C))) (ys : List (Clause (Meant D))) → Each AlikeClause xs ys → (a : A) → SameSteps name (comprehension xs f a) (comprehension ys g a)
    same_comprehension [] [] k a = same_next name _ _ _ _ (same_charging name 1) (λ _. same_going name a)
    same_comprehension (clause.If condition ∷ xs) (clause.If other ∷ ys) k a = same_next name _ _ _ _ (same_charging name 1) (λ _. same_going name a)
    same_comprehension (clause.For targets over ∷ xs) (clause.For others with ∷ ys) k a =
        same_next name _ _ _ _ k.0.1.value (λ v. same_next name _ _ _ _ (same_charging name 1) (λ _.
        subst (λ n. SameSteps name (in_block (unbound (distinct (flat_map clause_names (clause.For targets over ∷ xs)))) (loop_over (λ x b. next_item targets x >> clauses_from xs f b) v a))
        (in_block (unbound (distinct n)) (loop_over (λ x b. next_item others x >> clauses_from ys g b) v a))) (sym (names_of_clauses (clause.For targets over ∷ xs) (clause.For others with ∷ ys) k))
        (same_in_block name _ _ _ (same_loop_over _ _ (λ x b. same_next name _ _ _ _ (same_next_item targets others k.0.0 x) (λ _. same_clauses_from xs ys k.1 b)) v a))))
    same_comprehension (clause.For targets over ∷ xs) (clause.If other ∷ ys) k a = absurd k.0
    same_comprehension (clause.If condition ∷ xs) (clause.For others with ∷ ys) k a = absurd k.0
    same_comprehension [] (y ∷ ys) k a = absurd k
    same_comprehension (x ∷ xs) [] k a = absurd k

  pub same_list_turn : (m : Meant C) (n : Meant D) → Alike m n → (done : List Value) → SameSteps name (list_turn m done) (list_turn n done)
  unfolding list_turn
  same_list_turn m n h done = same_next name _ _ _ _ h.value (λ v. same_going name (done ++ v ∷ []))

  pub same_dict_turn : (k v : Meant C) (l w : Meant D) → Alike k l → Alike v w → (done : List (Key × Value)) → SameSteps name (dict_turn k v done) (dict_turn l w done)
  unfolding dict_turn
  same_dict_turn k v l w h g done =
      same_next name _ _ _ _ h.value (λ x. same_next name _ _ _ _ g.value (λ y. same_next name _ _ _ _ (same_acting name _ _ (λ locked. same_key_in (under name locked) x)) (λ key.
      same_next name _ _ _ _ (same_charging name (weight x)) (λ _. same_going name (dict_put done key y)))))

  -- ---- inputs, calls, signs

  pub same_call_function : (c : Callee C) (d : Callee D) → SameCallee name c d → (id : ℕ) (vs : List Value) (n : ByName) → SameSteps name (call_function c id vs n) (call_function d id vs n)
  same_call_function c d h id vs n = record { at = λ w good. let same = called_or (has w.frame.active id) w good in record { holds = same.holds; leads = same.leads } }
    where
      called_or : (b : Bool) (w : World C) → AreGood name w.store.state → SameAt name (λ v. if b then fail failure.Recursion v else c id vs n v) (λ v. if b then fail failure.Recursion v else d id vs n v) w
      called_or true w good = (same_failing name failure.Recursion).at w good
      called_or false w good = (h id vs n).at w good

  pub same_method_called : (n : List ℕ) (x : Value) (vs : List Value) (by : ByName) → SameSteps name (method_called n x vs by) (method_called n x vs by)
  unfolding method_called
  same_method_called n x vs by = record { at = λ w good. let same = same_operate_at name _ _ w good (same_call_method (under name w.frame.locked) n x vs by) in record { holds = same.holds; leads = same.leads } }

  pub same_store_at : (x at v : Value) → SameSteps name (store_at x at v) (store_at x at v)
  unfolding store_at
  same_store_at x at v = record { at = λ w good. let same = same_acting_at name _ _ w (same_store (under name w.frame.locked) x at v) in record { holds = same.holds; leads = same.leads } }

  pub same_signed : (ss : List UnaryOp) (x : Value) → SameSteps name (signed ss x) (signed ss x)
  same_signed [] x = same_going name x
  same_signed (s ∷ ss) x = same_next name _ _ _ _ (same_signed ss x) (λ y. same_operate name _ _ (λ locked. same_unary (under name locked) s y))
