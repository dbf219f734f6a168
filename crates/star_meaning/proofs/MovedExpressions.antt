-- Expressions mean the same with other numbers of objects: the forms, over parts of which it holds.
use Rattle.std.proofs.Common.{◌≡◌, ℕ, List, [], ◌∷◌, ◌++◌, map, length, Bool, true, false, refl, sym, ap, subst, ◌∙◌}
use Rattle.std.proofs.lemmas.List.{map-append}
use Rattle.std.specs.Prelude.{Option, Some, None, is_some, option_map, if◌then◌else◌}
use Rattle.std.specs.List.{flat_map}
use Rattle.chex_base.specs.declared.input.Input.{Input}
use Rattle.chex_base.specs.declared.input.Input.TheVariants as input
use Rattle.chex_base.specs.declared.input.InputItem.{InputItem}
use Rattle.chex_base.specs.declared.input.InputItem.TheVariants as item
use Rattle.star_syntax.specs.declared.expression.Clause.{Clause}
use Rattle.star_syntax.specs.declared.expression.Clause.TheVariants as clause
use Rattle.star_syntax.specs.declared.expression.Named.{Named}
use Rattle.star_syntax.specs.declared.expression.Pair.{Pair}
use Rattle.star_syntax.specs.declared.operator.CompareOp.{CompareOp}
use Rattle.star_syntax.specs.declared.operator.UnaryOp.{UnaryOp}
use Rattle.star_value.specs.declared.failure.Failure.TheVariants as failure
use Rattle.star_value.specs.declared.key.Key.{Key}
use Rattle.star_value.specs.declared.value.Value.{Value}
use Rattle.star_meaning.specs.State.{dict_get, dict_put}
use Rattle.star_meaning.specs.Steps.{◌>>=◌, ◌>>◌, fail}
use Rattle.star_meaning.specs.Operators.{unpacked}
use Rattle.star_meaning.specs.Operators as operators
use Rattle.star_meaning.specs.Builtins.{ByName}
use Rattle.star_meaning.specs.Methods.{call_method}
use Rattle.star_meaning.specs.Values.{has, new_tuple}
use Rattle.star_meaning.specs.World.{Work, acting, distinct, in_block, lock_of, locking, operate, turns, unbound}
use Rattle.star_meaning.specs.Expressions.{item_value, Callee, Meant, call_function, clause_names, clauses_from, compared, comprehension, dict_turn, display_pairs, input_value, list_turn, loop_over, method_called, named_from, named_values, new_key, next_item, optional_value, signed, step_value, store_at, store_each, store_in, store_items, tests_value, truth, values, values_from}
use Rattle.star_meaning.proofs.MovedValues.{Moving, entry_to, moved, moved_bool, moved_int, moved_none, moved_text, pair_to}
use Rattle.star_meaning.proofs.MovedLists.{get_map, put_map, some_map}
use Rattle.star_meaning.proofs.Moved.{act_fail, act_if, act_pure, act_then, has_moved}
use Rattle.star_meaning.proofs.MovedComparing.{Acts_same, act_compare, act_items_of, act_key_in, act_new_tuple, truth_moved}
use Rattle.star_meaning.proofs.MovedOperators.{Acts_value, act_charged_list, act_int, act_store, act_text, act_unary, act_unpacked}
use Rattle.star_meaning.proofs.MovedBuiltins.{act_bool, named_to}
use Rattle.star_meaning.proofs.MovedMethods.{act_call_method}
use Rattle.star_meaning.proofs.MovedWorld.{Goes, Goes_same, Goes_value, go_acting, go_by_frame, go_charging, go_fail, go_if, go_in_block, go_locking, go_operate, go_pure, go_reading, go_then, go_turns, go_weight, lock_moved, unbound_moved}

-- what holds of each item
abbrev pub Every : {A : Type 0} → (A → Type 0) → List A → Type 0
Every P [] = Unit {0}
Every P (x ∷ xs) = P x × Every P xs

-- and of what is there
abbrev pub IfThere : {A : Type 0} → (A → Type 0) → Option A → Type 0
IfThere P None = Unit {0}
IfThere P (Some x) = P x

-- a tree means the same with other numbers
pub record GoesMeant {C : Type 0} (mv : Moving) (m : Meant C) : Type 0 where
  pub value : Goes_value {C = C} mv m.value m.value
  pub store : (v : Value) → Goes_same {C = C} mv (m.store v) (m.store (moved mv v))
  pub update : (f g : Value → Work C Value) → ((v : Value) → Goes_value {C = C} mv (f v) (g (moved mv v))) → Goes_same {C = C} mv (m.update f) (m.update g)

module _ (mv : Moving) where
  abbrev each : List Value → List Value
  each vs = map (moved mv) vs

  abbrev perhaps : Option Value → Option Value
  perhaps o = option_map (moved mv) o

  abbrev pairs_to : List (Key × Value) → List (Key × Value)
  pairs_to pairs = map (pair_to mv) pairs

  new_key_if : (done : List (Key × Value)) (key : Key) → is_some (dict_get (pairs_to done) key) ≡ is_some (dict_get done key)
  new_key_if done key = ap is_some (get_map (moved mv) done key) ∙ some_map (moved mv) (dict_get done key)

  item_moved : (i : InputItem) → item_value i ≡ moved mv (item_value i)
  item_moved item.None = sym (moved_none mv)
  item_moved (item.Bool b) = sym (moved_bool mv b)
  item_moved (item.Int z) = sym (moved_int mv z)
  item_moved (item.Text t) = sym (moved_text mv t)

  items_moved : (items : List InputItem) → map item_value items ≡ each (map item_value items)
  items_moved [] = refl
  items_moved (i ∷ items) = λ j. item_moved i j ∷ items_moved items j

module _ {C : Type 0} (mv : Moving) where
  abbrev pub Means : Meant C → Type 0
  Means m = GoesMeant mv m

  abbrev pub MeansNamed : Named (Meant C) → Type 0
  MeansNamed n = GoesMeant mv n.value

  -- ---- operands

  go_values_from : (done others : List Value) → others ≡ (each mv) done → (ms : List (Meant C)) → Every Means ms → Goes {C = C} mv (each mv) (values_from done ms) (values_from others ms)
  go_values_from done others e [] h = go_pure mv e
  go_values_from done others e (m ∷ ms) h =
      go_then mv _ h.0.value (λ v. go_values_from (done ++ v ∷ []) (others ++ moved mv v ∷ []) (ap (λ d. d ++ moved mv v ∷ []) e ∙ sym (map-append (moved mv) done (v ∷ []))) ms h.1)

  pub go_values : (ms : List (Meant C)) → Every Means ms → Goes {C = C} mv (each mv) (values ms) (values ms)
  unfolding values
  go_values ms h = go_values_from [] [] refl ms h

  go_named_from : (done others : ByName) → others ≡ named_to mv done → (ns : List (Named (Meant C))) → Every MeansNamed ns → Goes {C = C} mv (named_to mv) (named_from done ns) (named_from others ns)
  go_named_from done others e [] h = go_pure mv e
  go_named_from done others e (n ∷ ns) h =
      go_then mv _ h.0.value (λ v. go_named_from (done ++ (n.name, v) ∷ []) (others ++ (n.name, moved mv v) ∷ []) (ap (λ d. d ++ (n.name, moved mv v) ∷ []) e ∙ sym (map-append (entry_to mv) done ((n.name, v) ∷ []))) ns h.1)

  pub go_named_values : (ns : List (Named (Meant C))) → Every MeansNamed ns → Goes {C = C} mv (named_to mv) (named_values ns) (named_values ns)
  unfolding named_values
  go_named_values ns h = go_named_from [] [] refl ns h

  pub go_optional_value : (o : Option (Meant C)) → IfThere Means o → Goes {C = C} mv (perhaps mv) (optional_value o) (optional_value o)
  go_optional_value None h = go_pure mv refl
  go_optional_value (Some m) h = go_then mv _ h.value (λ v. go_pure mv refl)

  pub go_step_value : (o : Option (Option (Meant C))) → IfThere (IfThere Means) o → Goes {C = C} mv (perhaps mv) (step_value o) (step_value o)
  go_step_value None h = go_pure mv refl
  go_step_value (Some m) h = go_optional_value m h

  pub go_truth : (v : Value) → Goes_same {C = C} mv (truth v) (truth (moved mv v))
  go_truth v = go_reading mv (λ b. b) _ _ (λ s t i. truth_moved mv s t i v)

  go_tuple : (ms : List (Meant C)) → Every Means ms → Goes_value {C = C} mv (values ms >>= (λ vs. operate (new_tuple vs))) (values ms >>= (λ vs. operate (new_tuple vs)))
  go_tuple ms h = go_then mv _ (go_values ms h) (λ vs. go_operate mv (act_new_tuple mv vs))

  pub go_tests_value : (ms : List (Meant C)) → Every Means ms → Goes_value {C = C} mv (tests_value ms) (tests_value ms)
  go_tests_value [] h = go_tuple [] h
  go_tests_value (m ∷ []) h = h.0.value
  go_tests_value (m ∷ n ∷ ms) h = go_tuple (m ∷ n ∷ ms) h

  -- ---- displays

  act_new_key : (done : List (Key × Value)) (k : Value) → Acts_same {C = C} mv (new_key done k) (new_key (pairs_to mv done) (moved mv k))
  act_new_key done k = act_then mv _ (act_key_in mv k) (λ key. act_if mv (new_key_if mv done key) (act_fail mv) (act_pure mv refl))

  abbrev pub MeansPair : Pair (Meant C) → Type 0
  MeansPair p = Means p.key × Means p.value

  pub go_display_pairs : (done : List (Key × Value)) (ps : List (Pair (Meant C))) → Every MeansPair ps → Goes {C = C} mv (pairs_to mv) (display_pairs done ps) (display_pairs (pairs_to mv done) ps)
  go_display_pairs done [] h = go_pure mv refl
  go_display_pairs done (p ∷ ps) h =
      go_then mv _ h.0.0.value (λ k. go_then mv _ h.0.1.value (λ v. go_then mv _ (go_acting mv (act_new_key done k)) (λ key. go_then mv _ (go_weight mv k) (λ _.
      subst (λ d. Goes {C = C} mv (pairs_to mv) (display_pairs (dict_put done key v) ps) (display_pairs d ps)) (sym (put_map (moved mv) done key v)) (go_display_pairs (dict_put done key v) ps h.1)))))

  -- ---- targets

  pub go_store_each : (ms : List (Meant C)) → Every Means ms → (vs : List Value) → Goes_same {C = C} mv (store_each ms vs) (store_each ms (each mv vs))
  go_store_each [] h vs = go_pure mv refl
  go_store_each (m ∷ ms) h [] = go_pure mv refl
  go_store_each (m ∷ ms) h (v ∷ vs) = go_then mv _ (h.0.store v) (λ _. go_store_each ms h.1 vs)

  pub go_store_items : (ms : List (Meant C)) → Every Means ms → (v : Value) → Goes_same {C = C} mv (store_items ms v) (store_items ms (moved mv v))
  unfolding store_items
  go_store_items ms h v = go_then mv _ (go_acting mv (act_unpacked mv (length ms) v)) (go_store_each ms h)

  pub go_store_in : (ms : List (Meant C)) → Every Means ms → (v : Value) → Goes_same {C = C} mv (store_in ms v) (store_in ms (moved mv v))
  go_store_in [] h v = go_store_items [] h v
  go_store_in (m ∷ []) h v = h.0.store v
  go_store_in (m ∷ n ∷ ms) h v = go_store_items (m ∷ n ∷ ms) h v

  pub go_next_item : (ms : List (Meant C)) → Every Means ms → (x : Value) → Goes_same {C = C} mv (next_item ms x) (next_item ms (moved mv x))
  unfolding next_item
  go_next_item ms h x = go_then mv _ (go_weight mv x) (λ _. go_store_in ms h x)

  -- ---- comprehensions

  abbrev pub MeansClause : Clause (Meant C) → Type 0
  MeansClause (clause.For targets over) = Every Means targets × Means over
  MeansClause (clause.If condition) = Means condition

  module _ {A : Type 0} (g : A → A) where
    pub go_loop_over : (f k : Value → A → Work C A) → ((v : Value) (a : A) → Goes {C = C} mv g (f v a) (k (moved mv v) (g a))) → (v : Value) (a : A) → Goes {C = C} mv g (loop_over f v a) (loop_over k (moved mv v) (g a))
    unfolding loop_over
    go_loop_over f k h v a =
        go_then mv _ (go_acting mv (act_items_of mv v)) (λ items.
        subst (λ ids. Goes {C = C} mv g (locking (lock_of v) (turns f items a)) (locking ids (turns k (each mv items) (g a)))) (sym (lock_moved mv v)) (go_locking mv g (lock_of v) _ _ (go_turns mv g f k h items a)))

    module _ (f k : A → Work C A) (h : (a : A) → Goes {C = C} mv g (f a) (k (g a))) where
      pub go_clauses_from : (cs : List (Clause (Meant C))) → Every MeansClause cs → (a : A) → Goes {C = C} mv g (clauses_from cs f a) (clauses_from cs k (g a))
      go_clauses_from [] m a = h a
      go_clauses_from (clause.If condition ∷ cs) m a = go_then mv _ m.0.value (λ v. go_then mv _ (go_truth v) (λ t. go_if mv {b = t} {c = t} refl (go_clauses_from cs m.1 a) (go_pure mv {a = a} {b = g a} refl)))
      go_clauses_from (clause.For targets over ∷ cs) m a =
          go_then mv _ m.0.1.value (λ v. go_loop_over _ _ (λ x b. go_then mv _ (go_next_item targets m.0.0 x) (λ _. go_clauses_from cs m.1 b)) v a)

      pub go_comprehension : (cs : List (Clause (Meant C))) → Every MeansClause cs → (a : A) → Goes {C = C} mv g (comprehension cs f a) (comprehension cs k (g a))
      go_comprehension [] m a = go_then mv _ (go_charging mv 1) (λ _. go_pure mv {a = a} {b = g a} refl)
      go_comprehension (clause.If condition ∷ cs) m a = go_then mv _ (go_charging mv 1) (λ _. go_pure mv {a = a} {b = g a} refl)
      go_comprehension (clause.For targets over ∷ cs) m a =
          go_then mv _ m.0.1.value (λ v. go_then mv _ (go_charging mv 1) (λ _.
          subst (λ b. Goes {C = C} mv g (in_block (unbound (distinct (flat_map clause_names (clause.For targets over ∷ cs)))) (loop_over (λ x b. next_item targets x >> clauses_from cs f b) v a))
          (in_block b (loop_over (λ x b. next_item targets x >> clauses_from cs k b) (moved mv v) (g a)))) (unbound_moved mv (distinct (flat_map clause_names (clause.For targets over ∷ cs))))
          (go_in_block mv g _ _ _ (go_loop_over _ _ (λ x b. go_then mv _ (go_next_item targets m.0.0 x) (λ _. go_clauses_from cs m.1 b)) v a))))

  pub go_list_turn : (m : Meant C) → Means m → (done : List Value) → Goes {C = C} mv (each mv) (list_turn m done) (list_turn m (each mv done))
  unfolding list_turn
  go_list_turn m h done = go_then mv _ h.value (λ v. go_pure mv (sym (map-append (moved mv) done (v ∷ []))))

  pub go_dict_turn : (k v : Meant C) → Means k → Means v → (done : List (Key × Value)) → Goes {C = C} mv (pairs_to mv) (dict_turn k v done) (dict_turn k v (pairs_to mv done))
  unfolding dict_turn
  go_dict_turn k v h g done =
      go_then mv _ h.value (λ x. go_then mv _ g.value (λ y. go_then mv _ (go_acting mv (act_key_in mv x)) (λ key. go_then mv _ (go_weight mv x) (λ _. go_pure mv (put_map (moved mv) done key y)))))

  -- ---- inputs, calls, signs

  pub act_input_value : (i : Input) → Acts_value {C = C} mv (input_value i) (input_value i)
  act_input_value input.None = act_pure mv (sym (moved_none mv))
  act_input_value (input.Bool b) = act_bool mv refl
  act_input_value (input.Int z) = act_int mv _
  act_input_value (input.Text points) = act_text mv _
  act_input_value (input.List items) = act_charged_list mv (map item_value items) _ (items_moved mv items)

  abbrev pub GoesCallee : Callee C → Type 0
  GoesCallee c = (id : ℕ) (vs : List Value) (n : ByName) → Goes_value {C = C} mv (c id vs n) (c (mv.to id) (each mv vs) (named_to mv n))

  module _ (c : Callee C) (h : GoesCallee c) (id : ℕ) (vs : List Value) (n : ByName) where
    abbrev unless : Bool → ℕ → List Value → ByName → Work C Value
    unless b id' vs' n' = λ w. if b then fail failure.Recursion w else c id' vs' n' w

    go_unless : (b : Bool) → Goes_value {C = C} mv (unless b id vs n) (unless b (mv.to id) (each mv vs) (named_to mv n))
    go_unless true = go_fail mv
    go_unless false = h id vs n

    go_active : (active : List ℕ) → Goes_value {C = C} mv (unless (has active id) id vs n) (unless (has (map mv.to active) (mv.to id)) (mv.to id) (each mv vs) (named_to mv n))
    go_active active = subst (λ b. Goes_value {C = C} mv (unless (has active id) id vs n) (unless b (mv.to id) (each mv vs) (named_to mv n))) (sym (has_moved mv active id)) (go_unless (has active id))

    pub go_call_function : Goes_value {C = C} mv (call_function c id vs n) (call_function c (mv.to id) (each mv vs) (named_to mv n))
    go_call_function =
        go_by_frame mv (moved mv) (λ frame. unless (has frame.active id) id vs n) (λ frame. unless (has frame.active (mv.to id)) (mv.to id) (each mv vs) (named_to mv n)) (λ frame. go_active frame.active)

  pub go_method_called : (n : List ℕ) (x : Value) (vs : List Value) (by : ByName) → Goes_value {C = C} mv (method_called n x vs by) (method_called n (moved mv x) (each mv vs) (named_to mv by))
  unfolding method_called
  go_method_called n x vs by =
      go_by_frame mv (moved mv) (λ frame. operate (call_method frame.locked n x vs by)) (λ frame. operate (call_method frame.locked n (moved mv x) (each mv vs) (named_to mv by)))
      (λ frame. go_operate mv (act_call_method mv frame.locked n x vs by))

  pub go_store_at : (x at v : Value) → Goes_same {C = C} mv (store_at x at v) (store_at (moved mv x) (moved mv at) (moved mv v))
  unfolding store_at
  go_store_at x at v =
      go_by_frame mv (λ a. a) (λ frame. acting (operators.store frame.locked x at v)) (λ frame. acting (operators.store frame.locked (moved mv x) (moved mv at) (moved mv v)))
      (λ frame. go_acting mv (act_store mv frame.locked x at v))

  pub go_signed : (ss : List UnaryOp) (x : Value) → Goes_value {C = C} mv (signed ss x) (signed ss (moved mv x))
  go_signed [] x = go_pure mv refl
  go_signed (s ∷ ss) x = go_then mv _ (go_signed ss x) (λ y. go_operate mv (act_unary mv s y))

  pub act_compared : (o : CompareOp) (x y : Value) → Acts_value {C = C} mv (compared o x y) (compared o (moved mv x) (moved mv y))
  act_compared o x y = act_then mv _ (act_compare mv o x y) (λ b. act_bool mv refl)
