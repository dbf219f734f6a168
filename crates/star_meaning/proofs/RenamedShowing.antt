-- Values and their written forms are the same whatever the names of cells.
use Rattle.std.proofs.Common.{◌≡◌, ℕ, zero, suc, List, [], ◌∷◌, map, true, false, refl, ap, ◌∙◌}
use Rattle.std.specs.Prelude.{Option, Some, None, option_map, slice_get, not, codes}
use Rattle.star_value.specs.declared.failure.Failure.{Failure}
use Rattle.star_value.specs.declared.failure.Failure.TheVariants as failure
use Rattle.star_value.specs.declared.key.Key.{Key}
use Rattle.star_value.specs.declared.value.Value.{Value, out-Value}
use Rattle.star_value.specs.declared.value.Value.TheOpen.{Value-F}
use Rattle.star_value.specs.declared.value.Value.TheVariants as value
use Rattle.star_value.specs.Keys as keys
use Rattle.star_meaning.specs.State.{Object, AList, ADict, AFunction, State, object, function, function_held, next_id, with_new}
use Rattle.star_meaning.specs.Steps.{Outcome, Went, Store, Action, ◌>>=◌, read}
use Rattle.star_meaning.specs.Values.{check_depth, items_at, items_in, items_of, key_values, truth_at, is_true, is_empty, new_dict, new_function, new_list, new_tuple, text_in}
use Rattle.star_meaning.specs.Showing.{Naming, Writing, made, ◌<+>◌, made_after, made_between, between, list_text, tuple_text, pair_text, dict_text, opened, function_name, function_text, quoted_at, quoted_in, quoted, shown_at, shown}
use Rattle.star_meaning.specs.Validity.{renamed}
use Rattle.star_meaning.specs.Renaming.{Names, state_as, store_as, Same}
use Rattle.star_meaning.proofs.Renamed.{same_then, same_pure, same_fail, same_given_or, same_charge, same_read, list_as, dict_as, with_new_as, next_id_as, get_same}
use Rattle.star_meaning.proofs.LaterLemmas.{later_new}
use Rattle.star_meaning.proofs.RenamedComparing.{same_if_then, same_list, same_dict}

module _ {C D : Type 0} (name : Names C D) where
  -- ---- values

  truth_as : (s : State C) (x : Value-F Value) → truth_at (state_as name.to s) x ≡ truth_at s x
  truth_as s (Value-F.List id) = ap (λ items. not (is_empty items)) (list_as name.to s id)
  truth_as s (Value-F.Dict id) = ap (λ pairs. not (is_empty pairs)) (dict_as name.to s id)
  truth_as s _ = refl

  pub is_true_as : (s : State C) (v : Value) → is_true (state_as name.to s) v ≡ is_true s v
  unfolding is_true
  is_true_as s v = truth_as s (out-Value v)

  items_as : (s : State C) (x : Value-F Value) → items_at (state_as name.to s) x ≡ items_at s x
  items_as s (Value-F.List id) = ap Some (list_as name.to s id)
  items_as s (Value-F.Dict id) = ap (λ pairs. Some (key_values pairs)) (dict_as name.to s id)
  items_as s _ = refl

  pub same_items_of : (v : Value) → Same name (items_of v) (items_of v)
  unfolding items_of items_in
  same_items_of v = same_then name _ _ _ _ (same_read name _ _ (λ s. items_as s (out-Value v))) (same_given_or name failure.WrongType)

  pub same_check_depth : (v : Value) → Same name (check_depth v) (check_depth v)
  same_check_depth v = same_if_then name _ _ _ _ _ (same_fail name _) (same_pure name _)

  pub same_new_tuple : (items : List Value) → Same name (new_tuple items) (new_tuple items)
  unfolding new_tuple
  same_new_tuple items = same_then name _ _ _ _ (same_check_depth (value.Tuple items)) (λ _. same_pure name _)

  new_same : (make : ℕ → Value) (o : Object C) (s : Store C)
      → ◌≡◌ {A = Outcome (Store D) Failure Value} (Went (make (next_id (state_as name.to s.state))) (record { state = with_new (state_as name.to s.state) (renamed name.to o); left = s.left }))
      (Went (make (next_id s.state)) (store_as name.to (record { state = with_new s.state o; left = s.left })))
  new_same make o s =
      ap (λ id. Went (make id) (record { state = with_new (state_as name.to s.state) (renamed name.to o); left = s.left })) (next_id_as name.to s.state)
      ∙ ap (λ t. Went (make (next_id s.state)) (record { state = t; left = s.left })) (with_new_as name.to s.state o)

  pub same_new_list : (items : List Value) → Same name (new_list items) (new_list items)
  unfolding new_list
  same_new_list items = record { holds = new_same value.List (AList items); keeps = λ s. later_new name.here name.locked s (AList items) tt }

  pub same_new_dict : (pairs : List (Key × Value)) → Same name (new_dict pairs) (new_dict pairs)
  unfolding new_dict
  same_new_dict pairs = record { holds = new_same value.Dict (ADict pairs); keeps = λ s. later_new name.here name.locked s (ADict pairs) tt }

  pub same_new_function : (number : ℕ) (defaults : List Value) → Same name (new_function name.here number defaults) (new_function (name.to name.here) number defaults)
  unfolding new_function
  same_new_function number defaults = record {
    holds = new_same value.Function (AFunction name.here number defaults);
    keeps = λ s. later_new name.here name.locked s (AFunction name.here number defaults) refl;
  }

  -- ---- written forms

  pub same_made : (text : List ℕ) → Same name (made text) (made text)
  unfolding made
  same_made text = same_then name _ _ _ _ (same_charge name _) (λ _. same_pure name _)

  pub same_joined : (p x : Action C (List ℕ)) (q y : Action D (List ℕ)) → Same name p q → Same name x y → Same name (p <+> x) (q <+> y)
  same_joined p x q y h k = same_then name _ _ _ _ h (λ a. same_then name _ _ _ _ k (λ b. same_pure name _))

  same_made_after : {X : Type 0} (by : List ℕ) (f : X → Action C (List ℕ)) (g : X → Action D (List ℕ)) → ((x : X) → Same name (f x) (g x)) → (xs : List X)
      → Same name (made_after by (map f xs)) (made_after by (map g xs))
  same_made_after by f g h [] = same_pure name _
  same_made_after by f g h (x ∷ xs) = same_joined _ _ _ _ (same_joined _ _ _ _ (same_made by) (h x)) (same_made_after by f g h xs)

  pub same_made_between : {X : Type 0} (by : List ℕ) (f : X → Action C (List ℕ)) (g : X → Action D (List ℕ)) → ((x : X) → Same name (f x) (g x)) → (xs : List X)
      → Same name (made_between by (map f xs)) (made_between by (map g xs))
  same_made_between by f g h [] = same_pure name _
  same_made_between by f g h (x ∷ xs) = same_joined _ _ _ _ (h x) (same_made_after by f g h xs)

  same_between : (a b : List ℕ) (p : Action C (List ℕ)) (q : Action D (List ℕ)) → Same name p q → Same name (between a b p) (between a b q)
  same_between a b p q h = same_joined _ _ _ _ (same_joined _ _ _ _ (same_made a) h) (same_made b)

  module _ (f : Writing C) (g : Writing D) (h : (v : Value) → Same name (f v) (g v)) where
    same_list_text : (items : List Value) → Same name (list_text items f) (list_text items g)
    same_list_text items = same_between _ _ _ _ (same_made_between _ f g h items)

    same_tuple_text : (items : List Value) → Same name (tuple_text items f) (tuple_text items g)
    same_tuple_text [] = same_between _ _ _ _ (same_made_between (codes ", ") f g h [])
    same_tuple_text (x ∷ []) = same_between _ _ _ _ (h x)
    same_tuple_text (x ∷ y ∷ more) = same_between _ _ _ _ (same_made_between _ f g h (x ∷ y ∷ more))

    same_pair_text : (pair : Key × Value) → Same name (pair_text f pair) (pair_text g pair)
    same_pair_text pair = same_joined _ _ _ _ (same_joined _ _ _ _ (h (keys.value_of pair.0)) (same_made _)) (h pair.1)

    same_dict_text : (pairs : List (Key × Value)) → Same name (dict_text pairs f) (dict_text pairs g)
    same_dict_text pairs = same_between _ _ _ _ (same_made_between _ (pair_text f) (pair_text g) same_pair_text pairs)

  abbrev InnerWriting : Option (Writing C) → Option (Writing D) → Type 0
  InnerWriting None None = Unit {0}
  InnerWriting (Some f) (Some g) = (v : Value) → Same name (f v) (g v)
  InnerWriting None (Some g) = ⊥
  InnerWriting (Some f) None = ⊥

  same_opened : (i : Option (Writing C)) (j : Option (Writing D)) (p : Writing C → Action C (List ℕ)) (q : Writing D → Action D (List ℕ))
      → InnerWriting i j → ((f : Writing C) (g : Writing D) → ((v : Value) → Same name (f v) (g v)) → Same name (p f) (q g)) → Same name (opened i p) (opened j q)
  same_opened None None p q h k = same_fail name failure.TooDeep
  same_opened (Some f) (Some g) p q h k = k f g h
  same_opened None (Some g) p q h k = absurd h
  same_opened (Some f) None p q h k = absurd h

  module _ (nc : Naming C) (nd : Naming D) (hn : (c : C) (n : ℕ) → nd (name.to c) n ≡ nc c n) where
    function_parts : (o : Option (Object C)) → function_name nd (function_held (option_map (renamed name.to) o)) ≡ function_name nc (function_held o)
    function_parts None = refl
    function_parts (Some (AList items)) = refl
    function_parts (Some (ADict pairs)) = refl
    function_parts (Some (AFunction cell number defaults)) = hn cell number

    function_as : (s : State C) (id : ℕ) → function_name nd (function (state_as name.to s) id) ≡ function_name nc (function s id)
    unfolding function object
    function_as s id = ap (λ o. function_name nd (function_held o)) (get_same name.to s.objects id) ∙ function_parts (slice_get s.objects id)

    -- what a function's object is read for alone is its name
    same_function : (id : ℕ) → Same name (read (λ s. function s id) >>= (λ parts. made (function_text (function_name nc parts)))) (read (λ s. function s id) >>= (λ parts. made (function_text (function_name nd parts))))
    same_function id = record { holds = λ s. ap (λ n. made (function_text n) (store_as name.to s)) (function_as s.state id) ∙ (same_made (function_text (function_name nc (function s.state id)))).holds s; keeps = λ s. (same_made (function_text (function_name nc (function s.state id)))).keeps s }

    same_quoted_at : (i : Option (Writing C)) (j : Option (Writing D)) → InnerWriting i j → (x : Value-F Value) → Same name (quoted_at nc i x) (quoted_at nd j x)
    same_quoted_at i j h Value-F.None = same_made _
    same_quoted_at i j h (Value-F.Bool true) = same_made _
    same_quoted_at i j h (Value-F.Bool false) = same_made _
    same_quoted_at i j h (Value-F.Int z) = same_made _
    same_quoted_at i j h (Value-F.Text points) = same_made _
    same_quoted_at i j h (Value-F.Tuple items) = same_opened i j _ _ h (λ f g k. same_tuple_text f g k items)
    same_quoted_at i j h (Value-F.Range r) = same_made _
    same_quoted_at i j h (Value-F.List id) = same_then name _ _ _ _ (same_list name id) (λ items. same_opened i j _ _ h (λ f g k. same_list_text f g k items))
    same_quoted_at i j h (Value-F.Dict id) = same_then name _ _ _ _ (same_dict name id) (λ pairs. same_opened i j _ _ h (λ f g k. same_dict_text f g k pairs))
    same_quoted_at i j h (Value-F.Function id) = same_function id
    same_quoted_at i j h (Value-F.Builtin which) = same_made _

    same_quoted_in : (n : ℕ) (v : Value) → Same name (quoted_in nc n v) (quoted_in nd n v)
    unfolding quoted_in
    same_quoted_in zero v = same_quoted_at None None tt (out-Value v)
    same_quoted_in (suc n) v = same_quoted_at (Some (quoted_in nc n)) (Some (quoted_in nd n)) (same_quoted_in n) (out-Value v)

    pub same_quoted : (v : Value) → Same name (quoted nc v) (quoted nd v)
    unfolding quoted
    same_quoted v = same_quoted_in 64 v

    same_shown_at : (o : Option (List ℕ)) (p : Action C (List ℕ)) (q : Action D (List ℕ)) → Same name p q → Same name (shown_at o p) (shown_at o q)
    same_shown_at (Some points) p q h = same_made points
    same_shown_at None p q h = h

    pub same_shown : (v : Value) → Same name (shown nc v) (shown nd v)
    unfolding shown
    same_shown v = same_shown_at (text_in v) _ _ (same_quoted v)
