-- Operations do the same in a state that holds another one with other numbers of objects.
use Rattle.std.proofs.Common.{◌≡◌, ◌≤◌, ◌<◌, ◌+◌, ℕ, zero, suc, List, [], ◌∷◌, ◌++◌, map, length, Bool, true, false, refl, sym, ap, arith, subst, ◌∙◌}
use lib.Dec.{compare_is_eq}
use Prim.Native.Nat.compare
use Rattle.std.proofs.lemmas.List.{length-append}
use Rattle.std.specs.Prelude.{◌==◌, ◌||◌, Option, Some, None, option_map, if◌then◌else◌, slice_get, slice_set, Result, Ok, Err}
use Rattle.star_value.specs.declared.failure.Failure.{Failure}
use Rattle.star_value.specs.declared.key.Key.{Key}
use Rattle.star_value.specs.declared.value.Value.{Value}
use Rattle.star_value.specs.declared.value.Value.TheVariants as value
use Rattle.star_value.specs.Charge.{charged}
use Rattle.star_meaning.specs.State.{Object, AList, ADict, AFunction, State, items_held, pairs_held, object, list, dict, next_id, with_new, with_list, with_dict}
use Rattle.star_meaning.specs.Steps.{Outcome, Went, Failed, Steps, Store, Action, and_then, paid, ◌>>=◌, pure, fail, given_or, charge, read, change}
use Rattle.star_meaning.specs.Values.{has, new_dict, new_function, new_list}
use Rattle.star_meaning.specs.Operators.{check_unlocked}
use Rattle.star_meaning.specs.Growing.{reached}
use Rattle.star_meaning.proofs.MovedValues.{Moving, moved, moved_dict, moved_function, moved_list, pair_to, entry_to, object_to}

-- how many objects a state has
abbrev pub count : {C : Type 0} → State C → ℕ
count s = length s.objects

-- The second state holds the first one with other numbers: the same names with moved values, and each object at its other
-- number. It may have more objects. Objects that are made get corresponding numbers, up to the bound.
pub record Within {C : Type 0} (mv : Moving) (s t : State C) : Type 0 where
  pub globals : t.globals ≡ map (entry_to mv) s.globals
  pub objects : (id : ℕ) → object t (mv.to id) ≡ option_map (object_to mv) (object s id)
  pub next : (i : ℕ) → count s + i < mv.bound → mv.to (count s + i) ≡ count t + i

-- where a state is in what steps meet, and the same with another state
pub record View (C W : Type 0) : Type 0 where
  pub state : W → State C
  pub moved : W → State C → W

module _ {C W : Type 0} (view : View C W) where
  -- an outcome with another state and the result changed
  abbrev pub outcome_to : {E A : Type 0} → (A → A) → State C → Outcome W E A → Outcome W E A
  outcome_to f t (Went a w) = Went (f a) (view.moved w t)
  outcome_to f t (Failed e w) = Failed e (view.moved w t)

  abbrev pub reaches : {E A : Type 0} → Outcome W E A → ℕ
  reaches o = count (view.state (reached o))

-- two outcomes are the same but for the numbers
pub record Lands {C W E A : Type 0} (view : View C W) (mv : Moving) (f : A → A) (o q : Outcome W E A) : Type 0 where
  pub to : State C
  pub within : Within mv (view.state (reached o)) to
  pub is : q ≡ outcome_to view f to o

-- Two steps do the same but for the numbers, where no more objects are made than the bound allows. Objects only become more.
pub record Moves {C W E A : Type 0} (view : View C W) (mv : Moving) (f : A → A) (p q : Steps W E A) : Type 0 where
  pub grows : (w : W) → count (view.state w) ≤ reaches view (p w)
  pub at : (w : W) (t : State C) → Within mv (view.state w) t → reaches view (p w) ≤ mv.bound → Lands view mv f (p w) (q (view.moved w t))

-- ---- one after another

module _ {C W E : Type 0} (view : View C W) (mv : Moving) where
  then_grows : {A B : Type 0} (f : A → A) (g : B → B) (o : Outcome W E A) (h k : A → Steps W E B) → ((a : A) → Moves view mv g (h a) (k (f a))) → reaches view o ≤ reaches view (and_then o h)
  then_grows f g (Went a w) h k l = (l a).grows w
  then_grows f g (Failed e w) h k l = omega arith

  then_at : {A B : Type 0} (f : A → A) (g : B → B) (o : Outcome W E A) (h k : A → Steps W E B) → ((a : A) → Moves view mv g (h a) (k (f a))) → (t : State C) → Within mv (view.state (reached o)) t
      → reaches view (and_then o h) ≤ mv.bound → Lands view mv g (and_then o h) (and_then (outcome_to view f t o) k)
  then_at f g (Went a w) h k l t m b = (l a).at w t m b
  then_at f g (Failed e w) h k l t m b = record { to = t; within = m; is = refl }

  pub moves_then : {A B : Type 0} (f : A → A) (g : B → B) (p q : Steps W E A) (h k : A → Steps W E B) → Moves view mv f p q → ((a : A) → Moves view mv g (h a) (k (f a))) → Moves view mv g (p >>= h) (q >>= k)
  moves_then f g p q h k m l = record {
    grows = λ w. omega (arith, m.grows w, then_grows f g (p w) h k l);
    at = λ w t i b.
        let grown : reaches view (p w) ≤ mv.bound = omega (arith, then_grows f g (p w) h k l) in
        let first = m.at w t i grown in
        subst (λ o. Lands view mv g (and_then (p w) h) (and_then o k)) (sym first.is) (then_at f g (p w) h k l first.to first.within b);
  }

  pub moves_pure : {A : Type 0} (f : A → A) (a b : A) → b ≡ f a → Moves {E = E} view mv f (pure a) (pure b)
  moves_pure f a b e = record { grows = λ w. omega arith; at = λ w t i l. record { to = t; within = i; is = ap (λ c. Went c (view.moved w t)) e } }

  pub moves_fail : {A : Type 0} (f : A → A) (e : E) → Moves view mv f (fail e) (fail e)
  moves_fail f e = record { grows = λ w. omega arith; at = λ w t i l. record { to = t; within = i; is = refl } }

  pub moves_given_or : {A : Type 0} (f : A → A) (e : E) (o p : Option A) → p ≡ option_map f o → Moves view mv f (given_or e o) (given_or e p)
  moves_given_or {A} f e o p h = subst (λ x. Moves view mv f (given_or e o) (given_or e x)) (sym h) (by o)
    where
      by : (o : Option A) → Moves view mv f (given_or e o) (given_or e (option_map f o))
      by None = moves_fail f e
      by (Some a) = moves_pure f a (f a) refl

  pub moves_if : {A : Type 0} (f : A → A) (b c : Bool) (p x q y : Steps W E A) → c ≡ b → Moves view mv f p q → Moves view mv f x y → Moves view mv f (if b then p else x) (if c then q else y)
  moves_if {A} f b c p x q y h m n = subst (λ d. Moves view mv f (if b then p else x) (if d then q else y)) (sym h) (by b)
    where
      by : (b : Bool) → Moves view mv f (if b then p else x) (if b then q else y)
      by true = m
      by false = n

-- ---- numbers

first_apart : (n : ℕ) → (0 == suc n) ≡ false
first_apart n = ap compare_is_eq (compare.zero-suc n)

last_apart : (n : ℕ) → (suc n == 0) ≡ false
last_apart n = ap compare_is_eq (compare.suc-zero n)

both_more : (n m : ℕ) → (suc n == suc m) ≡ (n == m)
both_more n m = ap compare_is_eq (compare.suc-suc n m)

-- what is locked is so by its other number
pub has_moved : (mv : Moving) (locked : List ℕ) (id : ℕ) → has (map mv.to locked) (mv.to id) ≡ has locked id
has_moved mv [] id = refl
has_moved mv (x ∷ locked) id = λ j. mv.one x id j || has_moved mv locked id j

-- ---- operations

abbrev pub of_store : {C : Type 0} → View C (Store C)
of_store = record { state = λ s. s.state; moved = λ s t. record { state = t; left = s.left } }

module _ {C : Type 0} (mv : Moving) where
  -- two operations do the same but for the numbers
  abbrev pub Acts : {A : Type 0} → (A → A) → Action C A → Action C A → Type 0
  Acts f p q = Moves of_store mv f p q

  pub act_then : {A B : Type 0} {f : A → A} {g : B → B} {p q : Action C A} {h : A → Action C B} (k : A → Action C B) → Acts f p q → ((a : A) → Acts g (h a) (k (f a))) → Acts g (p >>= h) (q >>= k)
  act_then {f = f} {g = g} {p = p} {q = q} {h = h} k m l = moves_then of_store mv f g p q h k m l

  pub act_pure : {A : Type 0} {f : A → A} {a b : A} → b ≡ f a → Acts f (pure a) (pure b)
  act_pure {f = f} {a = a} {b = b} e = moves_pure of_store mv f a b e

  pub act_fail : {A : Type 0} {f : A → A} {e : Failure} → Acts f (fail e) (fail e)
  act_fail {f = f} {e = e} = moves_fail of_store mv f e

  pub act_given_or : {A : Type 0} {f : A → A} (e : Failure) (o : Option A) {p : Option A} → p ≡ option_map f o → Acts f (given_or e o) (given_or e p)
  act_given_or {f = f} e o {p = p} h = moves_given_or of_store mv f e o p h

  pub act_if : {A : Type 0} {f : A → A} {b c : Bool} {p x q y : Action C A} → c ≡ b → Acts f p q → Acts f x y → Acts f (if b then p else x) (if c then q else y)
  act_if {f = f} {b = b} {c = c} {p = p} {x = x} {q = q} {y = y} h m n = moves_if of_store mv f b c p x q y h m n

  paid_grows : (s : State C) (r : Result (Unit {0}) Failure × ℕ) → count s ≤ count (reached (paid s r)).state
  paid_grows s (Ok done, left) = omega arith
  paid_grows s (Err e, left) = omega arith

  paid_lands : (s t : State C) (r : Result (Unit {0}) Failure × ℕ) → Within mv s t → Lands of_store mv (λ a. a) (paid s r) (paid t r)
  paid_lands s t (Ok done, left) i = record { to = t; within = i; is = refl }
  paid_lands s t (Err e, left) i = record { to = t; within = i; is = refl }

  pub act_charge : (n : ℕ) → Acts (λ a. a) (charge n) (charge n)
  unfolding charge
  act_charge n = record { grows = λ s. paid_grows s.state (charged s.left n); at = λ s t i b. paid_lands s.state t (charged s.left n) i }

  -- a charge of the same number, made in another way
  pub act_charge_is : {n m : ℕ} → m ≡ n → Acts (λ a. a) (charge n) (charge m)
  act_charge_is {n = n} {m = m} e = subst (λ k. Acts (λ a. a) (charge n) (charge k)) (sym e) (act_charge n)

  pub act_read : {A : Type 0} (f : A → A) (of other : State C → A) → ((s t : State C) → Within mv s t → other t ≡ f (of s)) → Acts f (read of) (read other)
  act_read f of other h = record { grows = λ s. omega arith; at = λ s t i b. record { to = t; within = i; is = ap (λ a. Went a (record { state = t; left = s.left })) (h s.state t i) } }

  act_change : (by other : State C → State C) → ((s : State C) → count (by s) ≡ count s) → ((s t : State C) → Within mv s t → Within mv (by s) (other t)) → Acts (λ a. a) (change by) (change other)
  act_change by other l h = record { grows = λ s. omega (arith, l s.state); at = λ s t i b. record { to = other t; within = h s.state t i; is = refl } }

  -- ---- objects

  held_items : (o : Option (Object C)) → items_held (option_map (object_to mv) o) ≡ map (moved mv) (items_held o)
  held_items None = refl
  held_items (Some (AList items)) = refl
  held_items (Some (ADict pairs)) = refl
  held_items (Some (AFunction cell number defaults)) = refl

  held_pairs : (o : Option (Object C)) → pairs_held (option_map (object_to mv) o) ≡ map (pair_to mv) (pairs_held o)
  held_pairs None = refl
  held_pairs (Some (AList items)) = refl
  held_pairs (Some (ADict pairs)) = refl
  held_pairs (Some (AFunction cell number defaults)) = refl

  pub list_moved : (s t : State C) → Within mv s t → (id : ℕ) → list t (mv.to id) ≡ map (moved mv) (list s id)
  unfolding list
  list_moved s t i id = ap items_held (i.objects id) ∙ held_items (object s id)

  pub dict_moved : (s t : State C) → Within mv s t → (id : ℕ) → dict t (mv.to id) ≡ map (pair_to mv) (dict s id)
  unfolding dict
  dict_moved s t i id = ap pairs_held (i.objects id) ∙ held_pairs (object s id)

  pub act_list : (id : ℕ) → Acts (map (moved mv)) (read (λ s. list s id)) (read (λ s. list s (mv.to id)))
  act_list id = act_read (map (moved mv)) _ _ (λ s t i. list_moved s t i id)

  pub act_dict : (id : ℕ) → Acts (map (pair_to mv)) (read (λ s. dict s id)) (read (λ s. dict s (mv.to id)))
  act_dict id = act_read (map (pair_to mv)) _ _ (λ s t i. dict_moved s t i id)

  -- an object in place of another one
  none_either : (b : Bool) → ◌≡◌ {A = Option (Object C)} None (if b then None else None)
  none_either true = refl
  none_either false = refl

  set_at : (os : List (Object C)) (id at : ℕ) (o : Object C) → slice_get (slice_set os id o) at ≡ (if id == at then option_map (λ _. o) (slice_get os id) else slice_get os at)
  set_at [] id at o = none_either (id == at)
  set_at (x ∷ os) zero zero o = refl
  set_at (x ∷ os) zero (suc at) o = ap (λ b. if b then Some o else slice_get os at) (sym (first_apart at))
  set_at (x ∷ os) (suc id) zero o = ap (λ b. if b then option_map (λ _. o) (slice_get os id) else Some x) (sym (last_apart id))
  set_at (x ∷ os) (suc id) (suc at) o = set_at os id at o ∙ ap (λ b. if b then option_map (λ _. o) (slice_get os id) else slice_get os at) (sym (both_more id at))

  set_length : (os : List (Object C)) (id : ℕ) (o : Object C) → length (slice_set os id o) ≡ length os
  set_length [] id o = refl
  set_length (x ∷ os) zero o = refl
  set_length (x ∷ os) (suc id) o = ap suc (set_length os id o)

  in_place : (b : Bool) (o : Object C) (x y : Option (Object C)) → (if b then option_map (λ _. object_to mv o) (option_map (object_to mv) x) else option_map (object_to mv) y)
      ≡ option_map (object_to mv) (if b then option_map (λ _. o) x else y)
  in_place true o None y = refl
  in_place true o (Some z) y = refl
  in_place false o x y = refl

  abbrev with_object : State C → ℕ → Object C → State C
  with_object s id o = record s { objects = slice_set s.objects id o }

  set_within : (s t : State C) (id : ℕ) (o : Object C) → Within mv s t → Within mv (with_object s id o) (with_object t (mv.to id) (object_to mv o))
  unfolding object
  set_within s t id o i = record {
    globals = i.globals;
    objects = λ at.
        set_at t.objects (mv.to id) (mv.to at) (object_to mv o)
        ∙ (λ j. if mv.one id at j then option_map (λ _. object_to mv o) (i.objects id j) else i.objects at j)
        ∙ in_place (id == at) o (slice_get s.objects id) (slice_get s.objects at)
        ∙ ap (option_map (object_to mv)) (sym (set_at s.objects id at o));
    next = λ n l.
        let long : count (with_object s id o) ≡ count s = set_length s.objects id o in
        let other : count (with_object t (mv.to id) (object_to mv o)) ≡ count t = set_length t.objects (mv.to id) (object_to mv o) in
        ap (λ k. mv.to (k + n)) long ∙ i.next n (omega arith) ∙ ap (λ k. k + n) (sym other);
  }

  pub act_with_list : (id : ℕ) (by other : List Value → List Value) → ((xs : List Value) → other (map (moved mv) xs) ≡ map (moved mv) (by xs))
      → Acts (λ a. a) (change (λ s. with_list s id (by (list s id)))) (change (λ s. with_list s (mv.to id) (other (list s (mv.to id)))))
  unfolding with_list
  act_with_list id by other h =
      act_change (λ s. with_list s id (by (list s id))) (λ s. with_list s (mv.to id) (other (list s (mv.to id)))) (λ s. set_length s.objects id (AList (by (list s id))))
      (λ s t i. subst (λ items. Within mv (with_list s id (by (list s id))) (with_list t (mv.to id) items)) (sym (ap other (list_moved s t i id) ∙ h (list s id))) (set_within s t id (AList (by (list s id))) i))

  pub act_with_dict : (id : ℕ) (by other : List (Key × Value) → List (Key × Value)) → ((xs : List (Key × Value)) → other (map (pair_to mv) xs) ≡ map (pair_to mv) (by xs))
      → Acts (λ a. a) (change (λ s. with_dict s id (by (dict s id)))) (change (λ s. with_dict s (mv.to id) (other (dict s (mv.to id)))))
  unfolding with_dict
  act_with_dict id by other h =
      act_change (λ s. with_dict s id (by (dict s id))) (λ s. with_dict s (mv.to id) (other (dict s (mv.to id)))) (λ s. set_length s.objects id (ADict (by (dict s id))))
      (λ s t i. subst (λ pairs. Within mv (with_dict s id (by (dict s id))) (with_dict t (mv.to id) pairs)) (sym (ap other (dict_moved s t i id) ∙ h (dict s id))) (set_within s t id (ADict (by (dict s id))) i))

  -- ---- new objects

  new_at : (os : List (Object C)) (o : Object C) (at : ℕ) → slice_get (os ++ o ∷ []) at ≡ (if length os == at then Some o else slice_get os at)
  new_at [] o zero = refl
  new_at [] o (suc at) = ap (λ b. if b then Some o else None) (sym (first_apart at))
  new_at (x ∷ os) o zero = ap (λ b. if b then Some o else Some x) (sym (last_apart (length os)))
  new_at (x ∷ os) o (suc at) = new_at os o at ∙ ap (λ b. if b then Some o else slice_get os at) (sym (both_more (length os) at))

  put_new : (b : Bool) (o : Object C) (y : Option (Object C)) → (if b then Some (object_to mv o) else option_map (object_to mv) y) ≡ option_map (object_to mv) (if b then Some o else y)
  put_new true o y = refl
  put_new false o y = refl

  new_long : (s : State C) (o : Object C) → count (with_new s o) ≡ count s + 1
  unfolding with_new
  new_long s o = length-append s.objects (o ∷ [])

  -- the number of a new object
  next_is : (s t : State C) → Within mv s t → count s < mv.bound → mv.to (count s) ≡ count t
  next_is s t i b = ap mv.to (zero_more (count s)) ∙ i.next 0 (subst (λ n. n < mv.bound) (zero_more (count s)) b) ∙ sym (zero_more (count t))
    where
      zero_more : (n : ℕ) → n ≡ n + 0
      zero_more n = omega arith

  new_within : (s t : State C) (o : Object C) → Within mv s t → count (with_new s o) ≤ mv.bound → Within mv (with_new s o) (with_new t (object_to mv o))
  unfolding object with_new
  new_within s t o i b =
      let long : count (with_new s o) ≡ count s + 1 = new_long s o in
      let other : count (with_new t (object_to mv o)) ≡ count t + 1 = new_long t (object_to mv o) in
      let first : mv.to (count s) ≡ count t = next_is s t i (omega arith) in
      record {
        globals = i.globals;
        objects = λ at.
            new_at t.objects (object_to mv o) (mv.to at)
            ∙ (λ j. if (sym first j == mv.to at) then Some (object_to mv o) else i.objects at j)
            ∙ ap (λ b. if b then Some (object_to mv o) else option_map (object_to mv) (slice_get s.objects at)) (mv.one (count s) at)
            ∙ put_new (count s == at) o (slice_get s.objects at)
            ∙ ap (option_map (object_to mv)) (sym (new_at s.objects o at));
        next = λ n l.
            let here : count (with_new s o) + n ≡ count s + (1 + n) = omega arith in
            let there : count t + (1 + n) ≡ count (with_new t (object_to mv o)) + n = omega arith in
            ap mv.to here ∙ i.next (1 + n) (omega arith) ∙ there;
      }

  act_new : (make : ℕ → Value) (o : Object C) → ((id : ℕ) → make (mv.to id) ≡ moved mv (make id))
      → Acts (moved mv) (λ s. Went (make (next_id s.state)) (record s { state = with_new s.state o })) (λ s. Went (make (next_id s.state)) (record s { state = with_new s.state (object_to mv o) }))
  unfolding next_id
  act_new make o h = record {
    grows = λ s. omega (arith, new_long s.state o);
    at = λ s t i b. record {
      to = with_new t (object_to mv o);
      within = new_within s.state t o i b;
      is =
          let room : count s.state < mv.bound = omega (arith, new_long s.state o) in
          ap (λ v. Went v (record { state = with_new t (object_to mv o); left = s.left })) (ap make (sym (next_is s.state t i room)) ∙ h (count s.state));
    };
  }

  pub act_new_list : (xs : List Value) {ys : List Value} → ys ≡ map (moved mv) xs → Acts (moved mv) (new_list xs) (new_list ys)
  unfolding new_list
  act_new_list xs {ys = ys} e = subst (λ zs. Acts (moved mv) (new_list xs) (new_list zs)) (sym e) (act_new value.List (AList xs) (λ id. sym (moved_list mv id)))

  pub act_new_dict : (xs : List (Key × Value)) {ys : List (Key × Value)} → ys ≡ map (pair_to mv) xs → Acts (moved mv) (new_dict xs) (new_dict ys)
  unfolding new_dict
  act_new_dict xs {ys = ys} e = subst (λ zs. Acts (moved mv) (new_dict xs) (new_dict zs)) (sym e) (act_new value.Dict (ADict xs) (λ id. sym (moved_dict mv id)))

  pub act_new_function : (cell : C) (number : ℕ) (defaults : List Value) → Acts (moved mv) (new_function cell number defaults) (new_function cell number (map (moved mv) defaults))
  unfolding new_function
  act_new_function cell number defaults = act_new value.Function (AFunction cell number defaults) (λ id. sym (moved_function mv id))

  -- ---- what is locked

  pub act_unlocked : (locked : List ℕ) (id : ℕ) → Acts (λ a. a) (check_unlocked locked id) (check_unlocked (map mv.to locked) (mv.to id))
  unfolding check_unlocked
  act_unlocked locked id = act_if (has_moved mv locked id) act_fail (act_pure refl)
