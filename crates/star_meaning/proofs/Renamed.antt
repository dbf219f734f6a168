-- Operations do the same in states that are alike but for the names of cells.
use Rattle.std.proofs.Common.{◌≡◌, ℕ, zero, suc, List, [], ◌∷◌, ◌++◌, map, length, refl, ap, ◌∙◌}
use Rattle.std.specs.Prelude.{Option, Some, None, option_map, slice_get, slice_set, Result, Ok, Err}
use Rattle.star_value.specs.declared.failure.Failure.{Failure}
use Rattle.star_value.specs.declared.key.Key.{Key}
use Rattle.star_value.specs.declared.value.Value.{Value}
use Rattle.star_value.specs.Charge.{charged}
use Rattle.star_meaning.specs.State.{Object, AList, ADict, AFunction, State, items_held, pairs_held, object, list, dict, next_id, with_new, with_list, with_dict}
use Rattle.star_meaning.specs.Steps.{Outcome, Went, Failed, Store, Action, and_then, paid, ◌>>=◌, pure, fail, given_or, charge, read, change}
use Rattle.star_meaning.specs.Validity.{renamed}
use Rattle.star_meaning.specs.Renaming.{Names, state_as, store_as, outcome_as, Same}
use Rattle.star_meaning.specs.Growing.{Later, reached}
use Rattle.star_meaning.proofs.LaterLemmas.{later_charged, later_same, later_then}

module _ {C D : Type 0} (name : C → D) where
  -- ---- reads and changes

  pub get_same : (os : List (Object C)) (id : ℕ) → slice_get (map (renamed name) os) id ≡ option_map (renamed name) (slice_get os id)
  get_same [] id = refl
  get_same (o ∷ os) zero = refl
  get_same (o ∷ os) (suc id) = get_same os id

  items_same : (o : Option (Object C)) → items_held (option_map (renamed name) o) ≡ items_held o
  items_same None = refl
  items_same (Some (AList items)) = refl
  items_same (Some (ADict pairs)) = refl
  items_same (Some (AFunction cell number defaults)) = refl

  pairs_same : (o : Option (Object C)) → pairs_held (option_map (renamed name) o) ≡ pairs_held o
  pairs_same None = refl
  pairs_same (Some (AList items)) = refl
  pairs_same (Some (ADict pairs)) = refl
  pairs_same (Some (AFunction cell number defaults)) = refl

  pub list_as : (s : State C) (id : ℕ) → list (state_as name s) id ≡ list s id
  unfolding list object
  list_as s id = ap items_held (get_same s.objects id) ∙ items_same (slice_get s.objects id)

  pub dict_as : (s : State C) (id : ℕ) → dict (state_as name s) id ≡ dict s id
  unfolding dict object
  dict_as s id = ap pairs_held (get_same s.objects id) ∙ pairs_same (slice_get s.objects id)

  set_same : (os : List (Object C)) (id : ℕ) (o : Object C) → slice_set (map (renamed name) os) id (renamed name o) ≡ map (renamed name) (slice_set os id o)
  set_same [] id o = refl
  set_same (x ∷ os) zero o = refl
  set_same (x ∷ os) (suc id) o = ap (λ r. renamed name x ∷ r) (set_same os id o)

  push_same : (os : List (Object C)) (o : Object C) → map (renamed name) os ++ renamed name o ∷ [] ≡ map (renamed name) (os ++ o ∷ [])
  push_same [] o = refl
  push_same (x ∷ os) o = ap (λ r. renamed name x ∷ r) (push_same os o)

  length_same : (os : List (Object C)) → length (map (renamed name) os) ≡ length os
  length_same [] = refl
  length_same (x ∷ os) = ap suc (length_same os)

  pub with_list_as : (s : State C) (id : ℕ) (items : List Value) → with_list (state_as name s) id items ≡ state_as name (with_list s id items)
  unfolding with_list
  with_list_as s id items = ap (λ os. record { globals = s.globals; objects = os }) (set_same s.objects id (AList items))

  pub with_dict_as : (s : State C) (id : ℕ) (pairs : List (Key × Value)) → with_dict (state_as name s) id pairs ≡ state_as name (with_dict s id pairs)
  unfolding with_dict
  with_dict_as s id pairs = ap (λ os. record { globals = s.globals; objects = os }) (set_same s.objects id (ADict pairs))

  pub with_new_as : (s : State C) (o : Object C) → with_new (state_as name s) (renamed name o) ≡ state_as name (with_new s o)
  unfolding with_new
  with_new_as s o = ap (λ os. record { globals = s.globals; objects = os }) (push_same s.objects o)

  pub next_id_as : (s : State C) → next_id (state_as name s) ≡ next_id s
  unfolding next_id
  next_id_as s = length_same s.objects

-- what is reached by one operation after another
after_then : {C A B : Type 0} (here : C) (locked : List ℕ) (s : Store C) (o : Outcome (Store C) Failure A) (g : A → Action C B) → Later here locked s (reached o)
    → ((a : A) (t : Store C) → Later here locked t (reached (g a t))) → Later here locked s (reached (and_then o g))
after_then here locked s (Went a t) g h k = later_then here locked s t (reached (g a t)) h (k a t)
after_then here locked s (Failed e t) g h k = h

module _ {C D : Type 0} (name : Names C D) where
  then_at : {A B : Type 0} (o : Outcome (Store C) Failure A) (g : A → Action C B) (h : A → Action D B)
      → ((a : A) → Same name (g a) (h a)) → and_then (outcome_as (store_as name.to) o) h ≡ outcome_as (store_as name.to) (and_then o g)
  then_at (Went a s) g h k = (k a).holds s
  then_at (Failed e s) g h k = refl

  -- nothing is done
  idle : (s : Store C) → Later name.here name.locked s s
  idle s = later_same name.here name.locked s

  pub same_then : {A B : Type 0} (p : Action C A) (q : Action D A) (g : A → Action C B) (h : A → Action D B)
      → Same name p q → ((a : A) → Same name (g a) (h a)) → Same name (p >>= g) (q >>= h)
  same_then p q g h k l = record {
    holds = λ s. ap (λ o. and_then o h) (k.holds s) ∙ then_at (p s) g h l;
    keeps = λ s. after_then name.here name.locked s (p s) g (k.keeps s) (λ a. (l a).keeps);
  }

  pub same_pure : {A : Type 0} (a : A) → Same name (pure a) (pure a)
  same_pure a = record { holds = λ s. refl; keeps = idle }

  pub same_fail : {A : Type 0} (e : Failure) → Same {A = A} name (fail e) (fail e)
  same_fail e = record { holds = λ s. refl; keeps = idle }

  pub same_given_or : {A : Type 0} (e : Failure) (o : Option A) → Same name (given_or e o) (given_or e o)
  same_given_or e None = same_fail e
  same_given_or e (Some a) = same_pure a

  paid_same : (s : State C) (c : Result (Unit {0}) Failure × ℕ) → paid (state_as name.to s) c ≡ outcome_as (store_as name.to) (paid s c)
  paid_same s (Ok done, left) = refl
  paid_same s (Err e, left) = refl

  pub same_charge : (n : ℕ) → Same name (charge n) (charge n)
  unfolding charge
  same_charge n = record { holds = λ s. paid_same s.state (charged s.left n); keeps = λ s. later_charged name.here name.locked s n }

  pub same_read : {A : Type 0} (of : State C → A) (other : State D → A) → ((s : State C) → other (state_as name.to s) ≡ of s) → Same name (read of) (read other)
  same_read of other k = record { holds = λ s. ap (λ a. Went a (store_as name.to s)) (k s.state); keeps = idle }

  pub same_change : (by : State C → State C) (other : State D → State D) → ((s : State C) → other (state_as name.to s) ≡ state_as name.to (by s))
      → ((s : Store C) → Later name.here name.locked s (record { state = by s.state; left = s.left })) → Same name (change by) (change other)
  same_change by other k l = record { holds = λ s. ap (λ t. Went tt (record { state = t; left = s.left })) (k s.state); keeps = l }
