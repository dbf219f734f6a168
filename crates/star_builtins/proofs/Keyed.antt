-- The pairs that items are, one after the other.
use Rattle.std.proofs.Common.{◌≡◌, ℕ, suc, zero, ◌+◌, ◌<◌, ◌≤◌, Bool, true, false, List, [], ◌∷◌, ◌++◌, map, length, drop, take, refl, sym, ap, ◌∙◌, subst, arith, IsTrue, Option, Some, None, slice_get, length-append}
use Rattle.std.specs.List.{list_all, list_any}
use Rattle.std.specs.Prelude.{Result, Ok, Err, ◌&&◌, ◌||◌, not, cond, if◌then◌else◌}
use Rattle.std.proofs.lemmas.List.{drop_all}
use Rattle.heap_store.proofs.PairLemmas.{all_put}
use Rattle.heap_store.proofs.References.{key_fits}
use Rattle.heap_store.proofs.Tested.{and_left, and_right, one_passes}
use Rattle.star_value.specs.declared.failure.Failure.{Failure}
use Rattle.star_value.specs.declared.failure.Failure.TheVariants as failure
use Rattle.star_value.specs.declared.key.Key.{Key}
use Rattle.star_value.specs.declared.stop.Stop.{Stop}
use Rattle.star_value.specs.declared.stop.Stop.TheVariants as stop
use Rattle.star_value.specs.declared.value.Value.{Value, out-Value, roll-Value, roll-out-Value}
use Rattle.star_value.specs.declared.value.Value.TheOpen.{Value-F}
use Rattle.star_value.specs.declared.value.Value.TheVariants as value
use Rattle.star_value.specs.Charge.{charged}
use Rattle.star_value.specs.KeyLaws.{same_key_equiv}
use Rattle.star_value.specs.KeyOrder.{same_key}
use Rattle.star_value.specs.Keys.{AnswersKey, key_of, value_of}
use Rattle.star_value.specs.Weight.{weight, sum_of_weights}
use Rattle.star_meaning.specs.Builtins as spec
use Rattle.star_meaning.specs.Comparing.{key_in}
use Rattle.star_meaning.specs.State.{Object, AList, ADict, AFunction, State, dict, dict_put, object, pairs_held}
use Rattle.star_meaning.specs.Steps.{Outcome, Went, Failed, Action, Store, Gives, pure, fail, given_or, and_then, charge, ◌>>=◌, ◌>>◌}
use Rattle.star_meaning.specs.Validity.{IsMachine, MachineState, fits, is_proper, are_distinct, has_distinct_keys}
use Rattle.star_meaning.specs.Values.{charge_items, charge_weight, items_in, key_values, new_dict}
use Rattle.star_builtins.specs.Changes.{PairsFit}
use Rattle.star_builtins.specs.Reached.{Fits}
use Rattle.star_builtins.specs.Rows.{dict_of_pairs, keyed}
use Rattle.star_builtins.specs.Walks.{GivesItem, given, weight_at}
use Rattle.star_builtins.proofs.RowLemmas.{charge_went, charge_failed, of_items, no_items, same_gives}
use Rattle.star_builtins.proofs.KeyLemmas.{key_weight}
use Rattle.star_builtins.proofs.WalkLemmas.{at_some, drop_at, some_at, given_dict, keys_length}

abbrev Pairs : Type 0
Pairs = List (Key × Value)

-- ---- an item as a key and a value, and then something else

module _ {A : Type 0} (g : Key × Value → Action ℕ A) where
  then_charged : (both : Key × Value) (o : Outcome (Store ℕ) Failure (Unit {0})) → and_then (and_then o (λ _. pure both)) g ≡ and_then o (λ _. g both)
  then_charged both (Went done w) = refl
  then_charged both (Failed e w) = refl

  then_key : (pair : Value × Value) (w : Store ℕ) (o : Option Key)
      → and_then (and_then (given_or failure.Unhashable o w) (λ key. charge_weight pair.0 >> pure (key, pair.1))) g ≡ and_then (given_or failure.Unhashable o w) (λ key. charge_weight pair.0 >> g (key, pair.1))
  then_key pair w None = refl
  then_key pair w (Some key) = then_charged (key, pair.1) (charge (weight pair.0) w)

  then_pair : (o : Outcome (Store ℕ) Failure (Value × Value))
      → and_then (and_then o (λ pair. key_in pair.0 >>= (λ key. charge_weight pair.0 >> pure (key, pair.1)))) g ≡ and_then o (λ pair. key_in pair.0 >>= (λ key. charge_weight pair.0 >> g (key, pair.1)))
  then_pair (Failed e w) = refl
  then_pair (Went pair w) = then_key pair w (key_of pair.0)

-- ---- the pairs from a place on

module _ (all : List Value) (place : ℕ) (s : State ℕ) (left mid : ℕ) (done : Pairs) (total : Outcome (Store ℕ) Failure Pairs) where
  -- what is left behind the charge of an item
  abbrev put_next : Key × Value → Action ℕ Pairs
  put_next both = spec.pairs_from (dict_put done both.0 both.1) (drop (place + 1) all)

  abbrev after_charge : Value → Action ℕ Pairs
  after_charge x = spec.pair_at (out-Value x) >>= (λ pair. key_in pair.0 >>= (λ key. charge_weight pair.0 >> put_next (key, pair.1)))

  pairs_here : (x : Value) → slice_get all place ≡ Some x → spec.pairs_from done (drop place all) (record { state = s; left = left }) ≡ (charge (weight x) >> after_charge x) (record { state = s; left = left })
  pairs_here x is = ap (λ xs. spec.pairs_from done xs (record { state = s; left = left })) (drop_at all place x is)

  pairs_paid : (x : Value) → slice_get all place ≡ Some x → charged left (weight x) ≡ (Ok tt, mid) → spec.pairs_from done (drop place all) (record { state = s; left = left }) ≡ and_then (keyed x (record { state = s; left = mid })) put_next
  pairs_paid x is paid = pairs_here x is ∙ charge_went s left (weight x) mid (after_charge x) paid ∙ sym (then_pair put_next (spec.pair_at (out-Value x) (record { state = s; left = mid })))

  pub pairs_more : (x : Value) (key : Key) (v : Value) (t : Store ℕ) → slice_get all place ≡ Some x → charged left (weight x) ≡ (Ok tt, mid) → keyed x (record { state = s; left = mid }) ≡ Went (key, v) t
      → spec.pairs_from done (drop place all) (record { state = s; left = left }) ≡ total → spec.pairs_from (dict_put done key v) (drop (place + 1) all) t ≡ total
  pairs_more x key v t is paid known before = sym (pairs_paid x is paid ∙ ap (λ o. and_then o put_next) known) ∙ before

  keyed_failed : (x : Value) (e : Failure) (t : Store ℕ) → slice_get all place ≡ Some x → charged left (weight x) ≡ (Ok tt, mid) → keyed x (record { state = s; left = mid }) ≡ Failed e t
      → spec.pairs_from done (drop place all) (record { state = s; left = left }) ≡ total → total ≡ Failed e t
  keyed_failed x e t is paid failed before = sym before ∙ pairs_paid x is paid ∙ ap (λ o. and_then o put_next) failed

  pub keyed_ends : (x : Value) (e : Stop) (t : Store ℕ) → slice_get all place ≡ Some x → charged left (weight x) ≡ (Ok tt, mid) → Gives (keyed x (record { state = s; left = mid })) (Err e) t
      → spec.pairs_from done (drop place all) (record { state = s; left = left }) ≡ total → Gives total (Err e) t
  keyed_ends x (stop.Failure e) t is paid failed before = keyed_failed x e t is paid failed before
  keyed_ends x stop.NoMemory t is paid failed before = tt

  pairs_over : (e : Failure) (x : Value) → slice_get all place ≡ Some x → charged left (weight_at all place) ≡ (Err e, mid) → spec.pairs_from done (drop place all) (record { state = s; left = left }) ≡ total → total ≡ Failed e (record { state = s; left = mid })
  pairs_over e x is over before = sym before ∙ pairs_here x is ∙ charge_failed s left (weight x) mid e (after_charge x) (ap (charged left) (sym (at_some all place x is)) ∙ over)

  pub pairs_stop : (e : Stop) → place < length all → GivesItem all place left (Err e) mid → spec.pairs_from done (drop place all) (record { state = s; left = left }) ≡ total → Gives total (Err e) (record { state = s; left = mid })
  pairs_stop (stop.Failure e) within over before = let here = some_at all place within in pairs_over e here.0 here.1 over before
  pairs_stop stop.NoMemory within over before = tt

pub pairs_done : (all : List Value) (place : ℕ) (t : Store ℕ) (done : Pairs) (total : Outcome (Store ℕ) Failure Pairs) → length all ≤ place → spec.pairs_from done (drop place all) t ≡ total → total ≡ Went done t
pairs_done all place t done total past before = sym before ∙ ap (λ xs. spec.pairs_from done xs t) (drop_all place all past)

pub pairs_put : (m : MachineState) (pairs : Pairs) (key : Key) (v : Value) → PairsFit m pairs → IsTrue (is_proper (value_of key)) → Fits m v → PairsFit m (dict_put pairs key v)
pairs_put m pairs key v fit good one = record {
  references = all_put (fits m.state.objects) key v (key_fits m.state.objects key) one.references pairs fit.references;
  proper = all_put is_proper key v good one.proper pairs fit.proper;
}

pub no_pairs : (m : MachineState) (pairs : Pairs) → pairs ≡ [] → PairsFit m pairs
no_pairs m pairs is = subst (PairsFit m) (sym is) (record { references = refl; proper = refl })

-- ---- an item as a key and a value

module _ (x k v : Value) (t : Store ℕ) (two : spec.pair_at (out-Value x) t ≡ Went (k, v) t) where
  keyed_as : (o : Option Key) → key_of k ≡ o → keyed x t ≡ and_then (given_or failure.Unhashable o t) (λ key. charge_weight k >> pure (key, v))
  keyed_as o is = ap (λ p. and_then p (λ pair. key_in pair.0 >>= (λ key. charge_weight pair.0 >> pure (key, pair.1)))) two ∙ ap (λ p. and_then (given_or failure.Unhashable p t) (λ key. charge_weight k >> pure (key, v))) is

  no_key : (e : Stop) → AnswersKey (key_of k) (Err e) → Gives (keyed x t) (Err e) t
  no_key (stop.Failure e) none = keyed_as None none.0 ∙ ap (λ f. Failed f t) (sym none.1)
  no_key stop.NoMemory none = tt

pub keyed_no_key : (x k v : Value) (t : Store ℕ) (e : Stop) → spec.pair_at (out-Value x) t ≡ Went (k, v) t → AnswersKey (key_of k) (Err e) → Gives (keyed x t) (Err e) t
keyed_no_key x k v t e two none = no_key x k v t two e none

pub keyed_no_pair : (x : Value) (t : Store ℕ) (e : Stop) → Gives (spec.pair_at (out-Value x) t) (Err e) t → Gives (keyed x t) (Err e) t
keyed_no_pair x t (stop.Failure e) none = ap (λ p. and_then p (λ pair. key_in pair.0 >>= (λ key. charge_weight pair.0 >> pure (key, pair.1)))) none
keyed_no_pair x t stop.NoMemory none = tt

module _ (x k v : Value) (s : State ℕ) (left rest : ℕ) (key : Key) (two : spec.pair_at (out-Value x) (record { state = s; left = left }) ≡ Went (k, v) (record { state = s; left = left })) (is : key_of k ≡ Some key) where
  pub keyed_went : charged left (weight (value_of key)) ≡ (Ok tt, rest) → keyed x (record { state = s; left = left }) ≡ Went (key, v) (record { state = s; left = rest })
  keyed_went paid = keyed_as x k v (record { state = s; left = left }) two (Some key) is ∙ charge_went s left (weight k) rest (pure (key, v)) (ap (charged left) (sym (key_weight k key is)) ∙ paid)

  pub keyed_over : (e : Failure) → charged left (weight (value_of key)) ≡ (Err e, rest) → keyed x (record { state = s; left = left }) ≡ Failed e (record { state = s; left = rest })
  keyed_over e over = keyed_as x k v (record { state = s; left = left }) two (Some key) is ∙ charge_failed s left (weight k) rest e (pure (key, v)) (ap (charged left) (sym (key_weight k key is)) ∙ over)

-- ---- two items

pub not_two : (items : List Value) (t : Store ℕ) → (length items ≡ 2 → ⊥) → spec.two_of items t ≡ Failed failure.BadUnpack t
not_two [] t h = refl
not_two (x ∷ []) t h = refl
not_two (x ∷ y ∷ []) t h = absurd (h refl)
not_two (x ∷ y ∷ z ∷ more) t h = refl

pub two_at : (items : List Value) (a b : Value) (t : Store ℕ) → length items ≡ 2 → slice_get items 0 ≡ Some a → slice_get items 1 ≡ Some b → spec.two_of items t ≡ Went (a, b) t
two_at [] a b t h first second = absurd (omega (arith, h))
two_at (x ∷ []) a b t h first second = absurd (omega (arith, h))
two_at (x ∷ y ∷ []) a b t h first second =
    let here : x ≡ a = cc in
    let there : y ≡ b = cc in
    ap (λ z. Went (z, y) t) here ∙ ap (λ z. Went (a, z) t) there
two_at (x ∷ y ∷ z ∷ more) a b t h first second = absurd (omega (arith, h))

two_last : (rest : List Value) (a b : Value) (t : Store ℕ) → length ((rest ++ a ∷ []) ++ b ∷ []) ≡ 2 → spec.two_of ((rest ++ a ∷ []) ++ b ∷ []) t ≡ Went (a, b) t
two_last [] a b t h = refl
two_last (x ∷ []) a b t h = absurd (omega (arith, h))
two_last (x ∷ y ∷ rest) a b t h = absurd (omega (arith, simp length-append at h))

pub two_popped : (items front rest : List Value) (a b : Value) (t : Store ℕ) → items ≡ front ++ b ∷ [] → front ≡ rest ++ a ∷ [] → length items ≡ 2 → spec.two_of items t ≡ Went (a, b) t
two_popped items front rest a b t is front_is two =
    let whole : items ≡ (rest ++ a ∷ []) ++ b ∷ [] = is ∙ ap (λ xs. xs ++ b ∷ []) front_is in
    ap (λ xs. spec.two_of xs t) whole ∙ two_last rest a b t (ap length (sym whole) ∙ two)

-- ---- a dict or anything else

other_from : (x : Value-F Value) (v : Value) (t : Store ℕ) → ((id : ℕ) → x ≡ Value-F.Dict id → ⊥) → spec.dict_from x v t ≡ dict_of_pairs v t
other_from (Value-F.Dict id) v t h = absurd (h id refl)
other_from _ v t h = refl

pub from_items : (v : Value) (t : Store ℕ) → ((id : ℕ) → v ≡ value.Dict id → ⊥) → spec.dict_from (out-Value v) v t ≡ dict_of_pairs v t
from_items v t h = other_from (out-Value v) v t (λ id is. h id (sym (roll-out-Value v) ∙ ap roll-Value is ∙ value.rolls-Dict id))

-- ---- copies of pairs

stands_apart : (k : Key) (pairs : Pairs) (i : ℕ) (key : Key) (v : Value) → IsTrue (not (list_any (λ other. same_key k other.0) pairs)) → slice_get pairs i ≡ Some (key, v) → same_key k key ≡ false
stands_apart k [] i key v h is = absurd (cc)
stands_apart k (pair ∷ pairs) zero key v h is =
    let same : pair ≡ (key, v) = cc in
    ap (λ p. same_key k p.0) (sym same) ∙ left_false (same_key k pair.0) (list_any (λ other. same_key k other.0) pairs) h
  where
    left_false : (a b : Bool) → IsTrue (not (a || b)) → a ≡ false
    left_false true b g = absurd (cc)
    left_false false b g = refl
stands_apart k (pair ∷ pairs) (suc i) key v h is = stands_apart k pairs i key v (right_false (same_key k pair.0) (list_any (λ other. same_key k other.0) pairs) h) is
  where
    right_false : (a b : Bool) → IsTrue (not (a || b)) → IsTrue (not b)
    right_false true b g = absurd (cc)
    right_false false b g = g

pub copied_more : (pairs : Pairs) (i : ℕ) (key : Key) (v : Value) → IsTrue (are_distinct pairs) → slice_get pairs i ≡ Some (key, v) → dict_put (take i pairs) key v ≡ take (i + 1) pairs
unfolding dict_put
copied_more [] i key v distinct is = absurd (cc)
copied_more (pair ∷ pairs) zero key v distinct is = let same : pair ≡ (key, v) = cc in ap (λ p. p ∷ []) (sym same)
copied_more (pair ∷ pairs) (suc i) key v distinct is =
    let apart : same_key key pair.0 ≡ false = same_key_equiv.symm key pair.0 ∙ stands_apart pair.0 pairs i key v (and_left (not (list_any (λ other. same_key pair.0 other.0) pairs)) (are_distinct pairs) distinct) is in
    let e : suc i + 1 ≡ suc (i + 1) = omega arith in
    ap (λ b. cond b ((pair.0, v) ∷ take i pairs) (pair ∷ dict_put (take i pairs) key v)) apart
    ∙ ap (λ ps. pair ∷ ps) (copied_more pairs i key v (and_right (not (list_any (λ other. same_key pair.0 other.0) pairs)) (are_distinct pairs) distinct) is)
    ∙ sym (ap (λ n. take n (pair ∷ pairs)) e)

-- ---- a new dict

module _ (v : Value) (all : List Value) (s t : Store ℕ) (is : items_in s.state v ≡ Some all) where
  made_as : dict_of_pairs v s ≡ and_then (spec.pairs_from [] all s) new_dict
  made_as = ap (λ o. and_then o new_dict) (of_items v all (spec.pairs_from []) s is)

  pub made_ends : (e : Stop) → Gives (spec.pairs_from [] all s) (Err e) t → Gives (dict_of_pairs v s) (Err e) t
  made_ends (stop.Failure e) h = made_as ∙ ap (λ o. and_then o new_dict) h
  made_ends stop.NoMemory h = tt

  pub made_gives : (pairs : Pairs) (u : Store ℕ) (r : Result Value Stop) → spec.pairs_from [] all s ≡ Went pairs t → Gives (new_dict pairs t) r u → Gives (dict_of_pairs v s) r u
  made_gives pairs u r went h = same_gives _ _ r u (made_as ∙ ap (λ o. and_then o new_dict) went) h

pub made_nothing : (v : Value) (s : Store ℕ) → items_in s.state v ≡ None → dict_of_pairs v s ≡ Failed failure.WrongType s
made_nothing v s is = ap (λ o. and_then o new_dict) (no_items v (spec.pairs_from []) s is)

module _ (s : State ℕ) (pairs : Pairs) (left mid rest : ℕ) where
  pub first_over : (e : Failure) → charged left (sum_of_weights (key_values pairs)) ≡ (Err e, mid) → spec.copied_pairs pairs (record { state = s; left = left }) ≡ Failed e (record { state = s; left = mid })
  first_over e over = charge_failed s left (sum_of_weights (key_values pairs)) mid e (charge_items (key_values pairs) >> new_dict pairs) over

  module _ (paid : charged left (sum_of_weights (key_values pairs)) ≡ (Ok tt, mid)) where
    first_paid : spec.copied_pairs pairs (record { state = s; left = left }) ≡ (charge_items (key_values pairs) >> new_dict pairs) (record { state = s; left = mid })
    first_paid = charge_went s left (sum_of_weights (key_values pairs)) mid (charge_items (key_values pairs) >> new_dict pairs) paid

    pub second_over : (e : Failure) → charged mid (sum_of_weights (key_values pairs)) ≡ (Err e, rest) → spec.copied_pairs pairs (record { state = s; left = left }) ≡ Failed e (record { state = s; left = rest })
    second_over e over = first_paid ∙ charge_failed s mid (sum_of_weights (key_values pairs)) rest e (new_dict pairs) over

    pub copied_gives : (u : Store ℕ) (r : Result Value Stop) → charged mid (sum_of_weights (key_values pairs)) ≡ (Ok tt, rest) → Gives (new_dict pairs (record { state = s; left = rest })) r u
        → Gives (spec.copied_pairs pairs (record { state = s; left = left })) r u
    copied_gives u r more h = same_gives _ _ r u (first_paid ∙ charge_went s mid (sum_of_weights (key_values pairs)) rest (new_dict pairs) more) h

pub dict_keys : (s : State ℕ) (v : Value) (id : ℕ) → v ≡ value.Dict id → given s v ≡ key_values (dict s id)
dict_keys s v id is = ap (given s) is ∙ given_dict s id

pub dict_count : (s : State ℕ) (v : Value) (id : ℕ) → v ≡ value.Dict id → length (given s v) ≡ length (dict s id)
dict_count s v id is = ap length (dict_keys s v id is) ∙ keys_length (dict s id)

distinct_held : (o : Option (Object ℕ)) → ((x : Object ℕ) → o ≡ Some x → IsTrue (has_distinct_keys x)) → IsTrue (are_distinct (pairs_held o))
distinct_held (Some (AList items)) h = refl
distinct_held (Some (ADict pairs)) h = h (ADict pairs) refl
distinct_held (Some (AFunction cell number defaults)) h = refl
distinct_held None h = refl

-- no key of a machine's dict stands twice
pub dict_distinct : (m : MachineState) (id : ℕ) → IsMachine m → IsTrue (are_distinct (dict m.state id))
unfolding dict object
dict_distinct m id kept = distinct_held (slice_get m.state.objects id) (λ x is. one_passes has_distinct_keys m.state.objects id x kept.keys is)
