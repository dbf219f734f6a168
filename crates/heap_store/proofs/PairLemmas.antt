-- The pairs of a dict are the entries of an ordered map, and what stays of them when a pair is put or taken out.
use Rattle.std.proofs.Common.{◌≡◌, ℕ, suc, ◌+◌, ◌<◌, ◌≤◌, Bool, true, false, not, ◌||◌, cond, List, [], ◌∷◌, ◌++◌, length, refl, sym, ap, ◌∙◌, arith, IsTrue, Some, None, get_or, slice_set, add-one}
use Rattle.std.specs.List.{list_all, list_any}
use Rattle.std.specs.Map.{lookup, remove_entry}
use Rattle.indexmap.specs.IndexMap.{insert_entry}
use Rattle.star_value.specs.declared.key.Key.{Key}
use Rattle.star_value.specs.declared.value.Value.{Value}
use Rattle.star_value.specs.KeyLaws.{same_key_equiv}
use Rattle.star_value.specs.Keys.{value_of}
use Rattle.star_value.specs.KeyOrder.{same_key}
use Rattle.star_meaning.specs.State.{dict_get, dict_put, dict_without}
use Rattle.star_meaning.specs.Validity.{all_in_pair, are_distinct}
use Rattle.heap_store.proofs.Tested.{and_left, and_right, and_both}

abbrev pub Pairs : Type 0
Pairs = List (Key × Value)

-- ---- the words of a dict are those of an ordered map

pub got : (key : Key) (pairs : List (Key × Value)) → dict_get pairs key ≡ lookup (same_key key) pairs
unfolding dict_get
got key [] = refl
got key (pair ∷ pairs) = ap (cond (same_key key pair.0) (Some pair.1)) (got key pairs)

pub put : (key : Key) (v : Value) (pairs : List (Key × Value)) → dict_put pairs key v ≡ insert_entry same_key pairs key v
unfolding dict_put
put key v [] = refl
put key v (pair ∷ pairs) = ap (λ rest. cond (same_key key pair.0) ((pair.0, v) ∷ pairs) (pair ∷ rest)) (put key v pairs)

pub without : (key : Key) (pairs : List (Key × Value)) → dict_without pairs key ≡ remove_entry (same_key key) pairs
unfolding dict_without
without key [] = refl
without key (pair ∷ pairs) = ap (λ rest. cond (same_key key pair.0) pairs (pair ∷ rest)) (without key pairs)

pub ruleset words = (got, put, without)

-- ---- a test of each key and value

module _ (test : Value → Bool) (key : Key) where
  abbrev pub All : Pairs → Type 0
  All pairs = IsTrue (list_all (all_in_pair test) pairs)

  first_passes : (pair : Key × Value) (pairs : Pairs) → All (pair ∷ pairs) → IsTrue (all_in_pair test pair)
  first_passes pair pairs h = and_left (all_in_pair test pair) (list_all (all_in_pair test) pairs) h

  rest_passes : (pair : Key × Value) (pairs : Pairs) → All (pair ∷ pairs) → All pairs
  rest_passes pair pairs h = and_right (all_in_pair test pair) (list_all (all_in_pair test) pairs) h

  put_here : (v : Value) → IsTrue (test v) → (pair : Key × Value) (pairs : Pairs) (b : Bool) → All (pair ∷ pairs) → All (dict_put pairs key v)
      → All (cond b ((pair.0, v) ∷ pairs) (pair ∷ dict_put pairs key v))
  put_here v fine pair pairs true h more =
      and_both (all_in_pair test (pair.0, v)) (list_all (all_in_pair test) pairs)
      (and_both (test (value_of pair.0)) (test v) (and_left (test (value_of pair.0)) (test pair.1) (first_passes pair pairs h)) fine) (rest_passes pair pairs h)
  put_here v fine pair pairs false h more = and_both (all_in_pair test pair) (list_all (all_in_pair test) (dict_put pairs key v)) (first_passes pair pairs h) more

  pub all_put : (v : Value) → IsTrue (test (value_of key)) → IsTrue (test v) → (pairs : Pairs) → All pairs → All (dict_put pairs key v)
  unfolding dict_put
  all_put v good fine [] h = and_both (all_in_pair test (key, v)) true (and_both (test (value_of key)) (test v) good fine) refl
  all_put v good fine (pair ∷ pairs) h = put_here v fine pair pairs (same_key key pair.0) h (all_put v good fine pairs (rest_passes pair pairs h))

  left_here : (pair : Key × Value) (pairs : Pairs) (b : Bool) → All (pair ∷ pairs) → All (dict_without pairs key) → All (cond b pairs (pair ∷ dict_without pairs key))
  left_here pair pairs true h more = rest_passes pair pairs h
  left_here pair pairs false h more = and_both (all_in_pair test pair) (list_all (all_in_pair test) (dict_without pairs key)) (first_passes pair pairs h) more

  pub all_without : (pairs : Pairs) → All pairs → All (dict_without pairs key)
  unfolding dict_without
  all_without [] h = refl
  all_without (pair ∷ pairs) h = left_here pair pairs (same_key key pair.0) h (all_without pairs (rest_passes pair pairs h))

-- the same of the values alone
module _ (test : Value → Bool) (key : Key) (v : Value) (fine : IsTrue (test v)) where
  abbrev pub Values : Pairs → Type 0
  Values pairs = IsTrue (list_all (λ pair. test pair.1) pairs)

  value_here : (pair : Key × Value) (pairs : Pairs) (b : Bool) → Values (pair ∷ pairs) → Values (dict_put pairs key v) → Values (cond b ((pair.0, v) ∷ pairs) (pair ∷ dict_put pairs key v))
  value_here pair pairs true h more = and_both (test v) (list_all (λ p. test p.1) pairs) fine (and_right (test pair.1) (list_all (λ p. test p.1) pairs) h)
  value_here pair pairs false h more = and_both (test pair.1) (list_all (λ p. test p.1) (dict_put pairs key v)) (and_left (test pair.1) (list_all (λ p. test p.1) pairs) h) more

  pub values_put : (pairs : Pairs) → Values pairs → Values (dict_put pairs key v)
  unfolding dict_put
  values_put [] h = and_both (test v) true fine refl
  values_put (pair ∷ pairs) h = value_here pair pairs (same_key key pair.0) h (values_put pairs (and_right (test pair.1) (list_all (λ p. test p.1) pairs) h))

-- ---- distinct keys

abbrev stands : Key → Pairs → Bool
stands k pairs = list_any (λ other. same_key k other.0) pairs

abbrev Away : Key → Pairs → Type 0
Away k pairs = IsTrue (not (stands k pairs))

away_first : (a b : Bool) → IsTrue (not (a || b)) → a ≡ false
away_first true b h = absurd (cc)
away_first false b h = refl

away_rest : (a b : Bool) → IsTrue (not (a || b)) → IsTrue (not b)
away_rest true b h = absurd (cc)
away_rest false b h = h

away_both : (a b : Bool) → a ≡ false → IsTrue (not b) → IsTrue (not (a || b))
away_both true b h k = absurd (cc)
away_both false b h k = k

module _ (key : Key) where
  away_put_here : (v : Value) (k : Key) (pair : Key × Value) (pairs : Pairs) (b : Bool) → Away k (pair ∷ pairs) → Away k (dict_put pairs key v)
      → Away k (cond b ((pair.0, v) ∷ pairs) (pair ∷ dict_put pairs key v))
  away_put_here v k pair pairs true h more = h
  away_put_here v k pair pairs false h more = away_both (same_key k pair.0) (stands k (dict_put pairs key v)) (away_first (same_key k pair.0) (stands k pairs) h) more

  -- a key that stands nowhere does not come with another
  away_put : (v : Value) (k : Key) → same_key k key ≡ false → (pairs : Pairs) → Away k pairs → Away k (dict_put pairs key v)
  unfolding dict_put
  away_put v k apart [] h = away_both (same_key k key) false apart refl
  away_put v k apart (pair ∷ pairs) h = away_put_here v k pair pairs (same_key key pair.0) h (away_put v k apart pairs (away_rest (same_key k pair.0) (stands k pairs) h))

  distinct_put_here : (v : Value) (pair : Key × Value) (pairs : Pairs) (b : Bool) → same_key key pair.0 ≡ b → IsTrue (are_distinct (pair ∷ pairs)) → IsTrue (are_distinct (dict_put pairs key v))
      → IsTrue (are_distinct (cond b ((pair.0, v) ∷ pairs) (pair ∷ dict_put pairs key v)))
  distinct_put_here v pair pairs true is h more = h
  distinct_put_here v pair pairs false is h more =
      let apart : same_key pair.0 key ≡ false = same_key_equiv.symm pair.0 key ∙ is in
      and_both (not (stands pair.0 (dict_put pairs key v))) (are_distinct (dict_put pairs key v))
      (away_put v pair.0 apart pairs (and_left (not (stands pair.0 pairs)) (are_distinct pairs) h)) more

  pub distinct_put : (v : Value) (pairs : Pairs) → IsTrue (are_distinct pairs) → IsTrue (are_distinct (dict_put pairs key v))
  unfolding dict_put
  distinct_put v [] h = refl
  distinct_put v (pair ∷ pairs) h = distinct_put_here v pair pairs (same_key key pair.0) refl h (distinct_put v pairs (and_right (not (stands pair.0 pairs)) (are_distinct pairs) h))

  away_without_here : (k : Key) (pair : Key × Value) (pairs : Pairs) (b : Bool) → Away k (pair ∷ pairs) → Away k (dict_without pairs key) → Away k (cond b pairs (pair ∷ dict_without pairs key))
  away_without_here k pair pairs true h more = away_rest (same_key k pair.0) (stands k pairs) h
  away_without_here k pair pairs false h more = away_both (same_key k pair.0) (stands k (dict_without pairs key)) (away_first (same_key k pair.0) (stands k pairs) h) more

  away_without : (k : Key) (pairs : Pairs) → Away k pairs → Away k (dict_without pairs key)
  unfolding dict_without
  away_without k [] h = refl
  away_without k (pair ∷ pairs) h = away_without_here k pair pairs (same_key key pair.0) h (away_without k pairs (away_rest (same_key k pair.0) (stands k pairs) h))

  distinct_without_here : (pair : Key × Value) (pairs : Pairs) (b : Bool) → IsTrue (are_distinct (pair ∷ pairs)) → IsTrue (are_distinct (dict_without pairs key))
      → IsTrue (are_distinct (cond b pairs (pair ∷ dict_without pairs key)))
  distinct_without_here pair pairs true h more = and_right (not (stands pair.0 pairs)) (are_distinct pairs) h
  distinct_without_here pair pairs false h more =
      and_both (not (stands pair.0 (dict_without pairs key))) (are_distinct (dict_without pairs key))
      (away_without pair.0 pairs (and_left (not (stands pair.0 pairs)) (are_distinct pairs) h)) more

  pub distinct_without : (pairs : Pairs) → IsTrue (are_distinct pairs) → IsTrue (are_distinct (dict_without pairs key))
  unfolding dict_without
  distinct_without [] h = refl
  distinct_without (pair ∷ pairs) h = distinct_without_here pair pairs (same_key key pair.0) h (distinct_without pairs (and_right (not (stands pair.0 pairs)) (are_distinct pairs) h))

pub put_keeps : (key : Key) (v : Value) (pairs : List (Key × Value)) → IsTrue (are_distinct pairs) → IsTrue (are_distinct (insert_entry same_key pairs key v))
put_keeps key v pairs h = rw (← put key v pairs) (distinct_put key v pairs h)

pub without_keeps : (key : Key) (pairs : List (Key × Value)) → IsTrue (are_distinct pairs) → IsTrue (are_distinct (remove_entry (same_key key) pairs))
without_keeps key pairs h = rw (← without key pairs) (distinct_without key pairs h)

-- no key stands twice after a put, and none after a take
pub ruleset distinct = (put_keeps, without_keeps)
