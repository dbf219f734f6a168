-- Alike states whose objects are numbered as they are met are one state.
use Rattle.std.proofs.Common.{◌≡◌, ◌<◌, ◌+◌, ◌⊎◌, ℕ, suc, List, [], ◌∷◌, ◌++◌, map, length, Bool, true, false, IsTrue, inl, inr, ⊎_elim, refl, sym, ap, arith, subst, ◌∙◌}
use Rattle.std.proofs.lemmas.Bool.Decides.{Decides-eqb, nat_tests}
use Rattle.std.specs.List.{flat_map}
use Rattle.std.specs.Prelude.{◌==◌, nat_lt, if◌then◌else◌, Option, Some, None, slice_get}
use Rattle.star_value.specs.declared.key.Key.{Key}
use Rattle.star_value.specs.declared.value.Value.{Value, fold-roll-Value, ind-Value, map-Value, out-Value, roll-Value, roll-out-Value}
use Rattle.star_value.specs.declared.value.Value.TheOpen.{Value-F}
use Rattle.star_value.specs.KeyOrder.{all_hold, same_key}
use Rattle.star_meaning.specs.State.{Object, AList, ADict, AFunction, object}
use Rattle.star_meaning.specs.Alike.{AlikeMachines, IsAlike, LikeFound, LikeObjects, Pairs, are_apart, is_pair, like, like_global, like_items, like_layer, like_pair, like_pairs}
use Rattle.star_meaning.specs.Laws.{AlikeStatesHaveOneSnapshot}
use Rattle.star_meaning.specs.Snapshot.{IsCanon, are_met, is_canonical, met_from, object_references, references, references_step, state_bytes}
use Rattle.star_meaning.specs.Validity.{MachineState}
use Rattle.star_meaning.proofs.MovedValues.{Moving}
use Rattle.star_meaning.proofs.AlikeSteps.{found_below}
use Rattle.star_meaning.proofs.AlikeNumbers.{and_both, at_or, both_and, firsts, not_true, places, same_number, seconds}
use Rattle.star_meaning.proofs.AlikeOrder.{one_first}
use Rattle.star_meaning.proofs.AlikeTurned.{machines_over, machines_turned}
use Rattle.star_meaning.proofs.AlikeValues.{globals_placed, like_rolled, object_placed}

-- no number is changed
abbrev unchanged : Moving
unchanged = record { to = λ n. n; one = λ a b. refl; bound = 0 }

module _ (p : Pairs) where
  -- the references of values that correspond are pairs, in order
  abbrev pub Paired : List ℕ → List ℕ → Type 0
  Paired xs ys = IsTrue (all_hold (map (is_pair p) xs) ys)

  appended : (xs ys vs ws : List ℕ) → Paired xs ys → Paired vs ws → Paired (xs ++ vs) (ys ++ ws)
  appended [] [] vs ws h k = k
  appended [] (y ∷ ys) vs ws h k = absurd (not_true h)
  appended (x ∷ xs) [] vs ws h k = absurd (not_true h)
  appended (x ∷ xs) (y ∷ ys) vs ws h k = let both = and_both (is_pair p x y) _ h in both_and (is_pair p x y) _ both.0 (appended xs ys vs ws both.1 k)

  abbrev Refers : Value → Type 0
  Refers x = (y : Value) → IsTrue (like p x y) → Paired (references x) (references y)

  abbrev Known : Type 0
  Known = (v : Value) × Refers v

  abbrev bare : Value-F Known → Value-F Value
  bare = map-Value Known Value (λ e. e.0)

  abbrev layer_references : Value-F Value → List ℕ
  layer_references x = references_step (map-Value Value (List ℕ) references x)

  parts_refer : (all : List Known) (ys : List Value) → IsTrue (all_hold (map (like p) (map (λ e. e.0) all)) ys)
      → Paired (flat_map (λ ids. ids) (map references (map (λ e. e.0) all))) (flat_map (λ ids. ids) (map references ys))
  parts_refer [] [] h = refl
  parts_refer [] (y ∷ ys) h = absurd (not_true h)
  parts_refer (e ∷ all) [] h = absurd (not_true h)
  parts_refer (e ∷ all) (y ∷ ys) h = let both = and_both (like p e.0 y) _ h in appended (references e.0) (references y) _ _ (e.1 y both.0) (parts_refer all ys both.1)

  layers_refer : (y : Value-F Known) (v : Value-F Value) → IsTrue (like_layer p (map-Value Value (Value → Bool) (like p) (bare y)) v) → Paired (layer_references (bare y)) (layer_references v)
  layers_refer Value-F.None Value-F.None h = refl
  layers_refer (Value-F.Bool a) (Value-F.Bool b) h = refl
  layers_refer (Value-F.Int a) (Value-F.Int b) h = refl
  layers_refer (Value-F.Text a) (Value-F.Text b) h = refl
  layers_refer (Value-F.Tuple all) (Value-F.Tuple ys) h = parts_refer all ys h
  layers_refer (Value-F.Range a) (Value-F.Range b) h = refl
  layers_refer (Value-F.List a) (Value-F.List b) h = both_and (is_pair p a b) true h refl
  layers_refer (Value-F.Dict a) (Value-F.Dict b) h = both_and (is_pair p a b) true h refl
  layers_refer (Value-F.Function a) (Value-F.Function b) h = both_and (is_pair p a b) true h refl
  layers_refer (Value-F.Builtin a) (Value-F.Builtin b) h = refl
  layers_refer _ _ h = absurd (not_true h)

  opened : (v : Value) → references v ≡ layer_references (out-Value v)
  unfolding references
  opened v = ap references (sym (roll-out-Value v)) ∙ fold-roll-Value (List ℕ) references_step (out-Value v)

  rolled : (x : Value-F Value) → references (roll-Value x) ≡ layer_references x
  unfolding references
  rolled x = fold-roll-Value (List ℕ) references_step x

  rolled_refer : (y : Value-F Known) → Refers (roll-Value (bare y))
  rolled_refer y v h =
      let found = layers_refer y (out-Value v) (subst IsTrue (like_rolled p (bare y) v) h) in
      subst (λ ids. Paired ids (references v)) (sym (rolled (bare y))) (subst (λ ids. Paired (layer_references (bare y)) ids) (sym (opened v)) found)

  value_refers : (x : Value) → Refers x
  value_refers = ind-Value Refers (λ x y is. subst (λ z. Refers (roll-Value z)) is (rolled_refer y))

  list_refers : (xs ys : List Value) → IsTrue (like_items p xs ys) → Paired (flat_map references xs) (flat_map references ys)
  list_refers [] [] h = refl
  list_refers [] (y ∷ ys) h = absurd (not_true h)
  list_refers (x ∷ xs) [] h = absurd (not_true h)
  list_refers (x ∷ xs) (y ∷ ys) h = let both = and_both (like p x y) _ h in appended (references x) (references y) _ _ (value_refers x y both.0) (list_refers xs ys both.1)

  dict_refers : (xs ys : List (Key × Value)) → IsTrue (like_pairs p xs ys) → Paired (flat_map (λ pair. references pair.1) xs) (flat_map (λ pair. references pair.1) ys)
  dict_refers [] [] h = refl
  dict_refers [] (y ∷ ys) h = absurd (not_true h)
  dict_refers (x ∷ xs) [] h = absurd (not_true h)
  dict_refers (x ∷ xs) (y ∷ ys) h =
      let both = and_both (like_pair p x y) _ h in
      appended (references x.1) (references y.1) _ _ (value_refers x.1 y.1 (and_both (same_key x.0 y.0) (like p x.1 y.1) both.0).1) (dict_refers xs ys both.1)

  pub globals_refer : (xs ys : List (List ℕ × Value)) → IsTrue (all_hold (map (like_global p) xs) ys) → Paired (flat_map (λ entry. references entry.1) xs) (flat_map (λ entry. references entry.1) ys)
  globals_refer [] [] h = refl
  globals_refer [] (y ∷ ys) h = absurd (not_true h)
  globals_refer (x ∷ xs) [] h = absurd (not_true h)
  globals_refer (x ∷ xs) (y ∷ ys) h =
      let both = and_both (like_global p x y) _ h in
      appended (references x.1) (references y.1) _ _ (value_refers x.1 y.1 (and_both _ (like p x.1 y.1) both.0).1) (globals_refer xs ys both.1)

  pub object_refers : {C : Type 0} (o q : Object C) → LikeObjects p o q → Paired (object_references o) (object_references q)
  object_refers (AList xs) (AList ys) h = list_refers xs ys h
  object_refers (ADict xs) (ADict ys) h = dict_refers xs ys h
  object_refers (AFunction c m xs) (AFunction d n ys) h = list_refers xs ys h.2
  object_refers _ _ h = absurd h

-- ---- reading in order

-- a number that is read was met before, or is met now
met_step : (n id : ℕ) (ids : List ℕ) (m : ℕ) → met_from n (id ∷ ids) ≡ Some m → ((id < n) × (met_from n ids ≡ Some m)) ⊎ ((id ≡ n) × (met_from (n + 1) ids ≡ Some m))
met_step n id ids m h = by (nat_lt id n) (id == n) refl refl h
  where
    by : (t u : Bool) → nat_lt id n ≡ t → (id == n) ≡ u → (if t then met_from n ids else if u then met_from (n + 1) ids else None) ≡ Some m → ((id < n) × (met_from n ids ≡ Some m)) ⊎ ((id ≡ n) × (met_from (n + 1) ids ≡ Some m))
    by true u e f k = inl (grind (arith, nat_tests, e), k)
    by false true e f k = inr ((Decides-eqb id n).0 f, k)
    by false false e f k = absurd (cc)

module _ (p : Pairs) (once : IsTrue (are_apart (firsts p))) (second_once : IsTrue (are_apart (seconds p))) where
  one_second : (a b c : ℕ) → IsTrue (is_pair p a b) → IsTrue (is_pair p a c) → b ≡ c
  one_second a b c h k =
      let here = places p once a b h in
      let there = places p once a c k in
      sym (here.4 (λ n. n)) ∙ ap (at_or (λ n. n) (seconds p)) (sym here.2 ∙ there.2) ∙ there.4 (λ n. n)

  -- each number below one is a pair with itself
  abbrev SelfTo : ℕ → Type 0
  SelfTo n = (i : ℕ) → i < n → IsTrue (is_pair p i i)

  abbrev Ends : ℕ → ℕ → Type 0
  Ends m k = (m ≡ k) × SelfTo m

  self_next : (n : ℕ) → SelfTo n → IsTrue (is_pair p n n) → SelfTo (n + 1)
  self_next n h k i l = by (nat_lt i n) refl
    where
      by : (t : Bool) → nat_lt i n ≡ t → IsTrue (is_pair p i i)
      by true e = h i (grind (arith, nat_tests, e))
      by false e = let same : n ≡ i = grind (arith, nat_tests, e, l) in subst (λ x. IsTrue (is_pair p x x)) same k

  met_alike : (n m k : ℕ) (ids os : List ℕ) → SelfTo n → Paired p ids os → met_from n ids ≡ Some m → met_from n os ≡ Some k → Ends m k
  met_alike n m k [] [] h r e f = let one : n ≡ m = cc in let two : n ≡ k = cc in (sym one ∙ two, subst SelfTo one h)
  met_alike n m k [] (o ∷ os) h r e f = absurd (not_true r)
  met_alike n m k (id ∷ ids) [] h r e f = absurd (not_true r)
  met_alike n m k (id ∷ ids) (o ∷ os) h r e f =
      let both = and_both (is_pair p id o) _ r in
      ⊎_elim
      (λ one. ⊎_elim (λ two. met_alike n m k ids os h both.1 one.1 two.1)
      (λ two. let same = one_second id id o (h id one.0) both.0 in absurd (let low = one.0 in let high = two.0 in omega (arith, low, high, same))) (met_step n o os k f))
      (λ one. ⊎_elim (λ two. let same = one_first p second_once id o o both.0 (h o two.0) in absurd (let low = two.0 in let high = one.0 in omega (arith, low, high, same)))
      (λ two. met_alike (n + 1) m k ids os
      (self_next n h (subst (λ x. IsTrue (is_pair p x n)) one.0 (subst (λ x. IsTrue (is_pair p id x)) two.0 both.0))) both.1 one.1 two.1) (met_step n o os k f))
      (met_step n id ids m e)

  abbrev Whole : List (Object ℕ) → List (Object ℕ) → ℕ → Type 0
  Whole os qs number = (length os ≡ length qs) × SelfTo (number + length os)

  abbrev Found : List (Object ℕ) → List (Object ℕ) → ℕ → Type 0
  Found os qs number = (i : ℕ) → IsTrue (is_pair p (number + i) (number + i)) → LikeFound p (slice_get os i) (slice_get qs i)

  objects_met : (os qs : List (Object ℕ)) (number n : ℕ) → SelfTo n → Found os qs number → IsTrue (are_met number (Some n) os) → IsTrue (are_met number (Some n) qs) → Whole os qs number
  objects_met [] [] number n h r e f =
      (refl, λ i l. h i (let same = same_number number n e in omega (arith, l, same)))
  objects_met [] (q ∷ qs) number n h r e f =
      let below = (and_both (nat_lt number n) _ f).0 in let same = same_number number n e in absurd (grind (arith, nat_tests, below, same))
  objects_met (o ∷ os) [] number n h r e f =
      let below = (and_both (nat_lt number n) _ e).0 in let same = same_number number n f in absurd (grind (arith, nat_tests, below, same))
  objects_met (o ∷ os) (q ∷ qs) number n h r e f =
      let one = and_both (nat_lt number n) _ e in
      let two = and_both (nat_lt number n) _ f in
      let here : number < n = grind (arith, nat_tests, one.0) in
      let start : number ≡ number + 0 = omega arith in
      let first = r 0 (subst (λ x. IsTrue (is_pair p x x)) start (h number here)) in
      let rest = by (met_from n (object_references o)) (met_from n (object_references q)) refl refl first one.1 two.1
      (λ m l. objects_met os qs (number + 1) m l (λ i c. r (suc i) (subst (λ x. IsTrue (is_pair p x x)) (later number i) c))) in
      (ap suc rest.0, λ i l. rest.1 i (omega (arith, l)))
    where
      later : (a i : ℕ) → a + 1 + i ≡ a + suc i
      later a i = omega arith

      by : (x y : Option ℕ) → met_from n (object_references o) ≡ x → met_from n (object_references q) ≡ y → LikeObjects p o q → IsTrue (are_met (number + 1) x os) → IsTrue (are_met (number + 1) y qs)
          → ((m : ℕ) → SelfTo m → IsTrue (are_met (number + 1) (Some m) os) → IsTrue (are_met (number + 1) (Some m) qs) → Whole os qs (number + 1)) → Whole os qs (number + 1)
      by None y a b l s t k = absurd (not_true s)
      by (Some m) None a b l s t k = absurd (not_true t)
      by (Some m) (Some j) a b l s t k =
          let ends = met_alike n m j (object_references o) (object_references q) h (object_refers p o q l) a b in k m ends.1 s (subst (λ x. IsTrue (are_met (number + 1) (Some x) qs)) (sym ends.0) t)

-- ---- one state

lists_one : (p : Pairs) (same : (a b : ℕ) → IsTrue (is_pair p a b) → a ≡ b) (os qs : List (Object ℕ)) → length os ≡ length qs → ((i : ℕ) → i < length os → LikeFound p (slice_get os i) (slice_get qs i)) → os ≡ qs
lists_one p same [] [] e h = refl
lists_one p same [] (q ∷ qs) e h = absurd (omega arith)
lists_one p same (o ∷ os) [] e h = absurd (omega arith)
lists_one p same (o ∷ os) (q ∷ qs) e h =
    let here = object_placed p unchanged unchanged unchanged (λ a b k. refl) same o q (h 0 (omega arith)) in
    let rest = lists_one p same os qs (omega (arith, e)) (λ i l. h (suc i) (omega (arith, l))) in λ j. (sym here.0 ∙ here.1) j ∷ rest j

module _ (p : Pairs) (c d : MachineState) (h : IsAlike p c.state d.state) where
  grown : IsTrue (is_canonical c) → IsTrue (is_canonical d) → Whole p h.first_once h.second_once c.state.objects d.state.objects 0
  unfolding object
  grown e f = by (met_from 0 (flat_map (λ entry. references entry.1) c.state.globals)) (met_from 0 (flat_map (λ entry. references entry.1) d.state.globals)) refl refl e f
    where
      zero_more : (i : ℕ) → 0 + i ≡ i
      zero_more i = omega arith

      by : (x y : Option ℕ) → met_from 0 (flat_map (λ entry. references entry.1) c.state.globals) ≡ x → met_from 0 (flat_map (λ entry. references entry.1) d.state.globals) ≡ y
          → IsTrue (are_met 0 x c.state.objects) → IsTrue (are_met 0 y d.state.objects) → Whole p h.first_once h.second_once c.state.objects d.state.objects 0
      by None y a b s t = absurd (not_true s)
      by (Some m) None a b s t = absurd (not_true t)
      by (Some m) (Some j) a b s t =
          let ends = met_alike p h.first_once h.second_once 0 m j _ _ (λ i l. absurd (omega (arith, l))) (globals_refer p c.state.globals d.state.globals h.globals) a b in
          objects_met p h.first_once h.second_once c.state.objects d.state.objects 0 m ends.1
          (λ i k. subst (λ x. LikeFound p (slice_get c.state.objects x) (slice_get d.state.objects x)) (zero_more i) (h.objects (0 + i) (0 + i) k)) s (subst (λ x. IsTrue (are_met 0 (Some x) d.state.objects)) (sym ends.0) t)

  states_one : IsTrue (is_canonical c) → IsTrue (is_canonical d) → c.ran ≡ d.ran → c ≡ d
  unfolding object
  states_one e f r =
      let whole = grown e f in
      let same = λ (a b : ℕ) (k : IsTrue (is_pair p a b)).
      let below = (found_below p c.state d.state a b (object c.state a) (object d.state b) refl refl (h.objects a b k)).0 in
      let there : a < 0 + length c.state.objects = omega (arith, below) in one_second p h.first_once h.second_once a a b (whole.1 a there) k in
      let globals = globals_placed p unchanged unchanged unchanged (λ a b k. refl) same c.state.globals d.state.globals h.globals in
      let objects = lists_one p same c.state.objects d.state.objects whole.0
      (λ i l. let there : i < 0 + length c.state.objects = omega (arith, l) in h.objects i i (whole.1 i there)) in
      λ j. record { state = record { globals = (sym globals.0 ∙ globals.1) j; objects = objects j }; ran = r j }

pub canonical_one : (c d : MachineState) → IsTrue (is_canonical c) → IsTrue (is_canonical d) → AlikeMachines c d → c ≡ d
canonical_one c d e f h = states_one h.state.0 c d h.state.1 e f h.ran

-- ---- the laws

pub one_canon : (m n c d : MachineState) → AlikeMachines m n → IsCanon m c → IsCanon n d → c ≡ d
one_canon m n c d h e f = canonical_one c d e.canonical f.canonical (machines_over c n d (machines_over c m n (machines_turned m c e.alike) h) f.alike)

pub one_snapshot : AlikeStatesHaveOneSnapshot
one_snapshot m n one other h e f = e.2 ∙ ap state_bytes (one_canon m n e.0 f.0 h e.1 f.1) ∙ sym f.2
