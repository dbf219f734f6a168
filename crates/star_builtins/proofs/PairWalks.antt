-- Walks over the pairs of a dict, place by place.
use Rattle.std.proofs.Common.{◌≡◌, ℕ, suc, zero, ◌+◌, ◌<◌, ◌≤◌, Bool, List, [], ◌∷◌, ◌++◌, map, length, drop, refl, sym, ap, ◌∙◌, subst, arith, IsTrue, Some, slice_get}
use Rattle.std.specs.Prelude.{Result, Ok, Err, option_map, ◌&&◌}
use Rattle.std.specs.List.{list_all, flat_map}
use Rattle.std.proofs.lemmas.Option.{slice_get-map, slice_get_within}
use Rattle.std.proofs.lemmas.List.{drop_all}
use Rattle.heap_store.proofs.Tested.{and_left, and_right, and_both, one_passes}
use Rattle.star_value.specs.declared.failure.Failure.{Failure}
use Rattle.star_value.specs.declared.key.Key.{Key}
use Rattle.star_value.specs.declared.stop.Stop.{Stop}
use Rattle.star_value.specs.declared.stop.Stop.TheVariants as stop
use Rattle.star_value.specs.declared.value.Value.{Value}
use Rattle.star_value.specs.declared.value.Value.TheVariants as value
use Rattle.star_value.specs.Charge.{charged}
use Rattle.star_value.specs.Keys.{value_of}
use Rattle.star_value.specs.Weight.{weight, sum_of_weights}
use Rattle.star_meaning.specs.Methods.{pair_values, pair_rows}
use Rattle.star_meaning.specs.State.{State}
use Rattle.star_meaning.specs.Steps.{Outcome, Failed, Went, Store, Gives}
use Rattle.star_meaning.specs.Validity.{MachineState, fits, is_proper, all_in_pair}
use Rattle.star_meaning.specs.Values.{new_tuple}
use Rattle.star_builtins.specs.Changes.{PairsFit}
use Rattle.star_builtins.specs.MethodRows.{flat_pairs}
use Rattle.star_builtins.specs.Reached.{Fits, AllFit}
use Rattle.star_builtins.specs.Rows.{tuples_onto}
use Rattle.star_builtins.specs.Walks.{weight_at}
use Rattle.star_builtins.proofs.Charged.{charged_none}
use Rattle.star_builtins.proofs.ChargeLemmas.{charged_more, charged_stop, weights_cons, charged_tuple, charged_tuple_stop}
use Rattle.star_builtins.proofs.TupleLemmas.{row_next, row_over, row_deep, rows_end}
use Rattle.star_builtins.proofs.WalkLemmas.{at_some, drop_at, pushed, pushed_all, walk_more, walk_stop, walk_end}

abbrev Total : Type 0
Total = Result (Unit {0}) Failure × ℕ

length_mapped : {A B : Type 0} (f : A → B) (xs : List A) → length (map f xs) ≡ length xs
length_mapped f [] = refl
length_mapped f (x ∷ xs) = ap suc (length_mapped f xs)

-- ---- the values

module _ (pairs : List (Key × Value)) (place : ℕ) where
  past : length pairs ≤ place → length (pair_values pairs) ≤ place
  past h = subst (λ n. n ≤ place) (sym (length_mapped (λ pair. pair.1) pairs)) h

  module _ (k : Key) (v : Value) (is : slice_get pairs place ≡ Some (k, v)) where
    pub values_get : slice_get (pair_values pairs) place ≡ Some v
    values_get = slice_get-map (λ pair. pair.1) pairs place ∙ ap (option_map (λ pair. pair.1)) is

    values_within : place < length (pair_values pairs)
    values_within = slice_get_within (pair_values pairs) place v values_get

    module _ (left rest : ℕ) (total : Total) where
      pub value_more : (done : Unit {0}) → charged left (weight v) ≡ (Ok done, rest) → charged left (sum_of_weights (drop place (pair_values pairs))) ≡ total → charged rest (sum_of_weights (drop (place + 1) (pair_values pairs))) ≡ total
      value_more done paid before = walk_more (pair_values pairs) place left rest total done (ap (charged left) (at_some (pair_values pairs) place v values_get) ∙ paid) values_within before

      pub value_stop : (e : Failure) → charged left (weight v) ≡ (Err e, rest) → charged left (sum_of_weights (drop place (pair_values pairs))) ≡ total → total ≡ (Err e, rest)
      value_stop e over before = walk_stop (pair_values pairs) place left rest total e (ap (charged left) (at_some (pair_values pairs) place v values_get) ∙ over) values_within before

    pub value_pushed : (done : List Value) → done ++ drop place (pair_values pairs) ≡ pair_values pairs → (done ++ v ∷ []) ++ drop (place + 1) (pair_values pairs) ≡ pair_values pairs
    value_pushed done before = pushed done (pair_values pairs) place v values_get before

  pub value_end : (left : ℕ) (total : Total) → length pairs ≤ place → charged left (sum_of_weights (drop place (pair_values pairs))) ≡ total → total ≡ (Ok tt, left)
  value_end left total h before = walk_end (pair_values pairs) place left total (past h) before

  pub value_pushed_all : (done : List Value) → length pairs ≤ place → done ++ drop place (pair_values pairs) ≡ pair_values pairs → done ≡ pair_values pairs
  value_pushed_all done h before = pushed_all done (pair_values pairs) place (past h) before

pub ruleset values = (value_more, value_stop, value_pushed, value_end, value_pushed_all)

-- ---- a key and its value

pub ruleset both = (charged_more, charged_stop)

add_zero : (n : ℕ) → n + 0 ≡ n
add_zero n = omega arith

pair_weight : (a b : Value) → sum_of_weights (a ∷ b ∷ []) ≡ weight a + weight b
pair_weight a b = weights_cons a (b ∷ []) ∙ ap (λ n. weight a + n) (weights_cons b [] ∙ add_zero (weight b))

pub tuple_paid : (left rest : ℕ) (done : Unit {0}) (a b : Value) (total : Total) → charged left 1 ≡ (Ok done, rest) → charged rest (weight a + weight b) ≡ total → charged left (weight (value.Tuple (a ∷ b ∷ []))) ≡ total
tuple_paid left rest done a b total paid more = charged_tuple left rest done (a ∷ b ∷ []) paid ∙ ap (charged rest) (pair_weight a b) ∙ more

pub tuple_over : (left rest : ℕ) (e : Failure) (a b : Value) → charged left 1 ≡ (Err e, rest) → charged left (weight (value.Tuple (a ∷ b ∷ []))) ≡ (Err e, rest)
tuple_over left rest e a b over = charged_tuple_stop left rest e (a ∷ b ∷ []) over

pub ruleset tuple = (tuple_paid, tuple_over)

-- ---- keys and values, one after the other

both_first : (a b c : ℕ) → a + (b + c) ≡ (a + b) + c
both_first a b c = omega arith

flat_cons : (k : Key) (v : Value) (pairs : List (Key × Value)) → sum_of_weights (flat_pairs ((k, v) ∷ pairs)) ≡ (weight (value_of k) + weight v) + sum_of_weights (flat_pairs pairs)
flat_cons k v pairs =
    weights_cons (value_of k) (v ∷ flat_pairs pairs) ∙ ap (λ n. weight (value_of k) + n) (weights_cons v (flat_pairs pairs))
    ∙ both_first (weight (value_of k)) (weight v) (sum_of_weights (flat_pairs pairs))

module _ (pairs : List (Key × Value)) (place : ℕ) where
  module _ (k : Key) (v : Value) (is : slice_get pairs place ≡ Some (k, v)) where
    flat_weights : sum_of_weights (flat_pairs (drop place pairs)) ≡ (weight (value_of k) + weight v) + sum_of_weights (flat_pairs (drop (place + 1) pairs))
    flat_weights = ap (λ ps. sum_of_weights (flat_pairs ps)) (drop_at pairs place (k, v) is) ∙ flat_cons k v (drop (place + 1) pairs)

    module _ (left rest : ℕ) (total : Total) where
      pub flat_more : (done : Unit {0}) → charged left (weight (value_of k) + weight v) ≡ (Ok done, rest) → charged left (sum_of_weights (flat_pairs (drop place pairs))) ≡ total → charged rest (sum_of_weights (flat_pairs (drop (place + 1) pairs))) ≡ total
      flat_more done paid before =
          sym (charged_more left (weight (value_of k) + weight v) (sum_of_weights (flat_pairs (drop (place + 1) pairs))) rest done paid) ∙ ap (charged left) (sym flat_weights) ∙ before

      pub flat_stop : (e : Failure) → charged left (weight (value_of k) + weight v) ≡ (Err e, rest) → charged left (sum_of_weights (flat_pairs (drop place pairs))) ≡ total → total ≡ (Err e, rest)
      flat_stop e over before =
          sym before ∙ ap (charged left) flat_weights ∙ charged_stop left (weight (value_of k) + weight v) (sum_of_weights (flat_pairs (drop (place + 1) pairs))) rest e over

  pub flat_end : (left : ℕ) (total : Total) → length pairs ≤ place → charged left (sum_of_weights (flat_pairs (drop place pairs))) ≡ total → total ≡ (Ok tt, left)
  flat_end left total h before = sym before ∙ ap (λ ps. charged left (sum_of_weights (flat_pairs ps))) (drop_all place pairs h) ∙ charged_none left

pub ruleset flat = (flat_more, flat_stop, flat_end)

-- ---- pairs as tuples

module _ (pairs : List (Key × Value)) (place : ℕ) where
  rows_past : length pairs ≤ place → length (pair_rows pairs) ≤ place
  rows_past h = subst (λ n. n ≤ place) (sym (length_mapped (λ pair. value_of pair.0 ∷ pair.1 ∷ []) pairs)) h

  module _ (made : List Value) (s : State ℕ) where
    module _ (k : Key) (v : Value) (left rest : ℕ) (is : slice_get pairs place ≡ Some (k, v)) where
      rows_get : slice_get (pair_rows pairs) place ≡ Some (value_of k ∷ v ∷ [])
      rows_get = slice_get-map (λ pair. value_of pair.0 ∷ pair.1 ∷ []) pairs place ∙ ap (option_map (λ pair. value_of pair.0 ∷ pair.1 ∷ [])) is

      first_row : (t : Store ℕ) → tuples_onto made (drop place (pair_rows pairs)) t ≡ tuples_onto made ((value_of k ∷ v ∷ []) ∷ drop (place + 1) (pair_rows pairs)) t
      first_row t = ap (λ rows. tuples_onto made rows t) (drop_at (pair_rows pairs) place (value_of k ∷ v ∷ []) rows_get)

      pub pair_over : (e : Failure) → charged left (weight (value.Tuple (value_of k ∷ v ∷ []))) ≡ (Err e, rest)
          → tuples_onto made (drop place (pair_rows pairs)) (record { state = s; left = left }) ≡ Failed e (record { state = s; left = rest })
      pair_over e over = first_row (record { state = s; left = left }) ∙ row_over made (drop (place + 1) (pair_rows pairs)) s (value_of k ∷ v ∷ []) left rest e over

      pub pair_deep : (done : Unit {0}) (e : Failure) → charged left (weight (value.Tuple (value_of k ∷ v ∷ []))) ≡ (Ok done, rest) → ((t : Store ℕ) → new_tuple (value_of k ∷ v ∷ []) t ≡ Failed e t)
          → tuples_onto made (drop place (pair_rows pairs)) (record { state = s; left = left }) ≡ Failed e (record { state = s; left = rest })
      pair_deep done e paid deep = first_row (record { state = s; left = left }) ∙ row_deep made (drop (place + 1) (pair_rows pairs)) s (value_of k ∷ v ∷ []) left rest e paid (deep (record { state = s; left = rest }))

      pub pair_ends : (done : Unit {0}) (e : Stop) (o : Outcome (Store ℕ) Failure (List Value)) → charged left (weight (value.Tuple (value_of k ∷ v ∷ []))) ≡ (Ok done, rest) → ((t : Store ℕ) → Gives (new_tuple (value_of k ∷ v ∷ []) t) (Err e) t)
          → tuples_onto made (drop place (pair_rows pairs)) (record { state = s; left = left }) ≡ o → Gives {A = List Value} o (Err e) (record { state = s; left = rest })
      pair_ends done (stop.Failure e) o paid deep before = sym before ∙ pair_deep done e paid deep
      pair_ends done stop.NoMemory o paid deep before = tt

      pub pair_next : (done : Unit {0}) (t : Value) → charged left (weight (value.Tuple (value_of k ∷ v ∷ []))) ≡ (Ok done, rest) → ((w : Store ℕ) → new_tuple (value_of k ∷ v ∷ []) w ≡ Went t w)
          → tuples_onto made (drop place (pair_rows pairs)) (record { state = s; left = left }) ≡ tuples_onto (made ++ t ∷ []) (drop (place + 1) (pair_rows pairs)) (record { state = s; left = rest })
      pair_next done t paid is_tuple = first_row (record { state = s; left = left }) ∙ row_next made (drop (place + 1) (pair_rows pairs)) s (value_of k ∷ v ∷ []) left rest t paid (is_tuple (record { state = s; left = rest }))

    pub pairs_end : (left : ℕ) → length pairs ≤ place → tuples_onto made (drop place (pair_rows pairs)) (record { state = s; left = left }) ≡ Went made (record { state = s; left = left })
    pairs_end left h = ap (λ rows. tuples_onto made rows (record { state = s; left = left })) (drop_all place (pair_rows pairs) (rows_past h)) ∙ rows_end made (record { state = s; left = left })

-- ---- what stands in pairs that fit

module _ (m : MachineState) (pairs : List (Key × Value)) (fit : PairsFit m pairs) where
  module _ (place : ℕ) (k : Key) (v : Value) (is : slice_get pairs place ≡ Some (k, v)) where
    pub key_here : Fits m (value_of k)
    key_here = record {
      references = and_left (fits m.state.objects (value_of k)) (fits m.state.objects v) (one_passes (all_in_pair (fits m.state.objects)) pairs place (k, v) fit.references is);
      proper = and_left (is_proper (value_of k)) (is_proper v) (one_passes (all_in_pair is_proper) pairs place (k, v) fit.proper is);
    }

    pub value_here : Fits m v
    value_here = record {
      references = and_right (fits m.state.objects (value_of k)) (fits m.state.objects v) (one_passes (all_in_pair (fits m.state.objects)) pairs place (k, v) fit.references is);
      proper = and_right (is_proper (value_of k)) (is_proper v) (one_passes (all_in_pair is_proper) pairs place (k, v) fit.proper is);
    }

values_pass : (test : Value → Bool) (pairs : List (Key × Value)) → IsTrue (list_all (all_in_pair test) pairs) → IsTrue (list_all test (pair_values pairs))
values_pass test [] h = refl
values_pass test (pair ∷ pairs) h =
    and_both (test pair.1) (list_all test (pair_values pairs)) (and_right (test (value_of pair.0)) (test pair.1) (and_left (all_in_pair test pair) (list_all (all_in_pair test) pairs) h))
    (values_pass test pairs (and_right (all_in_pair test pair) (list_all (all_in_pair test) pairs) h))

pub values_fit : (m : MachineState) (pairs : List (Key × Value)) → PairsFit m pairs → AllFit m (pair_values pairs)
values_fit m pairs fit = record { references = values_pass (fits m.state.objects) pairs fit.references; proper = values_pass is_proper pairs fit.proper }
