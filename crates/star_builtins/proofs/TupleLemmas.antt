-- New tuples, and lists of them.
use Rattle.std.proofs.Common.{◌≡◌, ℕ, zero, suc, ◌+◌, ◌<◌, ◌≤◌, Bool, true, false, List, [], ◌∷◌, ◌++◌, map, max, length, drop, refl, sym, ap, ◌∙◌, subst, arith, IsTrue, Some, slice_get, append_assoc, append-nil, ℤ, pos, ◌+ℤ◌}
use Rattle.std.specs.Prelude.{Result, Ok, Err, nat_lt, nat_le, ◌&&◌}
use Rattle.std.specs.List.{list_all}
use Rattle.std.proofs.lemmas.Bool.Decides.{nat_tests}
use Rattle.heap_store.proofs.Tested.{and_left, and_right, and_both, all_push}
use Rattle.star_value.specs.declared.failure.Failure.{Failure}
use Rattle.star_value.specs.declared.failure.Failure.TheVariants as failure
use Rattle.star_value.specs.declared.stop.Stop.{Stop}
use Rattle.star_value.specs.declared.stop.Stop.TheVariants as stop
use Rattle.star_value.specs.declared.value.Value.{Value, fold-Value}
use Rattle.star_value.specs.declared.value.Value.TheVariants as value
use Rattle.star_value.specs.Charge.{charged}
use Rattle.star_value.specs.Weight.{weight, depth, greatest, sum_of_weights}
use Rattle.star_meaning.proofs.Equations.{depth_tuple, weight_tuple, weight_int}
use Rattle.star_meaning.specs.Builtins as spec
use Rattle.star_meaning.specs.State.{State}
use Rattle.star_meaning.specs.Steps.{Outcome, Went, Failed, Action, Store, Gives, pure, and_then, charge, ◌>>=◌, ◌>>◌}
use Rattle.star_meaning.specs.Validity.{MachineState, fits, is_proper, proper_step}
use Rattle.star_meaning.specs.Values.{new_tuple, new_list, charge_weight}
use Rattle.star_builtins.specs.Reached.{Fits, AllFit}
use Rattle.star_builtins.specs.Rows.{tuples_onto}
use Rattle.star_builtins.proofs.ChargeLemmas.{charged_more, charged_stop, weights_cons}
use Rattle.star_builtins.proofs.FitLemmas.{inside, inside_tuple}
use Rattle.star_builtins.proofs.RowLemmas.{charge_went, charge_failed}

module _ (items : List Value) (s : Store ℕ) where
  pub too_deep : nat_lt 64 (depth (value.Tuple items)) ≡ true → new_tuple items s ≡ Failed failure.TooDeep s
  unfolding new_tuple
  too_deep h = rw h refl

  pub made_tuple : nat_lt 64 (depth (value.Tuple items)) ≡ false → new_tuple items s ≡ Went (value.Tuple items) s
  unfolding new_tuple
  made_tuple h = rw h refl

lower : (d n : ℕ) → nat_lt 64 (max d n + 1) ≡ false → IsTrue (nat_lt d 64)
lower d n h = grind (arith, nat_tests)

lower_rest : (d n : ℕ) → nat_lt 64 (max d n + 1) ≡ false → nat_lt 64 (n + 1) ≡ false
lower_rest d n h = grind (arith, nat_tests)

inside_items : (m : MachineState) (items : List Value) → IsTrue (list_all (fits m.state.objects) items) → IsTrue (list_all is_proper items) → nat_lt 64 (greatest (map depth items) + 1) ≡ false → IsTrue (list_all (inside m.state.objects) items)
unfolding is_proper
inside_items m [] h k low = refl
inside_items m (x ∷ xs) h k low =
    and_both (inside m.state.objects x) (list_all (inside m.state.objects) xs)
    (and_both (fits m.state.objects x) (nat_lt (depth x) 64 && fold-Value Bool proper_step x) (and_left (fits m.state.objects x) (list_all (fits m.state.objects) xs) h)
    (and_both (nat_lt (depth x) 64) (fold-Value Bool proper_step x) (lower (depth x) (greatest (map depth xs)) low)
    (and_right (nat_le (depth x) 64) (fold-Value Bool proper_step x) (and_left (is_proper x) (list_all is_proper xs) k))))
    (inside_items m xs (and_right (fits m.state.objects x) (list_all (fits m.state.objects) xs) h) (and_right (is_proper x) (list_all is_proper xs) k) (lower_rest (depth x) (greatest (map depth xs)) low))

pub tuple_fits : (m : MachineState) (items : List Value) → AllFit m items → nat_lt 64 (depth (value.Tuple items)) ≡ false → Fits m (value.Tuple items)
tuple_fits m items fit low = inside_tuple m items (inside_items m items fit.references fit.proper (ap (nat_lt 64) (sym (depth_tuple items)) ∙ low))

-- ---- one tuple after another

module _ (made : List Value) (rows : List (List Value)) where
  later : (v : Value) (o : Outcome (Store ℕ) Failure (List Value)) → and_then (and_then o (λ more. pure (v ∷ more))) (λ more. pure (made ++ more)) ≡ and_then o (λ more. pure ((made ++ v ∷ []) ++ more))
  later v (Went more w) = ap (λ vs. Went vs w) (sym (append_assoc made (v ∷ []) more))
  later v (Failed e w) = refl

  pub then_more : (o : Outcome (Store ℕ) Failure Value) → and_then (and_then o (λ v. spec.tuples rows >>= (λ more. pure (v ∷ more)))) (λ more. pure (made ++ more)) ≡ and_then o (λ v. tuples_onto (made ++ v ∷ []) rows)
  unfolding tuples_onto
  then_more (Went v w) = later v (spec.tuples rows w)
  then_more (Failed e w) = refl

  module _ (s : State ℕ) (row : List Value) (left rest : ℕ) where
    pub row_over : (e : Failure) → charged left (weight (value.Tuple row)) ≡ (Err e, rest) → tuples_onto made (row ∷ rows) (record { state = s; left = left }) ≡ Failed e (record { state = s; left = rest })
    unfolding tuples_onto
    row_over e over =
        ap (λ o. and_then o (λ more. pure (made ++ more))) (charge_failed s left (weight (value.Tuple row)) rest e (new_tuple row >>= (λ v. spec.tuples rows >>= (λ more. pure (v ∷ more)))) over)

    row_paid : charged left (weight (value.Tuple row)) ≡ (Ok tt, rest) → tuples_onto made (row ∷ rows) (record { state = s; left = left }) ≡ and_then (new_tuple row (record { state = s; left = rest })) (λ v. tuples_onto (made ++ v ∷ []) rows)
    unfolding tuples_onto
    row_paid done =
        ap (λ o. and_then o (λ more. pure (made ++ more))) (charge_went s left (weight (value.Tuple row)) rest (new_tuple row >>= (λ v. spec.tuples rows >>= (λ more. pure (v ∷ more)))) done)
        ∙ then_more (new_tuple row (record { state = s; left = rest }))

    pub row_deep : (e : Failure) → charged left (weight (value.Tuple row)) ≡ (Ok tt, rest) → new_tuple row (record { state = s; left = rest }) ≡ Failed e (record { state = s; left = rest }) → tuples_onto made (row ∷ rows) (record { state = s; left = left }) ≡ Failed e (record { state = s; left = rest })
    row_deep e done deep = row_paid done ∙ ap (λ o. and_then o (λ v. tuples_onto (made ++ v ∷ []) rows)) deep

    pub row_next : (v : Value) → charged left (weight (value.Tuple row)) ≡ (Ok tt, rest) → new_tuple row (record { state = s; left = rest }) ≡ Went v (record { state = s; left = rest })
        → tuples_onto made (row ∷ rows) (record { state = s; left = left }) ≡ tuples_onto (made ++ v ∷ []) rows (record { state = s; left = rest })
    row_next v done is = row_paid done ∙ ap (λ o. and_then o (λ x. tuples_onto (made ++ x ∷ []) rows)) is

pub rows_end : (made : List Value) (s : Store ℕ) → tuples_onto made [] s ≡ Went made s
unfolding tuples_onto
rows_end made s = ap (λ vs. Went vs s) (append-nil made)

onto_nothing_at : (o : Outcome (Store ℕ) Failure (List Value)) → and_then o (λ more. pure ([] ++ more)) ≡ o
onto_nothing_at (Went more w) = refl
onto_nothing_at (Failed e w) = refl

pub rows_start : (rows : List (List Value)) (s : Store ℕ) → tuples_onto [] rows s ≡ spec.tuples rows s
unfolding tuples_onto
rows_start rows s = onto_nothing_at (spec.tuples rows s)

list_after : (o : Outcome (Store ℕ) Failure (List Value)) (r : Result Value Stop) (t u : Store ℕ) (vs : List Value) → o ≡ Went vs t → Gives (new_list vs t) r u → Gives (and_then o new_list) r u
list_after o r t u vs is h = subst (λ p. Gives p r u) (sym (ap (λ p. and_then p new_list) is)) h

pub tuples_list : (rows : List (List Value)) (s t u : Store ℕ) (vs : List Value) (r : Result Value Stop) → spec.tuples rows s ≡ Went vs t → Gives (new_list vs t) r u → Gives (spec.list_of_tuples rows s) r u
tuples_list rows s t u vs r is h = list_after (spec.tuples rows s) r t u vs is h

pub tuples_end : (rows : List (List Value)) (s t : Store ℕ) (e : Stop) → Gives (spec.tuples rows s) (Err e) t → Gives (spec.list_of_tuples rows s) (Err e) t
tuples_end rows s t (stop.Failure e) h = ap (λ p. and_then p new_list) h
tuples_end rows s t stop.NoMemory h = tt

-- values that fit, with one more
pub push_fits : (m : MachineState) (values : List Value) (v : Value) → AllFit m values → Fits m v → AllFit m (values ++ v ∷ [])
push_fits m values v fit one = record {
  references = all_push (fits m.state.objects) values v fit.references one.references;
  proper = all_push is_proper values v fit.proper one.proper;
}

pub pair_fits : (m : MachineState) (a b : Value) → Fits m a → Fits m b → AllFit m (a ∷ b ∷ [])
pair_fits m a b first second = record {
  references = and_both (fits m.state.objects a) (list_all (fits m.state.objects) (b ∷ [])) first.references (and_both (fits m.state.objects b) true second.references refl);
  proper = and_both (is_proper a) (list_all is_proper (b ∷ [])) first.proper (and_both (is_proper b) true second.proper refl);
}
