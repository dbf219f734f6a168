-- Lists of tuples, row by row.
use Rattle.std.proofs.Common.{◌≡◌, ℕ, suc, zero, ◌+◌, ◌-◌, ◌<◌, ◌≤◌, ◌^◌, Bool, true, false, List, [], ◌∷◌, ◌++◌, map, length, drop, refl, sym, ap, ◌∙◌, subst, arith, IsTrue, Option, Some, None, slice_get, ℤ, pos, negsuc, ◌+ℤ◌}
use Rattle.std.specs.Prelude.{Result, Ok, Err, FitsSigned, SomeIff, is_some, option_map, if◌then◌else◌}
use Rattle.std.specs.Int.{w128, saturate_signed}
use Rattle.std.proofs.lemmas.Bool.Decides.{nat_tests}
use Rattle.std.proofs.lemmas.Int.{ints}
use Rattle.std.proofs.lemmas.List.{drop_all}
use Rattle.std.proofs.Math.Facts.{to_z-of_z}
use mir.Val.{of_z, to_z}
use Rattle.star_value.specs.declared.failure.Failure.{Failure}
use Rattle.star_value.specs.declared.failure.Failure.TheVariants as failure
use Rattle.star_value.specs.declared.stop.Stop.{Stop}
use Rattle.star_value.specs.declared.stop.Stop.TheVariants as stop
use Rattle.star_value.specs.declared.value.Value.{Value}
use Rattle.star_value.specs.declared.value.Value.TheVariants as value
use Rattle.star_value.specs.Charge.{charged}
use Rattle.star_value.specs.Weight.{weight, sum_of_weights}
use Rattle.star_meaning.proofs.Equations.{weight_int, weight_tuple}
use Rattle.star_meaning.specs.Builtins as spec
use Rattle.star_meaning.specs.State.{State}
use Rattle.star_meaning.specs.Steps.{Outcome, Went, Failed, Action, Store, Gives, pure, fail, given_or, and_then, charge, ◌>>=◌, ◌>>◌}
use Rattle.star_meaning.specs.Values.{has_128_bits, in_range, int_in, items_in, new_list, new_tuple}
use Rattle.star_builtins.specs.Reached.{Answers}
use Rattle.star_builtins.specs.Rows.{charged_tuple, has_last, start_in, tuples_onto}
use Rattle.star_builtins.specs.Walks.{GivesItem, weight_at}
use Rattle.star_builtins.proofs.ChargeLemmas.{charged_more, charged_stop, weights_cons}
use Rattle.star_builtins.proofs.RowLemmas.{charge_went, charge_failed, of_items, no_items, same_gives, as_int_went, as_int_failed}
use Rattle.star_builtins.proofs.TupleLemmas.{rows_end, rows_start, then_more, tuples_list, tuples_end}
use Rattle.star_builtins.proofs.WalkLemmas.{at_some, drop_at, some_at}

-- ---- one row after another

module _ (made : List Value) (rows : List (List Value)) (row : List Value) where
  -- a row's charge and its tuple are one step
  charged_then : (o : Outcome (Store ℕ) Failure (Unit {0})) (f : Action ℕ Value) (g : Value → Action ℕ (List Value)) → and_then o (λ _. f >>= g) ≡ and_then (and_then o (λ _. f)) g
  charged_then (Went done w) f g = refl
  charged_then (Failed e w) f g = refl

  row_here : (s : Store ℕ) → tuples_onto made (row ∷ rows) s ≡ and_then (charged_tuple row s) (λ v. tuples_onto (made ++ v ∷ []) rows)
  unfolding tuples_onto
  row_here s =
      ap (λ o. and_then o (λ more. pure (made ++ more))) (charged_then (charge (weight (value.Tuple row)) s) (new_tuple row) (λ v. spec.tuples rows >>= (λ more. pure (v ∷ more))))
      ∙ then_more made rows (charged_tuple row s)

module _ (rows : List (List Value)) (place : ℕ) (row : List Value) (is : slice_get rows place ≡ Some row) (made : List Value) (s t : Store ℕ) (total : Outcome (Store ℕ) Failure (List Value))
    (before : tuples_onto made (drop place rows) s ≡ total) where
  here : total ≡ and_then (charged_tuple row s) (λ v. tuples_onto (made ++ v ∷ []) (drop (place + 1) rows))
  here = sym before ∙ ap (λ rs. tuples_onto made rs s) (drop_at rows place row is) ∙ row_here made (drop (place + 1) rows) row s

  pub row_more : (v : Value) → charged_tuple row s ≡ Went v t → tuples_onto (made ++ v ∷ []) (drop (place + 1) rows) t ≡ total
  row_more v went = sym (here ∙ ap (λ o. and_then o (λ w. tuples_onto (made ++ w ∷ []) (drop (place + 1) rows))) went)

  pub row_stops : (e : Stop) → Gives (charged_tuple row s) (Err e) t → Gives total (Err e) t
  row_stops (stop.Failure e) failed = here ∙ ap (λ o. and_then o (λ w. tuples_onto (made ++ w ∷ []) (drop (place + 1) rows))) failed
  row_stops stop.NoMemory failed = tt

pub rows_done : (rows : List (List Value)) (place : ℕ) (made : List Value) (s : Store ℕ) (total : Outcome (Store ℕ) Failure (List Value)) → length rows ≤ place → tuples_onto made (drop place rows) s ≡ total → total ≡ Went made s
rows_done rows place made s total past before = sym before ∙ ap (λ rs. tuples_onto made rs s) (drop_all place rows past) ∙ rows_end made s

-- ---- a row's charge, and then its tuple

module _ (row : List Value) (s : State ℕ) (left rest : ℕ) where
  pub tuple_over : (e : Failure) → charged left (weight (value.Tuple row)) ≡ (Err e, rest) → charged_tuple row (record { state = s; left = left }) ≡ Failed e (record { state = s; left = rest })
  tuple_over e over = charge_failed s left (weight (value.Tuple row)) rest e (new_tuple row) over

  pub tuple_paid : charged left (weight (value.Tuple row)) ≡ (Ok tt, rest) → charged_tuple row (record { state = s; left = left }) ≡ new_tuple row (record { state = s; left = rest })
  tuple_paid done = charge_went s left (weight (value.Tuple row)) rest (new_tuple row) done

  pub tuple_went : (v : Value) → charged left (weight (value.Tuple row)) ≡ (Ok tt, rest) → new_tuple row (record { state = s; left = rest }) ≡ Went v (record { state = s; left = rest })
      → charged_tuple row (record { state = s; left = left }) ≡ Went v (record { state = s; left = rest })
  tuple_went v done made = tuple_paid done ∙ made

  pub tuple_deep : (e : Failure) → charged left (weight (value.Tuple row)) ≡ (Ok tt, rest) → new_tuple row (record { state = s; left = rest }) ≡ Failed e (record { state = s; left = rest })
      → charged_tuple row (record { state = s; left = left }) ≡ Failed e (record { state = s; left = rest })
  tuple_deep e done deep = tuple_paid done ∙ deep

-- ---- a number and an item

pub numbered_length : (z : ℤ) (items : List Value) → length (spec.numbered z items) ≡ length items
numbered_length z [] = refl
numbered_length z (x ∷ xs) = ap suc (numbered_length (z +ℤ pos 1) xs)

next_number : (z : ℤ) (place : ℕ) → (z +ℤ pos 1) +ℤ pos place ≡ z +ℤ pos (suc place)
next_number z place = omega (arith, ints)

no_more : (z : ℤ) → z ≡ z +ℤ pos 0
no_more z = omega (arith, ints)

pub numbered_at : (z : ℤ) (items : List Value) (place : ℕ) (x : Value) → slice_get items place ≡ Some x → slice_get (spec.numbered z items) place ≡ Some (value.Int (z +ℤ pos place) ∷ x ∷ [])
numbered_at z [] place x is = absurd (cc)
numbered_at z (y ∷ ys) zero x is = let same : y ≡ x = cc in ap (λ w. Some (value.Int z ∷ w ∷ [])) same ∙ ap (λ n. Some (value.Int n ∷ x ∷ [])) (no_more z)
numbered_at z (y ∷ ys) (suc place) x is = numbered_at (z +ℤ pos 1) ys place x is ∙ ap (λ n. Some (value.Int n ∷ x ∷ [])) (next_number z place)

no_weights : sum_of_weights [] ≡ 0
no_weights = refl

two_and : (whole sum one item rest none : ℕ) → whole ≡ sum + 1 → sum ≡ one + rest → rest ≡ item + none → none ≡ 0 → one ≡ 1 → whole ≡ 2 + item
two_and whole sum one item rest none a b c d e = omega arith

pub pair_weight : (z : ℤ) (x : Value) → weight (value.Tuple (value.Int z ∷ x ∷ [])) ≡ 2 + weight x
pair_weight z x =
    two_and _ _ _ _ _ _ (weight_tuple (value.Int z ∷ x ∷ [])) (weights_cons (value.Int z) (x ∷ [])) (weights_cons x []) no_weights (weight_int z)

module _ (z : ℤ) (x : Value) (left mid rest : ℕ) (paid : charged left 2 ≡ (Ok tt, mid)) where
  both : charged left (weight (value.Tuple (value.Int z ∷ x ∷ []))) ≡ charged mid (weight x)
  both = ap (charged left) (pair_weight z x) ∙ charged_more left 2 (weight x) mid tt paid

  pub pair_paid : charged mid (weight x) ≡ (Ok tt, rest) → charged left (weight (value.Tuple (value.Int z ∷ x ∷ []))) ≡ (Ok tt, rest)
  pair_paid done = both ∙ done

  pub pair_over : (e : Failure) → charged mid (weight x) ≡ (Err e, rest) → charged left (weight (value.Tuple (value.Int z ∷ x ∷ []))) ≡ (Err e, rest)
  pair_over e over = both ∙ over

pub number_over : (z : ℤ) (x : Value) (left rest : ℕ) (e : Failure) → charged left 2 ≡ (Err e, rest) → charged left (weight (value.Tuple (value.Int z ∷ x ∷ []))) ≡ (Err e, rest)
number_over z x left rest e over = ap (charged left) (pair_weight z x) ∙ charged_stop left 2 (weight x) rest e over

-- the item of a place is not there, or its charge passes what is left
pub item_ends : (z : ℤ) (s : State ℕ) (items : List Value) (place : ℕ) (x : Value) (left mid rest : ℕ) (e : Stop) → slice_get items place ≡ Some x → charged left 2 ≡ (Ok tt, mid) → GivesItem items place mid (Err e) rest
    → Gives (charged_tuple (value.Int z ∷ x ∷ []) (record { state = s; left = left })) (Err e) (record { state = s; left = rest })
item_ends z s items place x left mid rest (stop.Failure e) is paid over =
    tuple_over (value.Int z ∷ x ∷ []) s left rest e (pair_over z x left mid rest paid e (ap (charged mid) (sym (at_some items place x is)) ∙ over))
item_ends z s items place x left mid rest stop.NoMemory is paid over = tt

-- ---- the last number

bits_fit : (z : ℤ) → IsTrue (has_128_bits z) → FitsSigned w128 z
bits_fit (pos n) h = grind (arith, nat_tests)
bits_fit (negsuc n) h = grind (arith, nat_tests)

between : (z : ℤ) (place n : ℕ) → FitsSigned w128 z → FitsSigned w128 (z +ℤ pos n) → place ≤ n → FitsSigned w128 (z +ℤ pos place)
between z place n low high h = omega (arith, ints)

saturated : (z : ℤ) → FitsSigned w128 z → saturate_signed w128 z ≡ z
saturated (pos n) h = grind arith
saturated (negsuc n) h = grind arith

-- the numbers before the last one have 128 bits too
pub number_fits : (z : ℤ) (count place : ℕ) → FitsSigned w128 z → IsTrue (has_last z count) → place < count → FitsSigned w128 (z +ℤ pos place)
unfolding has_last
number_fits z zero place low last h = absurd (omega (arith, h))
number_fits z (suc n) place low last h = between z place n low (bits_fit (z +ℤ pos n) last) (omega (arith, h))

pub number_is : (z : ℤ) (count place : ℕ) → FitsSigned w128 z → IsTrue (has_last z count) → place < count → saturate_signed w128 (z +ℤ pos place) ≡ z +ℤ pos place
number_is z count place low last h = saturated (z +ℤ pos place) (number_fits z count place low last h)

module _ {A : Type 0} (z : ℤ) (p : Action ℕ A) (s : Store ℕ) where
  last_went : (items : List Value) → has_last z (length items) ≡ true → (spec.last_number z items >> p) s ≡ p s
  unfolding has_last in_range
  last_went [] h = refl
  last_went (x ∷ xs) h = ap (λ b. ((given_or failure.IntegerTooLarge (if b then Some (z +ℤ pos (length xs)) else None) >> pure tt) >> p) s) h

  last_failed : (items : List Value) → has_last z (length items) ≡ false → (spec.last_number z items >> p) s ≡ Failed failure.IntegerTooLarge s
  unfolding has_last in_range
  last_failed [] h = absurd (cc)
  last_failed (x ∷ xs) h = ap (λ b. ((given_or failure.IntegerTooLarge (if b then Some (z +ℤ pos (length xs)) else None) >> pure tt) >> p) s) h

module _ {A : Type 0} (f : ℤ → Action ℕ A) (s : Store ℕ) where
  start_went : (start : Option Value) (z : ℤ) → start_in start ≡ Some z → (spec.as_int_or (pos 0) start >>= f) s ≡ f z s
  start_went None z is = let same : pos 0 ≡ z = cc in ap (λ n. f n s) same
  start_went (Some v) z is = as_int_went v z f s is

  start_failed : (start : Option Value) → start_in start ≡ None → (spec.as_int_or (pos 0) start >>= f) s ≡ Failed failure.WrongType s
  start_failed None is = absurd (cc)
  start_failed (Some v) is = as_int_failed v f s is

-- ---- the numbered items of a value

module _ (v : Value) (start : Option Value) (s : Store ℕ) where
  abbrev numbered_list : List Value → ℤ → Action ℕ Value
  numbered_list items z = spec.last_number z items >> spec.list_of_tuples (spec.numbered z items)

  pub enumerate_nothing : items_in s.state v ≡ None → spec.enumerate v start s ≡ Failed failure.WrongType s
  enumerate_nothing is = no_items v (λ items. spec.as_int_or (pos 0) start >>= numbered_list items) s is

  module _ (items : List Value) (is : items_in s.state v ≡ Some items) where
    enumerate_as : spec.enumerate v start s ≡ (spec.as_int_or (pos 0) start >>= numbered_list items) s
    enumerate_as = of_items v items (λ xs. spec.as_int_or (pos 0) start >>= numbered_list xs) s is

    pub enumerate_no_start : start_in start ≡ None → spec.enumerate v start s ≡ Failed failure.WrongType s
    enumerate_no_start none = enumerate_as ∙ start_failed (numbered_list items) s start none

    module _ (z : ℤ) (from : start_in start ≡ Some z) where
      pub enumerate_large : has_last z (length items) ≡ false → spec.enumerate v start s ≡ Failed failure.IntegerTooLarge s
      enumerate_large large = enumerate_as ∙ start_went (numbered_list items) s start z from ∙ last_failed z (spec.list_of_tuples (spec.numbered z items)) s items large

      enumerate_list : has_last z (length items) ≡ true → spec.enumerate v start s ≡ spec.list_of_tuples (spec.numbered z items) s
      enumerate_list small = enumerate_as ∙ start_went (numbered_list items) s start z from ∙ last_went z (spec.list_of_tuples (spec.numbered z items)) s items small

      pub enumerate_ends : (e : Stop) (t : Store ℕ) → has_last z (length items) ≡ true → Gives (spec.tuples (spec.numbered z items) s) (Err e) t → Gives (spec.enumerate v start s) (Err e) t
      enumerate_ends e t small h = same_gives _ _ (Err e) t (enumerate_list small) (tuples_end (spec.numbered z items) s t e h)

      pub enumerate_gives : (made : List Value) (t u : Store ℕ) (r : Result Value Stop) → has_last z (length items) ≡ true → spec.tuples (spec.numbered z items) s ≡ Went made t → Gives (new_list made t) r u
          → Gives (spec.enumerate v start s) r u
      enumerate_gives made t u r small went h = same_gives _ _ r u (enumerate_list small) (tuples_list (spec.numbered z items) s t u made r went h)

-- ---- what the code over rows finds

pub rows_empty : (made : List Value) (rows : List (List Value)) (s : Store ℕ) → made ≡ [] → tuples_onto made rows s ≡ spec.tuples rows s
rows_empty made rows s is = ap (λ vs. tuples_onto vs rows s) is ∙ rows_start rows s

pub numbered_row : (z : ℤ) (items : List Value) (place count : ℕ) (n : ℤ) (x : Value) → FitsSigned w128 z → IsTrue (has_last z count) → place < count → n ≡ saturate_signed w128 (to_z w128 (of_z w128 z) +ℤ pos place) → slice_get items place ≡ Some x
    → slice_get (spec.numbered z items) place ≡ Some (value.Int n ∷ x ∷ [])
numbered_row z items place count n x low last below is at = numbered_at z items place x at ∙ ap (λ m. Some (value.Int m ∷ x ∷ [])) (sym (is ∙ ap (λ k. saturate_signed w128 (k +ℤ pos place)) (to_z-of_z low) ∙ number_is z count place low last below))

module _ (z : ℤ) (s : State ℕ) (items : List Value) (place : ℕ) (x y : Value) (left mid rest : ℕ) (at : slice_get items place ≡ Some x) (paid : charged left 2 ≡ (Ok tt, mid)) (got : GivesItem items place mid (Ok y) rest)
    (row : List Value) (is : row ≡ value.Int z ∷ y ∷ []) where
  same_item : y ≡ x
  same_item = let both : Some y ≡ Some x = sym got.0 ∙ at in cc

  same_row : row ≡ value.Int z ∷ x ∷ []
  same_row = is ∙ ap (λ v. value.Int z ∷ v ∷ []) same_item

  whole : charged left (weight (value.Tuple (value.Int z ∷ x ∷ []))) ≡ (Ok tt, rest)
  whole = pair_paid z x left mid rest paid (ap (λ v. charged mid (weight v)) (sym same_item) ∙ got.1)

  pub numbered_deep : (e : Failure) → new_tuple row (record { state = s; left = rest }) ≡ Failed e (record { state = s; left = rest })
      → charged_tuple (value.Int z ∷ x ∷ []) (record { state = s; left = left }) ≡ Failed e (record { state = s; left = rest })
  numbered_deep e deep = tuple_deep (value.Int z ∷ x ∷ []) s left rest e whole (ap (λ r. new_tuple r (record { state = s; left = rest })) (sym same_row) ∙ deep)

  pub numbered_went : (v : Value) → new_tuple row (record { state = s; left = rest }) ≡ Went v (record { state = s; left = rest })
      → charged_tuple (value.Int z ∷ x ∷ []) (record { state = s; left = left }) ≡ Went v (record { state = s; left = rest })
  numbered_went v made = tuple_went (value.Int z ∷ x ∷ []) s left rest v whole (ap (λ r. new_tuple r (record { state = s; left = rest })) (sym same_row) ∙ made)

pub none_last : (z : ℤ) (count : ℕ) → count ≡ 0 → true ≡ has_last z count
unfolding has_last
none_last z zero is = refl
none_last z (suc n) is = absurd (omega (arith, is))

bits_of : (z : ℤ) → FitsSigned w128 z → true ≡ has_128_bits z
bits_of (pos n) h = grind (arith, nat_tests)
bits_of (negsuc n) h = grind (arith, nat_tests)

no_bits : (z : ℤ) (b : Bool) → has_128_bits z ≡ b → (FitsSigned w128 z → ⊥) → false ≡ b
no_bits z true is h = absurd (h (bits_fit z is))
no_bits z false is h = refl

last_of : (z : ℤ) (count : ℕ) (found : Option ℤ) → (count ≡ 0 → ⊥) → SomeIff found (FitsSigned w128 (z +ℤ pos (count - 1))) (z +ℤ pos (count - 1)) → is_some found ≡ has_last z count
unfolding has_last
last_of z zero found some h = absurd (some refl)
last_of z (suc n) None some h = let e : suc n - 1 ≡ n = omega arith in no_bits (z +ℤ pos n) (has_128_bits (z +ℤ pos n)) refl (λ fit. h (subst (λ k. FitsSigned w128 (z +ℤ pos k)) (sym e) fit))
last_of z (suc n) (Some x) some h = let e : suc n - 1 ≡ n = omega arith in bits_of (z +ℤ pos n) (subst (λ k. FitsSigned w128 (z +ℤ pos k)) e h.0)

pub some_last : (z : ℤ) (count : ℕ) (found : Option ℤ) → FitsSigned w128 z → (count ≡ 0 → ⊥) → SomeIff found (FitsSigned w128 (to_z w128 (of_z w128 z) +ℤ pos (count - 1))) (to_z w128 (of_z w128 z) +ℤ pos (count - 1)) → is_some found ≡ has_last z count
some_last z count found fit some h = last_of z count found some (subst (λ k. SomeIff found (FitsSigned w128 (k +ℤ pos (count - 1))) (k +ℤ pos (count - 1))) (to_z-of_z fit) h)
