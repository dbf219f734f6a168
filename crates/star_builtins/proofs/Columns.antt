-- The rows of some columns, place by place.
use Rattle.std.proofs.Common.{◌≡◌, ℕ, suc, zero, ◌+◌, ◌<◌, ◌≤◌, Bool, true, false, List, [], ◌∷◌, ◌++◌, map, length, drop, get_or, refl, sym, ap, ◌∙◌, subst, arith, IsTrue, Option, Some, None, slice_get, append_assoc, append-nil}
use Rattle.std.specs.Prelude.{Result, Ok, Err, ◌&&◌, min, nat_lt, is_some}
use Rattle.std.specs.List.{list_all, filter_map}
use Rattle.std.proofs.lemmas.Bool.Decides.{nat_tests}
use Rattle.std.proofs.lemmas.List.{drop_all}
use Rattle.heap_store.proofs.Tested.{and_left, and_right, and_both}
use Rattle.star_value.specs.declared.failure.Failure.{Failure}
use Rattle.star_value.specs.declared.failure.Failure.TheVariants as failure
use Rattle.star_value.specs.declared.stop.Stop.{Stop}
use Rattle.star_value.specs.declared.value.Value.{Value}
use Rattle.star_value.specs.declared.value.Value.TheVariants as value
use Rattle.star_value.specs.Charge.{charged}
use Rattle.star_value.specs.Weight.{weight, sum_of_weights}
use Rattle.star_meaning.proofs.Equations.{weight_tuple}
use Rattle.star_meaning.specs.Builtins as spec
use Rattle.star_meaning.specs.State.{State}
use Rattle.star_meaning.specs.Steps.{Outcome, Went, Failed, Action, Store, Gives, pure, fail, given_or, and_then, ◌>>=◌, ◌>>◌}
use Rattle.star_meaning.specs.Validity.{MachineState, IsMachine, fits, is_proper, all_in}
use Rattle.star_meaning.specs.Values.{items_in, new_list}
use Rattle.star_builtins.specs.Reached.{Fits, AllFit}
use Rattle.star_builtins.specs.Rows.{HasRow, row_at}
use Rattle.star_builtins.specs.Walks.{given, weight_at}
use Rattle.star_builtins.proofs.ChargeLemmas.{charged_more, charged_stop, weights_cons}
use Rattle.star_builtins.proofs.RowLemmas.{of_items, no_items, same_gives}
use Rattle.star_builtins.proofs.TupleLemmas.{tuples_list, tuples_end}
use Rattle.star_builtins.proofs.WalkLemmas.{at_some, drop_at, given_item_fits, given_some, some_at}

-- ---- the row of a place

each_get : (column : List Value) (rows : List (List Value)) (place : ℕ) (x : Value) (row : List Value) → slice_get column place ≡ Some x → slice_get rows place ≡ Some row → slice_get (spec.each_before column rows) place ≡ Some (x ∷ row)
each_get [] rows place x row is there = absurd (cc)
each_get (y ∷ ys) [] place x row is there = absurd (cc)
each_get (y ∷ ys) (r ∷ rs) zero x row is there =
    let same : y ≡ x = cc in
    let other : r ≡ row = cc in
    ap (λ w. Some (w ∷ r)) same ∙ ap (λ w. Some (x ∷ w)) other
each_get (y ∷ ys) (r ∷ rs) (suc place) x row is there = each_get ys rs place x row is there

each_length : (column : List Value) (rows : List (List Value)) → length (spec.each_before column rows) ≡ min (length column) (length rows)
each_length [] rows = sym (zero_min (length rows))
  where
    zero_min : (n : ℕ) → min 0 n ≡ 0
    zero_min n = omega arith
each_length (y ∷ ys) [] = sym (min_zero (length (y ∷ ys)))
  where
    min_zero : (n : ℕ) → min n 0 ≡ 0
    min_zero n = omega arith
each_length (y ∷ ys) (r ∷ rs) = ap suc (each_length ys rs) ∙ suc_min (length ys) (length rs)
  where
    suc_min : (a b : ℕ) → suc (min a b) ≡ min (suc a) (suc b)
    suc_min a b = omega arith

one_length : (column : List Value) → length (map (λ x. x ∷ []) column) ≡ length column
one_length [] = refl
one_length (x ∷ xs) = ap suc (one_length xs)

one_get : (column : List Value) (place : ℕ) (x : Value) → slice_get column place ≡ Some x → slice_get (map (λ y. y ∷ []) column) place ≡ Some (x ∷ [])
one_get [] place x is = absurd (cc)
one_get (y ∷ ys) zero x is = let same : y ≡ x = cc in ap (λ w. Some (w ∷ [])) same
one_get (y ∷ ys) (suc place) x is = one_get ys place x is

module _ (s : State ℕ) where
  abbrev rows : List Value → List (List Value)
  rows columns = spec.rows_of (map (given s) columns)

  first_has : (place : ℕ) (column : Value) (columns : List Value) → HasRow s place (column ∷ columns) → place < length (given s column)
  first_has place column columns h =
      let test = and_left (nat_lt place (length (given s column))) (list_all (λ c. nat_lt place (length (given s c))) columns) h in
      let below : place < length (given s column) = grind (arith, nat_tests) in
      below

  rest_has : (place : ℕ) (column : Value) (columns : List Value) → HasRow s place (column ∷ columns) → HasRow s place columns
  rest_has place column columns h = and_right (nat_lt place (length (given s column))) (list_all (λ c. nat_lt place (length (given s c))) columns) h

  has_both : (place : ℕ) (column : Value) (columns : List Value) → place < length (given s column) → HasRow s place columns → HasRow s place (column ∷ columns)
  has_both place column columns below h =
      let test : IsTrue (nat_lt place (length (given s column))) = grind (arith, nat_tests) in
      and_both (nat_lt place (length (given s column))) (list_all (λ c. nat_lt place (length (given s c))) columns) test h

  row_cons : (place : ℕ) (column : Value) (columns : List Value) (x : Value) → slice_get (given s column) place ≡ Some x → row_at s place (column ∷ columns) ≡ x ∷ row_at s place columns
  row_cons place column columns x is = rw is refl

  pub has_row : (place : ℕ) (columns : List Value) → place < length (rows columns) → HasRow s place columns
  has_row place [] h = refl
  has_row place (column ∷ []) h = has_both place column [] (subst (λ n. place < n) (one_length (given s column)) h) refl
  has_row place (column ∷ next ∷ more) h =
      let least : place < min (length (given s column)) (length (rows (next ∷ more))) = subst (λ n. place < n) (each_length (given s column) (rows (next ∷ more))) h in
      has_both place column (next ∷ more) (omega arith) (has_row place (next ∷ more) (omega arith))

  pub row_get : (place : ℕ) (columns : List Value) → place < length (rows columns) → slice_get (rows columns) place ≡ Some (row_at s place columns)
  row_get place [] h = absurd (omega (arith, h))
  row_get place (column ∷ []) h =
      let here = some_at (given s column) place (subst (λ n. place < n) (one_length (given s column)) h) in
      one_get (given s column) place here.0 here.1 ∙ ap Some (sym (row_cons place column [] here.0 here.1))
  row_get place (column ∷ next ∷ more) h =
      let least : place < min (length (given s column)) (length (rows (next ∷ more))) = subst (λ n. place < n) (each_length (given s column) (rows (next ∷ more))) h in
      let here = some_at (given s column) place (omega arith) in
      each_get (given s column) (rows (next ∷ more)) place here.0 (row_at s place (next ∷ more)) here.1 (row_get place (next ∷ more) (omega arith))
      ∙ ap Some (sym (row_cons place column (next ∷ more) here.0 here.1))

  -- ---- how many rows

  -- the least of a number and the lengths of columns
  abbrev pub least_from : ℕ → List Value → ℕ
  least_from n [] = n
  least_from n (column ∷ columns) = least_from (min n (length (given s column))) columns

  least_of_both : (a b : ℕ) (columns : List Value) → least_from (min a b) columns ≡ min a (least_from b columns)
  least_of_both a b [] = refl
  least_of_both a b (column ∷ columns) = ap (λ n. least_from n columns) (assoc a b (length (given s column))) ∙ least_of_both a (min b (length (given s column))) columns
    where
      assoc : (x y z : ℕ) → min (min x y) z ≡ min x (min y z)
      assoc x y z = omega arith

  pub rows_length : (column : Value) (columns : List Value) → length (rows (column ∷ columns)) ≡ least_from (length (given s column)) columns
  rows_length column [] = one_length (given s column)
  rows_length column (next ∷ more) =
      each_length (given s column) (rows (next ∷ more)) ∙ ap (min (length (given s column))) (rows_length next more) ∙ sym (least_of_both (length (given s column)) (length (given s next)) more)

  -- ---- all columns can be iterated

  -- whether a column can be iterated
  abbrev pub has_items : Value → Bool
  has_items column = is_some (items_in s column)

  some_items : (column : Value) (o : Option (List Value)) → items_in s column ≡ o → IsTrue (is_some o) → items_in s column ≡ Some (given s column)
  some_items column None is h = absurd (cc)
  some_items column (Some items) is h = is ∙ ap Some (sym (given_some s column items is))

  module _ (left : ℕ) where
    abbrev here : Store ℕ
    here = record { state = s; left = left }

    pub all_given : (columns : List Value) → IsTrue (list_all has_items columns) → spec.all_items columns here ≡ Went (map (given s) columns) here
    all_given [] h = refl
    all_given (column ∷ columns) h =
        of_items column (given s column) (λ items. spec.all_items columns >>= (λ more. pure (items ∷ more))) here
        (some_items column (items_in s column) refl (and_left (has_items column) (list_all has_items columns) h))
        ∙ ap (λ o. and_then o (λ more. pure (given s column ∷ more))) (all_given columns (and_right (has_items column) (list_all has_items columns) h))

    not_all : (column : Value) (columns : List Value) (o : Option (List Value)) → items_in s column ≡ o → (is_some o && list_all has_items columns) ≡ false
        → (list_all has_items columns ≡ false → spec.all_items columns here ≡ Failed failure.WrongType here) → spec.all_items (column ∷ columns) here ≡ Failed failure.WrongType here
    not_all column columns None is h more = no_items column (λ items. spec.all_items columns >>= (λ rest. pure (items ∷ rest))) here is
    not_all column columns (Some items) is h more =
        of_items column items (λ xs. spec.all_items columns >>= (λ rest. pure (xs ∷ rest))) here is ∙ ap (λ o. and_then o (λ rest. pure (items ∷ rest))) (more h)

    pub not_given : (columns : List Value) → list_all has_items columns ≡ false → spec.all_items columns here ≡ Failed failure.WrongType here
    not_given [] h = absurd (cc)
    not_given (column ∷ columns) h = not_all column columns (items_in s column) refl h (λ later. not_given columns later)

-- ---- the charge of a row, and its items

module _ (s : State ℕ) (place : ℕ) (columns : List Value) (i : ℕ) (column : Value) (at : slice_get columns i ≡ Some column) (has : HasRow s place columns) where
  has_at : (cs : List Value) (j : ℕ) → HasRow s place cs → slice_get cs j ≡ Some column → place < length (given s column)
  has_at [] j h is = absurd (cc)
  has_at (c ∷ cs) zero h is = let same : c ≡ column = cc in subst (λ d. place < length (given s d)) same (first_has s place c cs h)
  has_at (c ∷ cs) (suc j) h is = has_at cs j (rest_has s place c cs h) is

  pub column_has : place < length (given s column)
  column_has = has_at columns i has at

  row_more : (x : Value) → slice_get (given s column) place ≡ Some x → row_at s place (drop i columns) ≡ x ∷ row_at s place (drop (i + 1) columns)
  row_more x is = ap (row_at s place) (drop_at columns i column at) ∙ row_cons s place column (drop (i + 1) columns) x is

  pub row_pushed : (done : List Value) (x : Value) → slice_get (given s column) place ≡ Some x → done ++ row_at s place (drop i columns) ≡ row_at s place columns
      → (done ++ x ∷ []) ++ row_at s place (drop (i + 1) columns) ≡ row_at s place columns
  row_pushed done x is before = append_assoc done (x ∷ []) (row_at s place (drop (i + 1) columns)) ∙ ap (λ ys. done ++ ys) (sym (row_more x is)) ∙ before

  module _ (left rest : ℕ) (total : Result (Unit {0}) Failure × ℕ) (before : charged left (sum_of_weights (row_at s place (drop i columns))) ≡ total) where
    weights_here : sum_of_weights (row_at s place (drop i columns)) ≡ weight_at (given s column) place + sum_of_weights (row_at s place (drop (i + 1) columns))
    weights_here =
        let x = some_at (given s column) place column_has in
        ap sum_of_weights (row_more x.0 x.1) ∙ weights_cons x.0 (row_at s place (drop (i + 1) columns)) ∙ ap (λ n. n + sum_of_weights (row_at s place (drop (i + 1) columns))) (sym (at_some (given s column) place x.0 x.1))

    pub row_charged : (done : Unit {0}) → charged left (weight_at (given s column) place) ≡ (Ok done, rest) → charged rest (sum_of_weights (row_at s place (drop (i + 1) columns))) ≡ total
    row_charged done paid = sym (charged_more left (weight_at (given s column) place) (sum_of_weights (row_at s place (drop (i + 1) columns))) rest done paid) ∙ ap (charged left) (sym weights_here) ∙ before

    pub row_over : (e : Failure) → charged left (weight_at (given s column) place) ≡ (Err e, rest) → total ≡ (Err e, rest)
    row_over e over = sym before ∙ ap (charged left) weights_here ∙ charged_stop left (weight_at (given s column) place) (sum_of_weights (row_at s place (drop (i + 1) columns))) rest e over

-- the row's own 1 comes first
pub row_weight : (row : List Value) → weight (value.Tuple row) ≡ 1 + sum_of_weights row
row_weight row = let e = weight_tuple row in omega (arith, e)

pub row_fits : (m : MachineState) (kept : IsMachine m) (held : IsTrue (all_in is_proper m.state)) (place : ℕ) (columns : List Value) → AllFit m columns → HasRow m.state place columns → AllFit m (row_at m.state place columns)
row_fits m kept held place [] fit has = record { references = refl; proper = refl }
row_fits m kept held place (column ∷ columns) fit has =
    let x = some_at (given m.state column) place (first_has m.state place column columns has) in
    let one : Fits m column = record { references = and_left (fits m.state.objects column) (list_all (fits m.state.objects) columns) fit.references; proper = and_left (is_proper column) (list_all is_proper columns) fit.proper } in
    let rest : AllFit m columns = record { references = and_right (fits m.state.objects column) (list_all (fits m.state.objects) columns) fit.references; proper = and_right (is_proper column) (list_all is_proper columns) fit.proper } in
    let here = given_item_fits m kept held place x.0 column one x.1 in
    let more = row_fits m kept held place columns rest (rest_has m.state place column columns has) in
    let whole : AllFit m (x.0 ∷ row_at m.state place columns) = record {
      references = and_both (fits m.state.objects x.0) (list_all (fits m.state.objects) (row_at m.state place columns)) here.references more.references;
      proper = and_both (is_proper x.0) (list_all is_proper (row_at m.state place columns)) here.proper more.proper;
    } in
    subst (AllFit m) (sym (row_cons m.state place column columns x.0 x.1)) whole

-- ---- the list of the rows

module _ (s : State ℕ) (left : ℕ) (columns : List Value) where
  pub zip_failed : list_all (has_items s) columns ≡ false → spec.zip columns (record { state = s; left = left }) ≡ Failed failure.WrongType (record { state = s; left = left })
  unfolding spec.zip
  zip_failed none = ap (λ o. and_then o (λ cs. spec.list_of_tuples (spec.rows_of cs))) (not_given s left columns none)

  module _ (iterable : IsTrue (list_all (has_items s) columns)) where
    zip_list : spec.zip columns (record { state = s; left = left }) ≡ spec.list_of_tuples (spec.rows_of (map (given s) columns)) (record { state = s; left = left })
    unfolding spec.zip
    zip_list = ap (λ o. and_then o (λ cs. spec.list_of_tuples (spec.rows_of cs))) (all_given s left columns iterable)

    pub zip_ends : (e : Stop) (t : Store ℕ) → Gives (spec.tuples (spec.rows_of (map (given s) columns)) (record { state = s; left = left })) (Err e) t → Gives (spec.zip columns (record { state = s; left = left })) (Err e) t
    zip_ends e t h = same_gives _ _ (Err e) t zip_list (tuples_end (spec.rows_of (map (given s) columns)) (record { state = s; left = left }) t e h)

    pub zip_gives : (made : List Value) (t u : Store ℕ) (r : Result Value Stop) → spec.tuples (spec.rows_of (map (given s) columns)) (record { state = s; left = left }) ≡ Went made t → Gives (new_list made t) r u
        → Gives (spec.zip columns (record { state = s; left = left })) r u
    zip_gives made t u r went h = same_gives _ _ r u zip_list (tuples_list (spec.rows_of (map (given s) columns)) (record { state = s; left = left }) t u made r went h)

-- ---- what the code over columns finds

pub got_at : {A : Type 0} (xs : List A) (i : ℕ) (x : A) → i < length xs → x ≡ get_or xs i x → slice_get xs i ≡ Some x
got_at [] i x within is = absurd (omega (arith, within))
got_at (y ∷ ys) zero x within is = ap Some (sym is)
got_at (y ∷ ys) (suc i) x within is = got_at ys i x (omega (arith, within)) is

pub rows_counted : (s : State ℕ) (columns : List Value) (first : Value) (n least i : ℕ) → slice_get columns 0 ≡ Some first → length (given s first) ≡ n → length columns ≤ i → list_all (has_items s) (drop i columns) ≡ list_all (has_items s) columns
    → least_from s least (drop i columns) ≡ least_from s n columns → IsTrue (list_all (has_items s) columns) × (length (spec.rows_of (map (given s) columns)) ≡ least)
rows_counted s [] first n least i at is past iterable found = absurd (cc)
rows_counted s (column ∷ more) first n least i at is past iterable found =
    let same : column ≡ first = cc in
    let here : length (given s column) ≡ n = ap (λ c. length (given s c)) same ∙ is in
    let none = drop_all i (column ∷ more) past in
    let least_is : least ≡ least_from s (min n (length (given s column))) more = sym (ap (least_from s least) none) ∙ found in
    let twice : min n (length (given s column)) ≡ length (given s column) = omega arith in
    (sym iterable ∙ ap (list_all (has_items s)) none, rows_length s column more ∙ ap (λ k. least_from s k more) (sym twice) ∙ sym least_is)
