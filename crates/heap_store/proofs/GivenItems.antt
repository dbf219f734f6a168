-- How many items a value gives when it is iterated, and which stands at a place.
use Rattle.std.proofs.Common.{◌≡◌, ℕ, zero, suc, ◌+◌, ◌<◌, Bool, List, [], ◌∷◌, map, length, refl, sym, ap, subst, ◌∙◌, arith, IsTrue, Option, Some, None, slice_get}
use Rattle.std.specs.Prelude.{ℤ, option_map, IsSomeAnd}
use Rattle.std.specs.List.{list_all, range_with_len}
use Rattle.std.proofs.lemmas.List.FromFn.{length-map-range_with_len}
use Rattle.std.proofs.lemmas.Option.{slice_get-map}
use Rattle.star_value.specs.Keys.{value_of}
use Rattle.star_value.specs.Ranges.{range_count, range_item}
use Rattle.star_value.specs.declared.key.Key.{Key}
use Rattle.star_value.specs.declared.range.Range.{Range}
use Rattle.star_value.specs.declared.value.Value.{Value, fold-roll-Value, out-Value, roll-Value, roll-out-Value}
use Rattle.star_value.specs.declared.value.Value.TheOpen.{Value-F}
use Rattle.star_value.specs.declared.value.Value.TheVariants as value
use Rattle.star_meaning.proofs.Equations.{out_tuple, out_range, out_list, out_dict}
use Rattle.star_meaning.specs.State.{Object, State, object, list, dict}
use Rattle.star_meaning.specs.Validity.{MachineState, IsMachine, is_list, is_dict, fits, fits_step}
use Rattle.star_meaning.specs.Values.{integers_of, items_at, items_in, key_values}
use Rattle.heap_store.proofs.Kept.{items_fit, objects_fit}
use Rattle.heap_store.proofs.References.{key_fits}
use Rattle.heap_store.proofs.Tested.{and_both, one_passes}

-- ---- what a reference names

pub named_list : (os : List (Object ℕ)) (id : ℕ) → IsTrue (fits os (value.List id)) → IsTrue (is_list (slice_get os id))
unfolding fits
named_list os id fit = rw (← value.rolls-List id, fold-roll-Value Bool (fits_step os)) at fit

pub named_dict : (os : List (Object ℕ)) (id : ℕ) → IsTrue (fits os (value.Dict id)) → IsTrue (is_dict (slice_get os id))
unfolding fits
named_dict os id fit = rw (← value.rolls-Dict id, fold-roll-Value Bool (fits_step os)) at fit

-- ---- how many items

length_map : {A B : Type 0} (f : A → B) (xs : List A) → length (map f xs) ≡ length xs
length_map f [] = refl
length_map f (x ∷ xs) = ap suc (length_map f xs)

length_integers : (r : Range) → length (map value.Int (integers_of r)) ≡ range_count r
unfolding integers_of
length_integers r = length_map value.Int (map (range_item r) (range_with_len 0 (range_count r))) ∙ length-map-range_with_len (range_item r) 0 (range_count r)

module _ (s : State ℕ) where
  abbrev count : Value → Option ℕ
  count v = option_map length (items_in s v)

  pub count_tuple : (items : List Value) → count (value.Tuple items) ≡ Some (length items)
  unfolding items_in
  count_tuple items = ap (λ y. option_map length (items_at s y)) (out_tuple items)

  pub count_range : (r : Range) → count (value.Range r) ≡ Some (range_count r)
  unfolding items_in
  count_range r = ap (λ y. option_map length (items_at s y)) (out_range r) ∙ ap Some (length_integers r)

  pub count_list : (id : ℕ) → count (value.List id) ≡ Some (length (list s id))
  unfolding items_in
  count_list id = ap (λ y. option_map length (items_at s y)) (out_list id)

  pub count_dict : (id : ℕ) → count (value.Dict id) ≡ Some (length (dict s id))
  unfolding items_in
  count_dict id = ap (λ y. option_map length (items_at s y)) (out_dict id) ∙ ap Some (length_map (λ pair. value_of pair.0) (dict s id))

  form : (v : Value) (y : Value-F Value) → out-Value v ≡ y → v ≡ roll-Value y
  form v y is = sym (roll-out-Value v) ∙ ap roll-Value is

  module _ (v : Value) (tuple : (x : List Value) → v ≡ value.Tuple x → ⊥) (range : (x : Range) → v ≡ value.Range x → ⊥) (listed : (x : ℕ) → v ≡ value.List x → ⊥) (keyed : (x : ℕ) → v ≡ value.Dict x → ⊥) where
    uncounted : (y : Value-F Value) → out-Value v ≡ y → option_map length (items_at s y) ≡ None
    uncounted (Value-F.Tuple x) is = absurd (tuple x (form v (Value-F.Tuple x) is ∙ value.rolls-Tuple x))
    uncounted (Value-F.Range x) is = absurd (range x (form v (Value-F.Range x) is ∙ value.rolls-Range x))
    uncounted (Value-F.List x) is = absurd (listed x (form v (Value-F.List x) is ∙ value.rolls-List x))
    uncounted (Value-F.Dict x) is = absurd (keyed x (form v (Value-F.Dict x) is ∙ value.rolls-Dict x))
    uncounted _ is = refl

    -- any other value cannot be iterated
    pub count_other : count v ≡ None
    unfolding items_in
    count_other = uncounted (out-Value v) refl

    pub within_other : (place : ℕ) → IsSomeAnd (count v) (λ n. place < n) → ⊥
    within_other place h = subst (λ o. IsSomeAnd o (λ n. place < n)) count_other h

  below : (v : Value) (o : Option ℕ) (place n : ℕ) → count v ≡ o → o ≡ Some n → IsSomeAnd (count v) (λ m. place < m) → place < n
  below v o place n is there h = subst (λ p. IsSomeAnd p (λ m. place < m)) (is ∙ there) h

  module _ (v : Value) (place : ℕ) (h : IsSomeAnd (count v) (λ n. place < n)) where
    pub within_tuple : (x : List Value) → v ≡ value.Tuple x → place < length x
    within_tuple x is = below v (count (value.Tuple x)) place (length x) (ap count is) (count_tuple x) h

    pub within_range : (x : Range) → v ≡ value.Range x → place < range_count x
    within_range x is = below v (count (value.Range x)) place (range_count x) (ap count is) (count_range x) h

    pub within_list : (x : ℕ) → v ≡ value.List x → place < length (list s x)
    within_list x is = below v (count (value.List x)) place (length (list s x)) (ap count is) (count_list x) h

    pub within_dict : (x : ℕ) → v ≡ value.Dict x → place < length (dict s x)
    within_dict x is = below v (count (value.Dict x)) place (length (dict s x)) (ap count is) (count_dict x) h

pub ruleset counts = (count_tuple, count_range, count_list, count_dict, count_other, named_list, named_dict)

pub ruleset within = (within_tuple, within_range, within_list, within_dict, within_other, named_list, named_dict)

-- ---- the item of a place

integer_at : (f : ℕ → ℤ) (first n place : ℕ) → place < n → slice_get (map value.Int (map f (range_with_len first n))) place ≡ Some (value.Int (f (first + place)))
integer_at f first zero place within = absurd (omega arith)
integer_at f first (suc n) zero within = let e : first + 0 ≡ first = omega arith in rw e refl
integer_at f first (suc n) (suc place) within =
    let e : (first + 1) + place ≡ first + suc place = omega arith in
    integer_at f (first + 1) n place (omega arith) ∙ ap (λ k. Some (value.Int (f k))) e

given_integer : (r : Range) (place : ℕ) → place < range_count r → slice_get (map value.Int (integers_of r)) place ≡ Some (value.Int (range_item r place))
unfolding integers_of
given_integer r place within =
    let e : 0 + place ≡ place = omega arith in
    integer_at (range_item r) 0 (range_count r) place within ∙ ap (λ k. Some (value.Int (range_item r k))) e

-- a list that is another has its items
given : (xs items : List Value) (place : ℕ) (v : Value) → Some xs ≡ Some items → slice_get xs place ≡ Some v → slice_get items place ≡ Some v
given xs items place v same at = let e : xs ≡ items = cc in subst (λ ys. slice_get ys place ≡ Some v) e at

module _ (s : State ℕ) (items : List Value) (place : ℕ) where
  pub gives_tuple : (xs : List Value) (v : Value) → items_in s (value.Tuple xs) ≡ Some items → slice_get xs place ≡ Some v → slice_get items place ≡ Some v
  unfolding items_in
  gives_tuple xs v is at = given xs items place v (sym (ap (items_at s) (out_tuple xs)) ∙ is) at

  pub gives_range : (r : Range) (v : Value) → items_in s (value.Range r) ≡ Some items → v ≡ value.Int (range_item r place) → place < range_count r → slice_get items place ≡ Some v
  unfolding items_in
  gives_range r v is made within =
      given (map value.Int (integers_of r)) items place v (sym (ap (items_at s) (out_range r)) ∙ is) (given_integer r place within ∙ ap Some (sym made))

  pub gives_list : (id : ℕ) (v : Value) → items_in s (value.List id) ≡ Some items → slice_get (list s id) place ≡ Some v → slice_get items place ≡ Some v
  unfolding items_in
  gives_list id v is at = given (list s id) items place v (sym (ap (items_at s) (out_list id)) ∙ is) at

  pub gives_dict : (id : ℕ) (v : Value) → items_in s (value.Dict id) ≡ Some items → slice_get (key_values (dict s id)) place ≡ Some v → slice_get items place ≡ Some v
  unfolding items_in
  gives_dict id v is at = given (key_values (dict s id)) items place v (sym (ap (items_at s) (out_dict id)) ∙ is) at

pub key_here : (pairs : List (Key × Value)) (place : ℕ) (key : Key) (w v : Value) → slice_get pairs place ≡ Some (key, w) → v ≡ value_of key → slice_get (key_values pairs) place ≡ Some v
key_here pairs place key w v at is = slice_get-map (λ pair. value_of pair.0) pairs place ∙ ap (option_map (λ pair. value_of pair.0)) at ∙ ap Some (sym is)

-- ---- the item refers to what is there

pub fits_int : (os : List (Object ℕ)) (z : ℤ) → IsTrue (fits os (value.Int z))
unfolding fits
fits_int os z = rw (← value.rolls-Int z, fold-roll-Value Bool (fits_step os)) refl

items_fit_tuple : (os : List (Object ℕ)) (xs : List Value) → IsTrue (fits os (value.Tuple xs)) → IsTrue (list_all (λ b. b) (map (fits os) xs))
unfolding fits
items_fit_tuple os xs fit = rw (← value.rolls-Tuple xs, fold-roll-Value Bool (fits_step os)) at fit

pub fits_in_tuple : (os : List (Object ℕ)) (xs : List Value) (place : ℕ) (v : Value) → IsTrue (fits os (value.Tuple xs)) → slice_get xs place ≡ Some v → IsTrue (fits os v)
fits_in_tuple os xs place v fit at =
    one_passes (λ b. b) (map (fits os) xs) place (fits os v) (items_fit_tuple os xs fit) (slice_get-map (fits os) xs place ∙ ap (option_map (fits os)) at)

pub fits_in_list : (m : MachineState) (id place : ℕ) (v : Value) → IsMachine m → slice_get (list m.state id) place ≡ Some v → IsTrue (fits m.state.objects v)
unfolding list object
fits_in_list m id place v kept at = one_passes (fits m.state.objects) (list m.state id) place v (items_fit (fits m.state.objects) m.state.objects id (objects_fit m kept)) at

keys_fit : (os : List (Object ℕ)) (pairs : List (Key × Value)) → IsTrue (list_all (fits os) (key_values pairs))
keys_fit os [] = refl
keys_fit os (pair ∷ pairs) = and_both (fits os (value_of pair.0)) (list_all (fits os) (key_values pairs)) (key_fits os pair.0) (keys_fit os pairs)

pub fits_in_dict : (os : List (Object ℕ)) (pairs : List (Key × Value)) (place : ℕ) (v : Value) → slice_get (key_values pairs) place ≡ Some v → IsTrue (fits os v)
fits_in_dict os pairs place v at = one_passes (fits os) (key_values pairs) place v (keys_fit os pairs) at

pub ruleset items = (gives_tuple, gives_list, gives_dict, fits_in_tuple, fits_in_list, fits_in_dict, fits_int)
