-- What a value gives when it is iterated.
use Rattle.std.proofs.Common.{◌≡◌, ℕ, suc, zero, ◌+◌, ◌<◌, ◌≤◌, Bool, List, [], ◌∷◌, ◌++◌, map, length, drop, refl, sym, ap, ◌∙◌, subst, arith, IsTrue, Option, Some, None, slice_get, append_assoc, append-nil, ℤ, pos, ◌+ℤ◌, ◌*ℤ◌}
use Rattle.std.specs.Prelude.{Result, Ok, Err, unwrap_or, option_map, IsSomeAnd, FitsSigned, nat_le, not, ◌&&◌, negsuc}
use Rattle.std.specs.Int.{w128}
use Rattle.std.proofs.lemmas.Bool.Decides.{nat_tests}
use Rattle.std.specs.List.{list_all, range_with_len}
use Rattle.std.proofs.lemmas.Option.{slice_get-map, slice_get_within, get_or_from_slice_get}
use Rattle.std.proofs.lemmas.List.{drop_all, drop_more}
use Rattle.heap_store.proofs.Tested.{and_left, and_right, and_both}
use Rattle.heap_store.proofs.Kept.{pairs_fit}
use Rattle.star_value.specs.declared.builtin.Builtin.{Builtin}
use Rattle.star_value.specs.declared.failure.Failure.{Failure}
use Rattle.star_value.specs.declared.failure.Failure.TheVariants as failure
use Rattle.star_value.specs.declared.key.Key.{Key}
use Rattle.star_value.specs.declared.range.Range.{Range}
use Rattle.star_value.specs.declared.value.Value.{Value, fold-Value, fold-roll-Value, out-Value, roll-Value, roll-out-Value}
use Rattle.star_value.specs.declared.value.Value.TheOpen.{Value-F}
use Rattle.star_value.specs.declared.value.Value.TheVariants as value
use Rattle.star_value.specs.Charge.{charged}
use Rattle.star_value.specs.Keys.{value_of}
use Rattle.star_value.specs.Ranges.{range_count}
use Rattle.star_value.specs.Weight.{weight, depth, sum_of_weights}
use Rattle.star_meaning.proofs.Equations.{out_none, out_bool, out_int, out_text, out_tuple, out_range, out_list, out_dict, out_function, out_builtin, weight_int}
use Rattle.star_meaning.specs.State.{State, list, dict, object}
use Rattle.star_meaning.specs.Validity.{MachineState, IsMachine, fits, is_proper, proper_step, proper_range, all_in, all_in_pair, all_in_object}
use Rattle.star_meaning.specs.Values.{items_in, items_at, integers_of, range_item, key_values, has_128_bits, is_zero}
use Rattle.star_builtins.specs.Reached.{Fits, AllFit}
use Rattle.star_builtins.specs.Walks.{given, weight_at, weight_of}
use Rattle.star_builtins.proofs.Charged.{charged_none}
use Rattle.star_builtins.proofs.ChargeLemmas.{charged_more, charged_stop, weights_cons}
use Rattle.star_builtins.proofs.FitLemmas.{list_items, tuple_items, item_fits, item_passes, fits_int, is_list_of, is_dict_of}
use Rattle.star_value.proofs.RangeItems.{given_fits}

-- ---- what each kind of value gives

module _ (s : State ℕ) where
  pub in_tuple : (items : List Value) → items_in s (value.Tuple items) ≡ Some items
  unfolding items_in
  in_tuple items = ap (items_at s) (out_tuple items)

  pub in_range : (r : Range) → items_in s (value.Range r) ≡ Some (map value.Int (integers_of r))
  unfolding items_in
  in_range r = ap (items_at s) (out_range r)

  pub in_list : (id : ℕ) → items_in s (value.List id) ≡ Some (list s id)
  unfolding items_in
  in_list id = ap (items_at s) (out_list id)

  pub in_dict : (id : ℕ) → items_in s (value.Dict id) ≡ Some (key_values (dict s id))
  unfolding items_in
  in_dict id = ap (items_at s) (out_dict id)

  pub in_none : items_in s value.None ≡ None
  unfolding items_in
  in_none = ap (items_at s) out_none

  pub in_bool : (b : Bool) → items_in s (value.Bool b) ≡ None
  unfolding items_in
  in_bool b = ap (items_at s) (out_bool b)

  pub in_int : (z : ℤ) → items_in s (value.Int z) ≡ None
  unfolding items_in
  in_int z = ap (items_at s) (out_int z)

  pub in_text : (points : List ℕ) → items_in s (value.Text points) ≡ None
  unfolding items_in
  in_text points = ap (items_at s) (out_text points)

  pub in_function : (id : ℕ) → items_in s (value.Function id) ≡ None
  unfolding items_in
  in_function id = ap (items_at s) (out_function id)

  pub in_builtin : (which : Builtin) → items_in s (value.Builtin which) ≡ None
  unfolding items_in
  in_builtin which = ap (items_at s) (out_builtin which)

  pub given_some : (v : Value) (items : List Value) → items_in s v ≡ Some items → given s v ≡ items
  unfolding given
  given_some v items is = ap (λ o. unwrap_or o []) is

  pub given_nothing : (v : Value) → items_in s v ≡ None → given s v ≡ []
  unfolding given
  given_nothing v is = ap (λ o. unwrap_or o []) is

  pub given_tuple : (items : List Value) → given s (value.Tuple items) ≡ items
  given_tuple items = given_some (value.Tuple items) items (in_tuple items)

  pub given_range : (r : Range) → given s (value.Range r) ≡ map value.Int (integers_of r)
  given_range r = given_some (value.Range r) (map value.Int (integers_of r)) (in_range r)

  pub given_list : (id : ℕ) → given s (value.List id) ≡ list s id
  given_list id = given_some (value.List id) (list s id) (in_list id)

  pub given_dict : (id : ℕ) → given s (value.Dict id) ≡ key_values (dict s id)
  given_dict id = given_some (value.Dict id) (key_values (dict s id)) (in_dict id)

-- ---- how many

length_from : (a n : ℕ) → length (range_with_len a n) ≡ n
length_from a zero = refl
length_from a (suc n) = ap suc (length_from (a + 1) n)

length_mapped : {A B : Type 0} (f : A → B) (xs : List A) → length (map f xs) ≡ length xs
length_mapped f [] = refl
length_mapped f (x ∷ xs) = ap suc (length_mapped f xs)

pub range_length : (r : Range) → length (map value.Int (integers_of r)) ≡ range_count r
unfolding integers_of
range_length r = length_mapped value.Int (map (range_item r) (range_with_len 0 (range_count r))) ∙ length_mapped (range_item r) (range_with_len 0 (range_count r)) ∙ length_from 0 (range_count r)

pub keys_length : (pairs : List (Key × Value)) → length (key_values pairs) ≡ length pairs
keys_length pairs = length_mapped (λ pair. value_of pair.0) pairs

has_items : (s : State ℕ) (v : Value) (items : List Value) → items_in s v ≡ Some items → items_in s v ≡ Some (given s v)
has_items s v items is = is ∙ ap Some (sym (given_some s v items is))

counted_as : (s : State ℕ) (v : Value) (n : ℕ) (o : Option (List Value)) → items_in s v ≡ o → option_map length o ≡ Some n → (items_in s v ≡ Some (given s v)) × (length (given s v) ≡ n)
counted_as s v n None is h = absurd (cc)
counted_as s v n (Some items) is h = let same : length items ≡ n = cc in (has_items s v items is, ap length (given_some s v items is) ∙ same)

pub counted_some : (s : State ℕ) (v : Value) (n : ℕ) → option_map length (items_in s v) ≡ Some n → items_in s v ≡ Some (given s v)
counted_some s v n h = (counted_as s v n (items_in s v) refl h).0

pub counted_length : (s : State ℕ) (v : Value) (n : ℕ) → option_map length (items_in s v) ≡ Some n → length (given s v) ≡ n
counted_length s v n h = (counted_as s v n (items_in s v) refl h).1

nothing_counted : (o : Option (List Value)) → option_map length o ≡ None → o ≡ None
nothing_counted None h = refl
nothing_counted (Some items) h = absurd (cc)

pub counted_nothing : (s : State ℕ) (v : Value) → option_map length (items_in s v) ≡ None → items_in s v ≡ None
counted_nothing s v h = nothing_counted (items_in s v) h

within_at : (s : State ℕ) (v : Value) (place : ℕ) (o : Option (List Value)) → items_in s v ≡ o → place < length (given s v) → IsSomeAnd (option_map length o) (λ count. place < count)
within_at s v place None is h = absurd (omega (arith, subst (λ vs. place < length vs) (given_nothing s v is) h))
within_at s v place (Some items) is h = subst (λ n. place < n) (ap length (given_some s v items is)) h

pub within_some : (s : State ℕ) (v : Value) (place : ℕ) → place < length (given s v) → IsSomeAnd (option_map length (items_in s v)) (λ count. place < count)
within_some s v place h = within_at s v place (items_in s v) refl h

has_at : (s : State ℕ) (v : Value) (place : ℕ) (o : Option (List Value)) → items_in s v ≡ o → place < length (given s v) → items_in s v ≡ Some (given s v)
has_at s v place None is h = absurd (omega (arith, subst (λ vs. place < length vs) (given_nothing s v is) h))
has_at s v place (Some items) is h = has_items s v items is

pub has_given : (s : State ℕ) (v : Value) (place : ℕ) → place < length (given s v) → items_in s v ≡ Some (given s v)
has_given s v place h = has_at s v place (items_in s v) refl h

pub ruleset counted = (counted_some, counted_length, counted_nothing)

-- ---- the item at a place

from_get : (a n i : ℕ) → i < n → slice_get (range_with_len a n) i ≡ Some (a + i)
from_get a zero i h = absurd (omega (arith, h))
from_get a (suc n) zero h = let e : a ≡ a + 0 = omega arith in ap Some e
from_get a (suc n) (suc i) h = let e : a + 1 + i ≡ a + suc i = omega arith in from_get (a + 1) n i (omega (arith, h)) ∙ ap Some e

zero_plus : (n : ℕ) → 0 + n ≡ n
zero_plus n = omega arith

pub range_get : (r : Range) (place : ℕ) → place < range_count r → slice_get (map value.Int (integers_of r)) place ≡ Some (value.Int (range_item r place))
unfolding integers_of
range_get r place h =
    slice_get-map value.Int (map (range_item r) (range_with_len 0 (range_count r))) place
    ∙ ap (option_map value.Int) (slice_get-map (range_item r) (range_with_len 0 (range_count r)) place ∙ ap (option_map (range_item r)) (from_get 0 (range_count r) place h ∙ ap Some (zero_plus place)))

pub keys_get : (pairs : List (Key × Value)) (place : ℕ) (k : Key) (v : Value) → slice_get pairs place ≡ Some (k, v) → slice_get (key_values pairs) place ≡ Some (value_of k)
keys_get pairs place k v is = slice_get-map (λ pair. value_of pair.0) pairs place ∙ ap (option_map (λ pair. value_of pair.0)) is

pub at_some : (items : List Value) (place : ℕ) (v : Value) → slice_get items place ≡ Some v → weight_at items place ≡ weight v
unfolding weight_at
at_some items place v is = ap weight_of is

at_nothing : (place : ℕ) → weight_at [] place ≡ 0
unfolding weight_at
at_nothing place = refl

module _ (s : State ℕ) (place : ℕ) where
  pub weight_tuple_at : (items : List Value) (v : Value) → slice_get items place ≡ Some v → weight_at (given s (value.Tuple items)) place ≡ weight v
  weight_tuple_at items v is = ap (λ vs. weight_at vs place) (given_tuple s items) ∙ at_some items place v is

  pub weight_list_at : (id : ℕ) (items : List Value) (v : Value) → items ≡ list s id → slice_get items place ≡ Some v → weight_at (given s (value.List id)) place ≡ weight v
  weight_list_at id items v same is = ap (λ vs. weight_at vs place) (given_list s id ∙ sym same) ∙ at_some items place v is

  pub weight_dict_at : (id : ℕ) (v : Value) → slice_get (key_values (dict s id)) place ≡ Some v → weight_at (given s (value.Dict id)) place ≡ weight v
  weight_dict_at id v is = ap (λ vs. weight_at vs place) (given_dict s id) ∙ at_some (key_values (dict s id)) place v is

  pub weight_range_at : (r : Range) → place < length (given s (value.Range r)) → weight_at (given s (value.Range r)) place ≡ 1
  weight_range_at r h =
      let within : place < range_count r = subst (λ n. place < n) (ap length (given_range s r) ∙ range_length r) h in
      ap (λ vs. weight_at vs place) (given_range s r) ∙ at_some (map value.Int (integers_of r)) place (value.Int (range_item r place)) (range_get r place within) ∙ weight_int (range_item r place)

  unweighed : (v : Value) (left : ℕ) → items_in s v ≡ None → charged left (weight_at (given s v) place) ≡ (Ok tt, left)
  unweighed v left is = ap (λ vs. charged left (weight_at vs place)) (given_nothing s v is) ∙ ap (charged left) (at_nothing place) ∙ charged_none left

  pub unweighed_none : (left : ℕ) → charged left (weight_at (given s value.None) place) ≡ (Ok tt, left)
  unweighed_none left = unweighed value.None left (in_none s)

  pub unweighed_bool : (left : ℕ) (b : Bool) → charged left (weight_at (given s (value.Bool b)) place) ≡ (Ok tt, left)
  unweighed_bool left b = unweighed (value.Bool b) left (in_bool s b)

  pub unweighed_int : (left : ℕ) (z : ℤ) → charged left (weight_at (given s (value.Int z)) place) ≡ (Ok tt, left)
  unweighed_int left z = unweighed (value.Int z) left (in_int s z)

  pub unweighed_text : (left : ℕ) (points : List ℕ) → charged left (weight_at (given s (value.Text points)) place) ≡ (Ok tt, left)
  unweighed_text left points = unweighed (value.Text points) left (in_text s points)

  pub unweighed_function : (left id : ℕ) → charged left (weight_at (given s (value.Function id)) place) ≡ (Ok tt, left)
  unweighed_function left id = unweighed (value.Function id) left (in_function s id)

  pub unweighed_builtin : (left : ℕ) (which : Builtin) → charged left (weight_at (given s (value.Builtin which)) place) ≡ (Ok tt, left)
  unweighed_builtin left which = unweighed (value.Builtin which) left (in_builtin s which)

  -- a place of what each kind gives
  pub place_tuple : (items : List Value) → place < length (given s (value.Tuple items)) → place < length items
  place_tuple items h = subst (λ n. place < n) (ap length (given_tuple s items)) h

  pub place_list : (id : ℕ) (items : List Value) → items ≡ list s id → place < length (given s (value.List id)) → place < length items
  place_list id items same h = subst (λ n. place < n) (ap length (given_list s id ∙ sym same)) h

  pub place_dict : (id : ℕ) → place < length (given s (value.Dict id)) → place < length (dict s id)
  place_dict id h = subst (λ n. place < n) (ap length (given_dict s id) ∙ keys_length (dict s id)) h

  pub place_range : (r : Range) → place < length (given s (value.Range r)) → place < range_count r
  place_range r h = subst (λ n. place < n) (ap length (given_range s r) ∙ range_length r) h

pub ruleset weights = (weight_tuple_at, weight_list_at, weight_dict_at, weight_range_at, unweighed_none, unweighed_bool, unweighed_int, unweighed_text, unweighed_function, unweighed_builtin, place_tuple, place_list, place_dict, place_range, is_list_of, is_dict_of)

-- ---- what is given fits

key_passes : (test : Value → Bool) (pairs : List (Key × Value)) → IsTrue (list_all (all_in_pair test) pairs) → IsTrue (list_all test (key_values pairs))
key_passes test [] h = refl
key_passes test (pair ∷ pairs) h =
    and_both (test (value_of pair.0)) (list_all test (key_values pairs)) (and_left (test (value_of pair.0)) (test pair.1) (and_left (all_in_pair test pair) (list_all (all_in_pair test) pairs) h))
    (key_passes test pairs (and_right (all_in_pair test pair) (list_all (all_in_pair test) pairs) h))

bits_fit : (z : ℤ) → IsTrue (has_128_bits z) → FitsSigned w128 z
bits_fit (pos n) h = grind (arith, nat_tests)
bits_fit (negsuc n) h = grind (arith, nat_tests)

range_bits : (m : MachineState) (r : Range) → Fits m (value.Range r) → IsTrue (proper_range r)
unfolding is_proper
range_bits m r fit =
    rw (← value.rolls-Range r, fold-roll-Value Bool proper_step) at (and_right (nat_le (depth (value.Range r)) 64) (fold-Value Bool proper_step (value.Range r)) fit.proper)

range_item_fits : (m : MachineState) (r : Range) (place : ℕ) → Fits m (value.Range r) → place < range_count r → Fits m (value.Int (range_item r place))
range_item_fits m r place fit within =
    let bits = range_bits m r fit in
    let three = and_left ((has_128_bits r.start && has_128_bits r.stop) && has_128_bits r.step) (not (is_zero r.step)) bits in
    let two = and_left (has_128_bits r.start && has_128_bits r.stop) (has_128_bits r.step) three in
    fits_int m (range_item r place) (given_fits r place (bits_fit r.start (and_left (has_128_bits r.start) (has_128_bits r.stop) two)) (bits_fit r.stop (and_right (has_128_bits r.start) (has_128_bits r.stop) two)) within)

rolled : (v : Value) (x : Value-F Value) → out-Value v ≡ x → v ≡ roll-Value x
rolled v x is = sym (roll-out-Value v) ∙ ap roll-Value is

module _ (m : MachineState) (kept : IsMachine m) (held : IsTrue (all_in is_proper m.state)) (place : ℕ) (w : Value) where
  objects_are : (test : Value → Bool) → IsTrue (all_in test m.state) → IsTrue (list_all (all_in_object test) m.state.objects)
  objects_are test h = and_right (list_all (λ global. test global.1) m.state.globals) (list_all (all_in_object test) m.state.objects) h

  key_here : (id : ℕ) → slice_get (key_values (dict m.state id)) place ≡ Some w → Fits m w
  unfolding dict object
  key_here id is = record {
    references = item_passes (fits m.state.objects) (key_values (dict m.state id)) place w (key_passes (fits m.state.objects) (dict m.state id) (pairs_fit (fits m.state.objects) m.state.objects id (objects_are (fits m.state.objects) kept.references))) is;
    proper = item_passes is_proper (key_values (dict m.state id)) place w (key_passes is_proper (dict m.state id) (pairs_fit is_proper m.state.objects id (objects_are is_proper held))) is;
  }

  integer_here : (r : Range) → Fits m (value.Range r) → slice_get (map value.Int (integers_of r)) place ≡ Some w → Fits m w
  integer_here r fit is =
      let within : place < range_count r = subst (λ n. place < n) (range_length r) (slice_get_within (map value.Int (integers_of r)) place w is) in
      let same : Some (value.Int (range_item r place)) ≡ Some w = sym (range_get r place within) ∙ is in
      let here : value.Int (range_item r place) ≡ w = cc in
      subst (Fits m) here (range_item_fits m r place fit within)

  fits_here : (v : Value) (x : Value-F Value) → Fits m v → v ≡ roll-Value x → items_at m.state x ≡ Some (given m.state v) → slice_get (given m.state v) place ≡ Some w → Fits m w
  fits_here v (Value-F.Tuple items) fit is has at =
      let same : items ≡ given m.state v = cc in
      item_fits m items place w (tuple_items m items (subst (Fits m) (is ∙ value.rolls-Tuple items) fit)) (ap (λ vs. slice_get vs place) same ∙ at)
  fits_here v (Value-F.Range r) fit is has at =
      let same : map value.Int (integers_of r) ≡ given m.state v = cc in
      integer_here r (subst (Fits m) (is ∙ value.rolls-Range r) fit) (ap (λ vs. slice_get vs place) same ∙ at)
  fits_here v (Value-F.List id) fit is has at =
      let same : list m.state id ≡ given m.state v = cc in
      item_fits m (list m.state id) place w (list_items m id kept held) (ap (λ vs. slice_get vs place) same ∙ at)
  fits_here v (Value-F.Dict id) fit is has at =
      let same : key_values (dict m.state id) ≡ given m.state v = cc in
      key_here id (ap (λ vs. slice_get vs place) same ∙ at)
  fits_here v x fit is has at = absurd (cc)

  is_some : (v : Value) (o : Option (List Value)) → items_in m.state v ≡ o → slice_get (given m.state v) place ≡ Some w → items_in m.state v ≡ Some (given m.state v)
  is_some v None is at = absurd (let none : slice_get [] place ≡ Some w = ap (λ vs. slice_get vs place) (sym (given_nothing m.state v is)) ∙ at in cc)
  is_some v (Some items) is at = has_items m.state v items is

  pub given_item_fits : (v : Value) → Fits m v → slice_get (given m.state v) place ≡ Some w → Fits m w
  unfolding items_in
  given_item_fits v fit at = fits_here v (out-Value v) fit (rolled v (out-Value v) refl) (is_some v (items_in m.state v) refl at) at

-- ---- walks

pub drop_at : {A : Type 0} (xs : List A) (i : ℕ) (x : A) → slice_get xs i ≡ Some x → drop i xs ≡ x ∷ drop (i + 1) xs
drop_at xs i x is = drop_more xs i x (slice_get_within xs i x is) ∙ ap (λ y. y ∷ drop (i + 1) xs) (get_or_from_slice_get xs i x x is)

pub pushed : {A : Type 0} (done all : List A) (place : ℕ) (x : A) → slice_get all place ≡ Some x → done ++ drop place all ≡ all → (done ++ x ∷ []) ++ drop (place + 1) all ≡ all
pushed done all place x is before = append_assoc done (x ∷ []) (drop (place + 1) all) ∙ ap (λ ys. done ++ ys) (sym (drop_at all place x is)) ∙ before

pub pushed_all : {A : Type 0} (done all : List A) (place : ℕ) → length all ≤ place → done ++ drop place all ≡ all → done ≡ all
pushed_all done all place past before = sym (append-nil done) ∙ ap (λ ys. done ++ ys) (sym (drop_all place all past)) ∙ before

weights_at : (items : List Value) (place : ℕ) → place < length items → sum_of_weights (drop place items) ≡ weight_at items place + sum_of_weights (drop (place + 1) items)
unfolding weight_at
weights_at [] place h = absurd (omega (arith, h))
weights_at (x ∷ xs) zero h = weights_cons x xs
weights_at (x ∷ xs) (suc place) h =
    let e : suc place + 1 ≡ suc (place + 1) = omega arith in
    weights_at xs place (omega (arith, h)) ∙ ap (λ n. weight_of (slice_get xs place) + sum_of_weights (drop n (x ∷ xs))) (sym e)

module _ (items : List Value) (place left rest : ℕ) (total : Result (Unit {0}) Failure × ℕ) where
  pub walk_more : (done : Unit {0}) → charged left (weight_at items place) ≡ (Ok done, rest) → place < length items → charged left (sum_of_weights (drop place items)) ≡ total
      → charged rest (sum_of_weights (drop (place + 1) items)) ≡ total
  walk_more done paid within before = sym (charged_more left (weight_at items place) (sum_of_weights (drop (place + 1) items)) rest done paid) ∙ ap (charged left) (sym (weights_at items place within)) ∙ before

  pub walk_stop : (e : Failure) → charged left (weight_at items place) ≡ (Err e, rest) → place < length items → charged left (sum_of_weights (drop place items)) ≡ total → total ≡ (Err e, rest)
  walk_stop e paid within before = sym before ∙ ap (charged left) (weights_at items place within) ∙ charged_stop left (weight_at items place) (sum_of_weights (drop (place + 1) items)) rest e paid

pub walk_end : (items : List Value) (place left : ℕ) (total : Result (Unit {0}) Failure × ℕ) → length items ≤ place → charged left (sum_of_weights (drop place items)) ≡ total → total ≡ (Ok tt, left)
walk_end items place left total past before = sym before ∙ ap (λ vs. charged left (sum_of_weights vs)) (drop_all place items past) ∙ charged_none left

pub ruleset walked = (pushed, pushed_all, walk_more, walk_stop, walk_end)

all_from : (test : Value → Bool) (xs : List Value) → ((i : ℕ) (x : Value) → slice_get xs i ≡ Some x → IsTrue (test x)) → IsTrue (list_all test xs)
all_from test [] h = refl
all_from test (x ∷ xs) h = and_both (test x) (list_all test xs) (h 0 x refl) (all_from test xs (λ i y is. h (suc i) y is))

-- all items that a value gives fit
pub given_fit : (m : MachineState) (v : Value) → IsMachine m → IsTrue (all_in is_proper m.state) → Fits m v → AllFit m (given m.state v)
given_fit m v kept held fit = record {
  references = all_from (fits m.state.objects) (given m.state v) (λ i x is. (given_item_fits m kept held i x v fit is).references);
  proper = all_from is_proper (given m.state v) (λ i x is. (given_item_fits m kept held i x v fit is).proper);
}

pub some_at : {A : Type 0} (xs : List A) (i : ℕ) → i < length xs → (x : A) × (slice_get xs i ≡ Some x)
some_at [] i h = absurd (omega (arith, h))
some_at (x ∷ xs) zero h = (x, refl)
some_at (x ∷ xs) (suc i) h = some_at xs i (omega (arith, h))
