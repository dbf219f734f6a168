-- What a value gives when it is iterated may stand in the machine as the value itself may.
use Rattle.std.proofs.Common.{◌≡◌, ℕ, suc, zero, ◌+◌, ◌<◌, Bool, List, [], ◌∷◌, map, length, refl, sym, ap, ◌∙◌, subst, arith, IsTrue, Option, Some, None, slice_get, ℤ, pos}
use Rattle.std.specs.Prelude.{FitsSigned, IsSomeAnd, nat_le, negsuc, not, option_map, ◌&&◌}
use Rattle.std.specs.Int.{w128}
use Rattle.std.proofs.lemmas.Bool.Decides.{nat_tests}
use Rattle.std.specs.List.{list_all, range_with_len}
use Rattle.std.proofs.lemmas.Option.{slice_get-map, slice_get_within}
use Rattle.heap_store.proofs.Tested.{and_left, and_right, and_both}
use Rattle.heap_store.proofs.Kept.{pairs_fit}
use Rattle.star_value.specs.declared.key.Key.{Key}
use Rattle.star_value.specs.declared.range.Range.{Range}
use Rattle.star_value.specs.declared.value.Value.{Value, fold-Value, fold-roll-Value, out-Value, roll-Value, roll-out-Value}
use Rattle.star_value.specs.declared.value.Value.TheOpen.{Value-F}
use Rattle.star_value.specs.declared.value.Value.TheVariants as value
use Rattle.star_value.specs.Keys.{value_of}
use Rattle.star_value.specs.Ranges.{range_count}
use Rattle.star_value.specs.Weight.{depth}
use Rattle.star_value.proofs.RangeItems.{given_fits}
use Rattle.star_meaning.specs.State.{State, list, dict, object}
use Rattle.star_meaning.specs.Validity.{MachineState, IsMachine, fits, is_proper, proper_step, proper_range, all_in, all_in_pair, all_in_object}
use Rattle.star_meaning.specs.Values.{items_in, items_at, integers_of, range_item, key_values, has_128_bits, is_zero}
use Rattle.star_builtins.specs.Reached.{Fits}
use Rattle.star_builtins.proofs.FitLemmas.{list_items, tuple_items, item_fits, item_passes, fits_int}
use Rattle.star_run.specs.Running.{Running}

-- ---- integers of a range

length_from : (a n : ℕ) → length (range_with_len a n) ≡ n
length_from a zero = refl
length_from a (suc n) = ap suc (length_from (a + 1) n)

length_mapped : {A B : Type 0} (f : A → B) (xs : List A) → length (map f xs) ≡ length xs
length_mapped f [] = refl
length_mapped f (x ∷ xs) = ap suc (length_mapped f xs)

range_length : (r : Range) → length (map value.Int (integers_of r)) ≡ range_count r
unfolding integers_of
range_length r = length_mapped value.Int (map (range_item r) (range_with_len 0 (range_count r))) ∙ length_mapped (range_item r) (range_with_len 0 (range_count r)) ∙ length_from 0 (range_count r)

from_get : (a n i : ℕ) → i < n → slice_get (range_with_len a n) i ≡ Some (a + i)
from_get a zero i h = absurd (omega (arith, h))
from_get a (suc n) zero h = let e : a ≡ a + 0 = omega arith in ap Some e
from_get a (suc n) (suc i) h = let e : a + 1 + i ≡ a + suc i = omega arith in from_get (a + 1) n i (omega (arith, h)) ∙ ap Some e

zero_plus : (n : ℕ) → 0 + n ≡ n
zero_plus n = omega arith

range_get : (r : Range) (place : ℕ) → place < range_count r → slice_get (map value.Int (integers_of r)) place ≡ Some (value.Int (range_item r place))
unfolding integers_of
range_get r place h =
    slice_get-map value.Int (map (range_item r) (range_with_len 0 (range_count r))) place
    ∙ ap (option_map value.Int) (slice_get-map (range_item r) (range_with_len 0 (range_count r)) place ∙ ap (option_map (range_item r)) (from_get 0 (range_count r) place h ∙ ap Some (zero_plus place)))

bits_fit : (z : ℤ) → IsTrue (has_128_bits z) → FitsSigned w128 z
bits_fit (pos n) h = grind (arith, nat_tests)
bits_fit (negsuc n) h = grind (arith, nat_tests)

range_bits : (m : MachineState) (r : Range) → Fits m (value.Range r) → IsTrue (proper_range r)
unfolding is_proper
range_bits m r fit =
    rw (← value.rolls-Range r, fold-roll-Value Bool proper_step) at (and_right (nat_le (depth (value.Range r)) 64) (fold-Value Bool proper_step (value.Range r)) fit.proper)

range_item_fits : (m : MachineState) (r : Range) (place : ℕ) → Fits m (value.Range r) → place < range_count r → Fits m (value.Int (range_item r place))
range_item_fits m r place fit within =
    let bits = range_bits m r fit in
    let three = and_left ((has_128_bits r.start && has_128_bits r.stop) && has_128_bits r.step) (not (is_zero r.step)) bits in
    let two = and_left (has_128_bits r.start && has_128_bits r.stop) (has_128_bits r.step) three in
    fits_int m (range_item r place) (given_fits r place (bits_fit r.start (and_left (has_128_bits r.start) (has_128_bits r.stop) two)) (bits_fit r.stop (and_right (has_128_bits r.start) (has_128_bits r.stop) two)) within)

-- ---- keys of a dict

key_passes : (test : Value → Bool) (pairs : List (Key × Value)) → IsTrue (list_all (all_in_pair test) pairs) → IsTrue (list_all test (key_values pairs))
key_passes test [] h = refl
key_passes test (pair ∷ pairs) h =
    and_both (test (value_of pair.0)) (list_all test (key_values pairs)) (and_left (test (value_of pair.0)) (test pair.1) (and_left (all_in_pair test pair) (list_all (all_in_pair test) pairs) h))
    (key_passes test pairs (and_right (all_in_pair test pair) (list_all (all_in_pair test) pairs) h))

-- ---- each kind of value

module _ (m : MachineState) (kept : IsMachine m) (held : IsTrue (all_in is_proper m.state)) (items : List Value) (place : ℕ) (w : Value) (at : slice_get items place ≡ Some w) where
  objects_are : (test : Value → Bool) → IsTrue (all_in test m.state) → IsTrue (list_all (all_in_object test) m.state.objects)
  objects_are test h = and_right (list_all (λ global. test global.1) m.state.globals) (list_all (all_in_object test) m.state.objects) h

  key_here : (id : ℕ) → slice_get (key_values (dict m.state id)) place ≡ Some w → Fits m w
  unfolding dict object
  key_here id is = record {
    references = item_passes (fits m.state.objects) (key_values (dict m.state id)) place w (key_passes (fits m.state.objects) (dict m.state id) (pairs_fit (fits m.state.objects) m.state.objects id (objects_are (fits m.state.objects) kept.references))) is;
    proper = item_passes is_proper (key_values (dict m.state id)) place w (key_passes is_proper (dict m.state id) (pairs_fit is_proper m.state.objects id (objects_are is_proper held))) is;
  }

  integer_here : (r : Range) → Fits m (value.Range r) → slice_get (map value.Int (integers_of r)) place ≡ Some w → Fits m w
  integer_here r fit is =
      let within : place < range_count r = subst (λ n. place < n) (range_length r) (slice_get_within (map value.Int (integers_of r)) place w is) in
      let same : Some (value.Int (range_item r place)) ≡ Some w = sym (range_get r place within) ∙ is in
      let here : value.Int (range_item r place) ≡ w = cc in
      subst (Fits m) here (range_item_fits m r place fit within)

  fits_here : (v : Value) (x : Value-F Value) → Fits m v → v ≡ roll-Value x → items_at m.state x ≡ Some items → Fits m w
  fits_here v (Value-F.Tuple all) fit is has =
      let same : all ≡ items = cc in
      item_fits m all place w (tuple_items m all (subst (Fits m) (is ∙ value.rolls-Tuple all) fit)) (ap (λ vs. slice_get vs place) same ∙ at)
  fits_here v (Value-F.Range r) fit is has =
      let same : map value.Int (integers_of r) ≡ items = cc in
      integer_here r (subst (Fits m) (is ∙ value.rolls-Range r) fit) (ap (λ vs. slice_get vs place) same ∙ at)
  fits_here v (Value-F.List id) fit is has =
      let same : list m.state id ≡ items = cc in
      item_fits m (list m.state id) place w (list_items m id kept held) (ap (λ vs. slice_get vs place) same ∙ at)
  fits_here v (Value-F.Dict id) fit is has =
      let same : key_values (dict m.state id) ≡ items = cc in
      key_here id (ap (λ vs. slice_get vs place) same ∙ at)
  fits_here v x fit is has = absurd (cc)

  pub item_of_fits : (v : Value) → Fits m v → items_in m.state v ≡ Some items → Fits m w
  unfolding items_in
  item_of_fits v fit has = fits_here v (out-Value v) fit (sym (roll-out-Value v)) has

-- an item at a place below the count
item_at : (m : MachineState) (kept : IsMachine m) (held : IsTrue (all_in is_proper m.state)) (v w : Value) (place : ℕ) (o : Option (List Value)) → items_in m.state v ≡ o → IsSomeAnd (option_map length o) (λ count. place < count)
    → ((items : List Value) → items_in m.state v ≡ Some items → slice_get items place ≡ Some w) → Fits m v → Fits m w
item_at m kept held v w place None is within at fit = absurd within
item_at m kept held v w place (Some items) is within at fit = item_of_fits m kept held items place w (at items is) v fit is

-- the same of a run: `b` is the run as its fields are, and `r` its value
pub run_item_fits : (b r : Running) (v w : Value) (place : ℕ) → b ≡ r → IsMachine b.machine → IsTrue (all_in is_proper b.machine.state) → Fits r.machine v → IsSomeAnd (option_map length (items_in r.machine.state v)) (λ count. place < count)
    → ((items : List Value) → items_in b.machine.state v ≡ Some items → slice_get items place ≡ Some w) → Fits r.machine w
run_item_fits b r v w place is kept held fit within at =
    subst (λ (x : Running). Fits x.machine w) is
    (item_at b.machine kept held v w place (items_in b.machine.state v) refl (subst (λ (x : Running). IsSomeAnd (option_map length (items_in x.machine.state v)) (λ count. place < count)) (sym is) within) at
    (subst (λ (x : Running). Fits x.machine v) (sym is) fit))
