-- What a slice takes fits as what it is taken from does.
use Rattle.std.proofs.Common.{◌≡◌, Bool, List, [], ◌∷◌, Option, Some, None, refl, IsTrue, ℤ, pos, negsuc}
use Rattle.std.specs.Prelude.{length}
use Rattle.std.specs.List.{cons_option, filter_map, list_all}
use Rattle.heap_store.proofs.Tested.{and_both}
use Rattle.star_value.specs.declared.value.Value.{Value}
use Rattle.star_value.specs.declared.value.Value.TheVariants as value
use Rattle.star_meaning.specs.Operators.{at_int, places_taken, taken}
use Rattle.star_meaning.specs.Values.{integers_of}
use Rattle.star_meaning.specs.Validity.{MachineState, fits, is_proper}
use Rattle.star_builtins.specs.Reached.{Fits, AllFit}
use Rattle.star_builtins.proofs.FitLemmas.{inside, inside_tuple, item_passes, tuple_inside}

module _ (test : Value → Bool) (xs : List Value) (h : IsTrue (list_all test xs)) where
  at_passes : (z : ℤ) (v : Value) → at_int xs z ≡ Some v → IsTrue (test v)
  at_passes (pos n) v is = item_passes test xs n v h is
  at_passes (negsuc n) v is = absurd (cc)

  one_passes : (zs : List ℤ) (o : Option Value) → ((v : Value) → o ≡ Some v → IsTrue (test v)) → IsTrue (list_all test (filter_map (at_int xs) zs)) → IsTrue (list_all test (cons_option o (filter_map (at_int xs) zs)))
  one_passes zs (Some v) here rest = and_both (test v) (list_all test (filter_map (at_int xs) zs)) (here v refl) rest
  one_passes zs None here rest = rest

  found_pass : (zs : List ℤ) → IsTrue (list_all test (filter_map (at_int xs) zs))
  found_pass [] = refl
  found_pass (z ∷ zs) = one_passes zs (at_int xs z) (at_passes z) (found_pass zs)

  pub taken_passes : (start stop : Option ℤ) (step : ℤ) → IsTrue (list_all test (taken xs start stop step))
  unfolding taken
  taken_passes start stop step = found_pass (integers_of (places_taken (pos (length xs)) start stop step))

pub taken_fits : (m : MachineState) (xs : List Value) (start stop : Option ℤ) (step : ℤ) → Fits m (value.Tuple xs) → Fits m (value.Tuple (taken xs start stop step))
taken_fits m xs start stop step fit = inside_tuple m (taken xs start stop step) (taken_passes (inside m.state.objects) xs (tuple_inside m xs fit) start stop step)

pub taken_all : (m : MachineState) (xs : List Value) (start stop : Option ℤ) (step : ℤ) → AllFit m xs → AllFit m (taken xs start stop step)
taken_all m xs start stop step fit = record {
  references = taken_passes (fits m.state.objects) xs fit.references start stop step;
  proper = taken_passes is_proper xs fit.proper start stop step;
}
