-- A pair that is put among pairs that fit.
use Rattle.std.proofs.Common.{◌≡◌, List, [], ◌∷◌, Bool, true, false, refl, IsTrue}
use Rattle.std.specs.Prelude.{◌&&◌, if◌then◌else◌, Some}
use Rattle.std.specs.List.{list_all}
use Rattle.heap_store.proofs.References.{key_fits}
use Rattle.heap_store.proofs.Tested.{and_both, and_left, and_right}
use Rattle.star_value.specs.KeyOrder.{same_key}
use Rattle.star_value.specs.Keys.{key_of, value_of}
use Rattle.star_value.specs.declared.key.Key.{Key}
use Rattle.star_value.specs.declared.value.Value.{Value}
use Rattle.star_meaning.specs.State.{dict_put}
use Rattle.star_meaning.specs.Validity.{MachineState, all_in_pair, fits, is_proper}
use Rattle.star_builtins.specs.Changes.{PairsFit}
use Rattle.star_builtins.specs.Reached.{Fits}
use Rattle.star_builtins.proofs.KeyLemmas.{key_is_proper}

put_at : (test : Value → Bool) (b : Bool) (pair : Key × Value) (pairs after : List (Key × Value)) (v : Value) → IsTrue (all_in_pair test pair) → IsTrue (list_all (all_in_pair test) pairs) → IsTrue (test v)
    → IsTrue (list_all (all_in_pair test) after) → IsTrue (list_all (all_in_pair test) (if b then (pair.0, v) ∷ pairs else pair ∷ after))
put_at test true pair pairs after v h k t l = and_both (test (value_of pair.0) && test v) (list_all (all_in_pair test) pairs) (and_both (test (value_of pair.0)) (test v) (and_left (test (value_of pair.0)) (test pair.1) h) t) k
put_at test false pair pairs after v h k t l = and_both (all_in_pair test pair) (list_all (all_in_pair test) after) h l

put_passes : (test : Value → Bool) (pairs : List (Key × Value)) (k : Key) (v : Value) → IsTrue (test (value_of k)) → IsTrue (test v) → IsTrue (list_all (all_in_pair test) pairs) → IsTrue (list_all (all_in_pair test) (dict_put pairs k v))
unfolding dict_put
put_passes test [] k v h t l = and_both (test (value_of k) && test v) true (and_both (test (value_of k)) (test v) h t) refl
put_passes test (pair ∷ pairs) k v h t l =
    put_at test (same_key k pair.0) pair pairs (dict_put pairs k v) v (and_left (all_in_pair test pair) (list_all (all_in_pair test) pairs) l) (and_right (all_in_pair test pair) (list_all (all_in_pair test) pairs) l) t
    (put_passes test pairs k v h t (and_right (all_in_pair test pair) (list_all (all_in_pair test) pairs) l))

pub put_fits : (m : MachineState) (pairs : List (Key × Value)) (k : Key) (of v : Value) → key_of of ≡ Some k → Fits m of → Fits m v → PairsFit m pairs → PairsFit m (dict_put pairs k v)
put_fits m pairs k of v is key fit h = record {
  references = put_passes (fits m.state.objects) pairs k v (key_fits m.state.objects k) fit.references h.references;
  proper = put_passes is_proper pairs k v (key_is_proper m of k key is) fit.proper h.proper;
}

pub ruleset entries = (put_fits)
