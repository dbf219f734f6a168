-- What a call leaves that makes a dict, or changes a list or a dict in its place.
use Rattle.std.proofs.Common.{IsTrue, ◌≡◌, ℕ, Bool, List, [], ◌∷◌, ◌++◌, length, refl, ap, arith, Some, slice_get, slice_set, length-append}
use Rattle.std.specs.List.{list_all}
use Rattle.std.proofs.Math.ListN.{length-set}
use Rattle.heap_store.proofs.Kept.{kept_list, alike_list, alike_dict}
use Rattle.heap_store.proofs.References.{fits_stays, stay_new, stay_set}
use Rattle.heap_store.proofs.Tested.{and_left, and_right, and_both, all_push, all_set}
use Rattle.star_value.specs.Keys.{value_of}
use Rattle.star_value.specs.Weight.{depth_step}
use Rattle.star_value.specs.declared.key.Key.{Key}
use Rattle.star_value.specs.declared.value.Value.{Value, fold-roll-Value}
use Rattle.star_value.specs.declared.value.Value.TheVariants as value
use Rattle.star_meaning.specs.State.{Object, AList, ADict}
use Rattle.star_meaning.specs.Validity.{MachineState, IsMachine, fits, fits_step, is_list, is_dict, is_proper, proper_step, is_defined, all_in_object, all_in_pair, all_in}
use Rattle.star_builtins.specs.Changes.{PairsFit}
use Rattle.star_builtins.specs.Reached.{Fits, AllFit, Follows}
use Rattle.star_builtins.proofs.FollowLemmas.{follows_equal}

references_dict : (os : List (Object ℕ)) (id : ℕ) → IsTrue (is_dict (slice_get os id)) → IsTrue (fits os (value.Dict id))
unfolding fits
references_dict os id is = rw (← value.rolls-Dict id, fold-roll-Value Bool (fits_step os)) is

proper_dict : (id : ℕ) → IsTrue (is_proper (value.Dict id))
unfolding is_proper
proper_dict id = rw (← value.rolls-Dict id, fold-roll-Value ℕ depth_step, fold-roll-Value Bool proper_step) refl

-- ---- the machine with one more dict

abbrev pub with_dict : MachineState → List (Key × Value) → MachineState
with_dict m pairs = record m { state = record { globals = m.state.globals; objects = m.state.objects ++ ADict pairs ∷ [] } }

dict_stands_last : (os : List (Object ℕ)) (pairs : List (Key × Value)) → slice_get (os ++ ADict pairs ∷ []) (length os) ≡ Some (ADict pairs)
dict_stands_last [] pairs = refl
dict_stands_last (o ∷ os) pairs = dict_stands_last os pairs

pub new_dict_fits : (m : MachineState) (pairs : List (Key × Value)) → Fits (with_dict m pairs) (value.Dict (length m.state.objects))
new_dict_fits m pairs = record {
  references = references_dict (m.state.objects ++ ADict pairs ∷ []) (length m.state.objects) (ap is_dict (dict_stands_last m.state.objects pairs));
  proper = proper_dict (length m.state.objects);
}

-- a property of the values of a state holds of the objects as they are after a change
objects_proper : (m : MachineState) (objects : List (Object ℕ)) → (IsTrue (list_all (all_in_object is_proper) m.state.objects) → IsTrue (list_all (all_in_object is_proper) objects))
    → IsTrue (all_in is_proper m.state) → IsTrue (all_in is_proper (record m.state { objects = objects }))
objects_proper m objects by proper =
    and_both (list_all (λ global. is_proper global.1) m.state.globals) (list_all (all_in_object is_proper) objects)
    (and_left (list_all (λ global. is_proper global.1) m.state.globals) (list_all (all_in_object is_proper) m.state.objects) proper)
    (by (and_right (list_all (λ global. is_proper global.1) m.state.globals) (list_all (all_in_object is_proper) m.state.objects) proper))

module _ (m : MachineState) (pairs : List (Key × Value)) (fit : PairsFit m pairs) where
  pub follows_new_dict : IsMachine (with_dict m pairs) → Follows m (with_dict m pairs)
  follows_new_dict kept = record {
    ran = refl;
    fit = λ v h. record { references = fits_stays m.state.objects (m.state.objects ++ ADict pairs ∷ []) (stay_new m.state.objects (ADict pairs)) v h.references; proper = h.proper };
    few = simp length-append (omega arith);
    proper = objects_proper m (m.state.objects ++ ADict pairs ∷ []) (λ h. all_push (all_in_object is_proper) m.state.objects (ADict pairs) h fit.proper);
    valid = λ program valid. record {
      kept = kept;
      values = objects_proper m (m.state.objects ++ ADict pairs ∷ []) (λ h. all_push (all_in_object is_proper) m.state.objects (ADict pairs) h fit.proper) valid.values;
      nodes = valid.nodes;
      functions = all_push (is_defined program m.ran) m.state.objects (ADict pairs) valid.functions refl;
    };
  }

pub ruleset new_dict = (follows_equal, follows_new_dict, new_dict_fits)

-- ---- the machine with a changed list or dict

abbrev pub with_object : MachineState → ℕ → Object ℕ → MachineState
with_object m id o = record m { state = record { globals = m.state.globals; objects = slice_set m.state.objects id o } }

pub follows_list : (m : MachineState) (id : ℕ) (items : List Value) → IsTrue (is_list (slice_get m.state.objects id)) → AllFit m items → Follows m (with_object m id (AList items))
follows_list m id items is fit = record {
  ran = refl;
  fit = λ v h. record { references = fits_stays m.state.objects (slice_set m.state.objects id (AList items)) (stay_set m.state.objects id (AList items) (alike_list (slice_get m.state.objects id) items is)) v h.references; proper = h.proper };
  few = simp length-set (omega arith);
  proper = objects_proper m (slice_set m.state.objects id (AList items)) (λ h. all_set (all_in_object is_proper) m.state.objects id (AList items) h fit.proper);
  valid = λ program valid. record {
    kept = kept_list m id items valid.kept is fit.references;
    values = objects_proper m (slice_set m.state.objects id (AList items)) (λ h. all_set (all_in_object is_proper) m.state.objects id (AList items) h fit.proper) valid.values;
    nodes = valid.nodes;
    functions = all_set (is_defined program m.ran) m.state.objects id (AList items) valid.functions refl;
  };
}

pub follows_dict : (m : MachineState) (id : ℕ) (pairs : List (Key × Value)) → IsTrue (is_dict (slice_get m.state.objects id)) → PairsFit m pairs → IsMachine (with_object m id (ADict pairs)) → Follows m (with_object m id (ADict pairs))
follows_dict m id pairs is fit kept = record {
  ran = refl;
  fit = λ v h. record { references = fits_stays m.state.objects (slice_set m.state.objects id (ADict pairs)) (stay_set m.state.objects id (ADict pairs) (alike_dict (slice_get m.state.objects id) pairs is)) v h.references; proper = h.proper };
  few = simp length-set (omega arith);
  proper = objects_proper m (slice_set m.state.objects id (ADict pairs)) (λ h. all_set (all_in_object is_proper) m.state.objects id (ADict pairs) h fit.proper);
  valid = λ program valid. record {
    kept = kept;
    values = objects_proper m (slice_set m.state.objects id (ADict pairs)) (λ h. all_set (all_in_object is_proper) m.state.objects id (ADict pairs) h fit.proper) valid.values;
    nodes = valid.nodes;
    functions = all_set (is_defined program m.ran) m.state.objects id (ADict pairs) valid.functions refl;
  };
}

-- the values of pairs that fit
fit_values : (test : Value → Bool) (pairs : List (Key × Value)) → IsTrue (list_all (all_in_pair test) pairs) → IsTrue (list_all (λ pair. test pair.1) pairs)
fit_values test [] h = refl
fit_values test (pair ∷ pairs) h =
    and_both (test pair.1) (list_all (λ p. test p.1) pairs) (and_right (test (value_of pair.0)) (test pair.1) (and_left (all_in_pair test pair) (list_all (all_in_pair test) pairs) h))
    (fit_values test pairs (and_right (all_in_pair test pair) (list_all (all_in_pair test) pairs) h))

pub values_fit : (m : MachineState) (pairs : List (Key × Value)) → PairsFit m pairs → IsTrue (list_all (λ pair. fits m.state.objects pair.1) pairs)
values_fit m pairs fit = fit_values (fits m.state.objects) pairs fit.references
