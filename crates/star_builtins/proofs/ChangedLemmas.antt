-- What a change of a list or a dict in its place leaves.
use Rattle.std.proofs.Common.{IsTrue, ◌≡◌, ◌≤◌, ℕ, suc, zero, Bool, List, [], ◌∷◌, ◌++◌, length, refl, sym, subst, ap, ◌∙◌, arith, Some, slice_get, slice_set, Option, None}
use Rattle.std.specs.List.{list_all, insert, remove}
use Rattle.std.specs.Prelude.{IfSome, if◌then◌else◌}
use Rattle.heap_store.proofs.Kept.{pairs_fit}
use Rattle.heap_store.proofs.PairLemmas.{all_put, all_without}
use Rattle.heap_store.proofs.References.{key_fits}
use Rattle.heap_store.proofs.Tested.{and_right, all_set, all_insert, all_remove, all_both}
use Rattle.heap_store.specs.Objects.{with_nothing}
use Rattle.star_value.specs.Keys.{value_of}
use Rattle.star_value.specs.declared.key.Key.{Key}
use Rattle.star_value.specs.declared.value.Value.{Value}
use Rattle.star_meaning.specs.State.{Object, AList, ADict, AFunction, State, object, list, dict, dict_get, dict_put, dict_without, with_list, with_dict}
use Rattle.star_meaning.specs.Validity.{MachineState, IsMachine, fits, is_list, is_dict, is_proper, all_in, all_in_object, all_in_pair}
use Rattle.star_builtins.specs.Changes.{PairsFit}
use Rattle.star_builtins.specs.Reached.{Fits, AllFit, Follows}
use Rattle.star_builtins.proofs.ChangeLemmas.{follows_list, follows_dict}
use Rattle.star_builtins.proofs.FitLemmas.{list_items, item_fits, dict_value}
use Rattle.star_builtins.proofs.FollowLemmas.{follows_equal}

abbrev list_state : MachineState → ℕ → List Value → MachineState
list_state m id items = record m { state = with_list m.state id items }

abbrev dict_state : MachineState → ℕ → List (Key × Value) → MachineState
dict_state m id pairs = record m { state = with_dict m.state id pairs }

module _ (m after : MachineState) (id : ℕ) where
  -- ---- lists

  pub follows_items : (items : List Value) → IsTrue (is_list (slice_get m.state.objects id)) → AllFit m items → after ≡ list_state m id items → Follows m after
  unfolding with_list
  follows_items items is fit same = subst (Follows m) (sym same) (follows_list m id items is fit)

  module _ (kept : IsMachine m) (held : IsTrue (all_in is_proper m.state)) (is : IsTrue (is_list (slice_get m.state.objects id))) where
    pub follows_set : (place : ℕ) (v : Value) → Fits m v → after ≡ list_state m id (slice_set (list m.state id) place v) → Follows m after
    follows_set place v fit same =
        let all = list_items m id kept held in
        follows_items (slice_set (list m.state id) place v) is (record { references = all_set (fits m.state.objects) (list m.state id) place v all.references fit.references; proper = all_set is_proper (list m.state id) place v all.proper fit.proper }) same

    pub follows_insert : (place : ℕ) (v : Value) → Fits m v → after ≡ list_state m id (insert (list m.state id) place v) → Follows m after
    follows_insert place v fit same =
        let all = list_items m id kept held in
        follows_items (insert (list m.state id) place v) is (record { references = all_insert (fits m.state.objects) (list m.state id) place v all.references fit.references; proper = all_insert is_proper (list m.state id) place v all.proper fit.proper }) same

    pub follows_remove : (place : ℕ) → after ≡ list_state m id (remove (list m.state id) place) → Follows m after
    follows_remove place same =
        let all = list_items m id kept held in
        follows_items (remove (list m.state id) place) is (record { references = all_remove (fits m.state.objects) (list m.state id) place all.references; proper = all_remove is_proper (list m.state id) place all.proper }) same

    pub follows_extend : (more : List Value) → AllFit m more → after ≡ list_state m id (list m.state id ++ more) → Follows m after
    follows_extend more fit same =
        let all = list_items m id kept held in
        follows_items (list m.state id ++ more) is (record { references = all_both (fits m.state.objects) (list m.state id) more all.references fit.references; proper = all_both is_proper (list m.state id) more all.proper fit.proper }) same

    pub removed_fits : (place : ℕ) (v : Value) → slice_get (list m.state id) place ≡ Some v → after ≡ list_state m id (remove (list m.state id) place) → Fits after v
    removed_fits place v at same = (follows_remove place same).fit v (item_fits m (list m.state id) place v (list_items m id kept held) at)

  nothing_is : IsTrue (is_list (slice_get m.state.objects id)) → with_nothing m.state id ≡ with_list m.state id []
  unfolding with_nothing object
  nothing_is is = rw is refl

  pub cleared_list : IsTrue (is_list (slice_get m.state.objects id)) → after ≡ record m { state = with_nothing m.state id } → after ≡ list_state m id []
  cleared_list is same = same ∙ ap (λ s. record m { state = s }) (nothing_is is)

  pub follows_clear : IsTrue (is_list (slice_get m.state.objects id)) → after ≡ record m { state = with_nothing m.state id } → Follows m after
  follows_clear is same = follows_items [] is (record { references = refl; proper = refl }) (cleared_list is same)

  -- ---- dicts

  pub follows_pairs : (pairs : List (Key × Value)) → IsMachine after → IsTrue (is_dict (slice_get m.state.objects id)) → PairsFit m pairs → after ≡ dict_state m id pairs → Follows m after
  unfolding with_dict
  follows_pairs pairs kept is fit same = subst (Follows m) (sym same) (follows_dict m id pairs is fit (subst IsMachine same kept))

  module _ (kept : IsMachine m) (later : IsMachine after) (held : IsTrue (all_in is_proper m.state)) (is : IsTrue (is_dict (slice_get m.state.objects id))) where
    objects_are : (test : Value → Bool) → IsTrue (all_in test m.state) → IsTrue (list_all (all_in_pair test) (dict m.state id))
    unfolding dict object
    objects_are test h = pairs_fit test m.state.objects id (and_right (list_all (λ global. test global.1) m.state.globals) (list_all (all_in_object test) m.state.objects) h)

    pub pairs_are : PairsFit m (dict m.state id)
    pairs_are = record { references = objects_are (fits m.state.objects) kept.references; proper = objects_are is_proper held }

    pub follows_put : (key : Key) (v : Value) → IsTrue (is_proper (value_of key)) → Fits m v → after ≡ dict_state m id (dict_put (dict m.state id) key v) → Follows m after
    follows_put key v good fit same =
        follows_pairs (dict_put (dict m.state id) key v) later is (record {
          references = all_put (fits m.state.objects) key v (key_fits m.state.objects key) fit.references (dict m.state id) pairs_are.references;
          proper = all_put is_proper key v good fit.proper (dict m.state id) pairs_are.proper;
        }) same

    pub follows_take : (key : Key) → after ≡ dict_state m id (dict_without (dict m.state id) key) → Follows m after
    follows_take key same =
        follows_pairs (dict_without (dict m.state id) key) later is (record {
          references = all_without (fits m.state.objects) key (dict m.state id) pairs_are.references;
          proper = all_without is_proper key (dict m.state id) pairs_are.proper;
        }) same

    pub taken_fits : (key : Key) (v : Value) → Some v ≡ dict_get (dict m.state id) key → after ≡ dict_state m id (dict_without (dict m.state id) key) → Fits after v
    taken_fits key v at same = (follows_take key same).fit v (dict_value m id key v kept held at)

    pub found_fits : (key : Key) (o : Option Value) → o ≡ dict_get (dict m.state id) key → after ≡ dict_state m id (dict_without (dict m.state id) key) → IfSome o (λ v. Fits after v)
    found_fits key (Some v) at same = taken_fits key v at same
    found_fits key None at same = tt

  not_list : IsTrue (is_dict (slice_get m.state.objects id)) → with_nothing m.state id ≡ with_dict m.state id []
  unfolding with_nothing object
  not_list is = elim (slice_get m.state.objects id) as (λ o. IsTrue (is_dict o) → (if is_list o then with_list m.state id [] else with_dict m.state id []) ≡ with_dict m.state id []) [
    | Some (AList items) ↦ λ h. absurd (cc)
    | Some (ADict pairs) ↦ λ h. refl
    | Some (AFunction cell number defaults) ↦ λ h. absurd (cc)
    | None ↦ λ h. absurd (cc)
  ] is

  pub cleared_dict : IsTrue (is_dict (slice_get m.state.objects id)) → after ≡ record m { state = with_nothing m.state id } → after ≡ dict_state m id []
  cleared_dict is same = same ∙ ap (λ s. record m { state = s }) (not_list is)

  pub follows_clear_dict : IsMachine after → IsTrue (is_dict (slice_get m.state.objects id)) → after ≡ record m { state = with_nothing m.state id } → Follows m after
  follows_clear_dict later is same = follows_pairs [] later is (record { references = refl; proper = refl }) (cleared_dict is same)
