-- What a call leaves: the machine itself, or the machine with one more list.
use Rattle.std.proofs.Common.{IsTrue, ◌≡◌, ℕ, List, [], ◌∷◌, ◌++◌, length, refl, sym, subst, ap, arith, Some, slice_get, length-append}
use Rattle.std.specs.List.{list_all}
use Rattle.heap_store.proofs.Kept.{kept_new}
use Rattle.heap_store.proofs.References.{fits_stays, stay_new}
use Rattle.heap_store.proofs.Tested.{and_left, and_right, and_both, all_push}
use Rattle.star_syntax.specs.declared.cell.Program.{Program}
use Rattle.star_value.specs.declared.value.Value.{Value}
use Rattle.star_value.specs.declared.value.Value.TheVariants as value
use Rattle.star_meaning.specs.State.{Object, AList}
use Rattle.star_meaning.specs.Validity.{MachineState, IsValid, is_list, is_proper, is_defined, all_in_object, all_in}
use Rattle.star_builtins.specs.Reached.{Fits, AllFit, HasRoom, Follows}
use Rattle.star_builtins.proofs.FitLemmas.{references_list, proper_list}

pub follows_same : (m : MachineState) → Follows m m
follows_same m = record { ran = refl; fit = λ v h. h; few = omega arith; proper = λ h. h; valid = λ program h. h }

pub follows_equal : (before after : MachineState) → after ≡ before → Follows before after
follows_equal before after same = subst (λ m. Follows before m) (sym same) (follows_same before)

-- the machine with one more list
abbrev pub with_list : MachineState → List Value → MachineState
with_list m items = record m { state = record { globals = m.state.globals; objects = m.state.objects ++ AList items ∷ [] } }

stands_last : (os : List (Object ℕ)) (items : List Value) → slice_get (os ++ AList items ∷ []) (length os) ≡ Some (AList items)
stands_last [] items = refl
stands_last (o ∷ os) items = stands_last os items

pub new_fits : (m : MachineState) (items : List Value) → Fits (with_list m items) (value.List (length m.state.objects))
new_fits m items = record {
  references = references_list (m.state.objects ++ AList items ∷ []) (length m.state.objects) (ap is_list (stands_last m.state.objects items));
  proper = proper_list (length m.state.objects);
}

fit_later : (m : MachineState) (items : List Value) (v : Value) → Fits m v → Fits (with_list m items) v
fit_later m items v fit = record {
  references = fits_stays m.state.objects (m.state.objects ++ AList items ∷ []) (stay_new m.state.objects (AList items)) v fit.references;
  proper = fit.proper;
}

proper_later : (m : MachineState) (items : List Value) → IsTrue (list_all is_proper items) → IsTrue (all_in is_proper m.state) → IsTrue (all_in is_proper (with_list m items).state)
proper_later m items fit proper =
    and_both (list_all (λ global. is_proper global.1) m.state.globals) (list_all (all_in_object is_proper) (m.state.objects ++ AList items ∷ []))
    (and_left (list_all (λ global. is_proper global.1) m.state.globals) (list_all (all_in_object is_proper) m.state.objects) proper)
    (all_push (all_in_object is_proper) m.state.objects (AList items)
    (and_right (list_all (λ global. is_proper global.1) m.state.globals) (list_all (all_in_object is_proper) m.state.objects) proper) fit)

valid_later : (m : MachineState) (items : List Value) (program : Program) → AllFit m items → HasRoom m → IsValid program m → IsValid program (with_list m items)
valid_later m items program fit room valid = record {
  kept = kept_new m (AList items) valid.kept refl refl fit.references room;
  values = proper_later m items fit.proper valid.values;
  nodes = valid.nodes;
  functions = all_push (is_defined program m.ran) m.state.objects (AList items) valid.functions refl;
}

pub follows_new : (m : MachineState) (items : List Value) → AllFit m items → HasRoom m → Follows m (with_list m items)
follows_new m items fit room = record {
  ran = refl;
  fit = fit_later m items;
  few = simp length-append (omega arith);
  proper = proper_later m items fit.proper;
  valid = λ program valid. valid_later m items program fit room valid;
}

pub ruleset new_list = (follows_equal, follows_new, new_fits)
