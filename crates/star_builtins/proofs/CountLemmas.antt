-- How many objects there are once a list or a dict is changed in its place.
use Rattle.std.proofs.Common.{◌≡◌, ℕ, List, length, refl, ap, ◌∙◌, slice_set}
use Rattle.std.proofs.Math.ListN.{length-set}
use Rattle.star_value.specs.declared.key.Key.{Key}
use Rattle.star_value.specs.declared.value.Value.{Value}
use Rattle.star_meaning.specs.State.{AList, ADict, with_list, with_dict}
use Rattle.star_meaning.specs.Validity.{MachineState}

pub count_list : (before after : MachineState) (id : ℕ) (items : List Value) → after ≡ record before { state = with_list before.state id items } → length after.state.objects ≡ length before.state.objects
unfolding with_list
count_list before after id items same = ap (λ m. length m.state.objects) same ∙ simp length-set

pub count_dict : (before after : MachineState) (id : ℕ) (pairs : List (Key × Value)) → after ≡ record before { state = with_dict before.state id pairs } → length after.state.objects ≡ length before.state.objects
unfolding with_dict
count_dict before after id pairs same = ap (λ m. length m.state.objects) same ∙ simp length-set

pub count_same : (before after : MachineState) → after ≡ before → length after.state.objects ≡ length before.state.objects
count_same before after same = ap (λ m. length m.state.objects) same

pub ruleset counts = (count_list, count_dict, count_same)
