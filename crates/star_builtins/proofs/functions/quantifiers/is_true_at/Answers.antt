use Rattle.std.proofs.Common.{◌∙◌, ap, rules}
use Rattle.std.specs.Prelude.{FitsSigned, not}
use Rattle.std.specs.Int.{w128}
use Rattle.std.proofs.Math.Facts.{to_z-of_z}
use Rattle.heap_store.proofs.GivenItems.{within}
use Rattle.star_meaning.specs.State.{list}
use Rattle.star_meaning.specs.Validity.{fits}
use Rattle.star_meaning.specs.Values.{is_zero}
use Rattle.star_builtins.proofs.FitLemmas.{item_passes, tuple_items}
use Rattle.star_builtins.proofs.Held.{list_fits}
use Rattle.star_builtins.proofs.Sequences.{truth_tuple, truth_list, truth_dict, truth_range}
use Rattle.star_builtins.proofs.WalkLemmas.{place_dict, place_range, within_some}
use Rattle.star_builtins.proofs.functions.quantifiers.is_true_at.Goals as goal

pub is_true-requires : goal.is_true-requires
is_true-requires c =
    item_passes (fits c.args.machine.now.state.objects) c.in-Tuple.items c.args.place _ (tuple_items c.args.machine.now c.in-Tuple.items (rw c.in-Tuple.is at c.requires.of)).references (rw c.as_slice.ensures at c.item_of.ensures)

pub is_true-requires-in-List : goal.is_true-requires-in-List
is_true-requires-in-List c =
    item_passes (fits c.args.machine.now.state.objects) (list c.args.machine.now.state c.in-List.id) c.args.place _ (list_fits c.args.machine.now c.in-List.id c.list.ensures.kept) (rw c.list.ensures.value at c.item_of-in-List.ensures)

pub item-requires : goal.item-requires
item-requires c = place_range c.args.machine.now.state c.args.place c.in-Range.range (rw c.in-Range.is at c.requires.within)

pub key_of-requires-clause-within : goal.key_of-requires-clause-within
key_of-requires-clause-within c = place_dict c.args.machine.now.state c.args.place c.in-Dict.id (rw c.in-Dict.is at c.requires.within)

pub unreachable-requires : goal.unreachable-requires
unreachable-requires c =
    let h = within_some c.args.machine.now.state c.args.of.now c.args.place c.requires.within in
    search (rules, within, h)

pub returns-in-Tuple : goal.returns-in-Tuple
returns-in-Tuple c = rw c.in-Tuple.is (truth_tuple c.args.machine.now.state c.args.place _ c.in-Tuple.items _ (rw c.as_slice.ensures at c.item_of.ensures) c.is_true.ensures)

pub returns-in-Range : goal.returns-in-Range
returns-in-Range c =
    let fit : FitsSigned w128 c.item.result = search rules in
    rw c.in-Range.is (truth_range c.args.machine.now.state c.args.place _ c.in-Range.range (place_range c.args.machine.now.state c.args.place c.in-Range.range (rw c.in-Range.is at c.requires.within))
    (ap not (c.is_zero.ensures ∙ ap is_zero (to_z-of_z fit) ∙ ap is_zero c.item.ensures)))

pub returns-in-List : goal.returns-in-List
returns-in-List c = rw c.in-List.is (truth_list c.args.machine.now.state c.args.place _ c.in-List.id _ _ c.list.ensures.value c.item_of-in-List.ensures c.is_true-in-List.ensures)

pub returns-in-Dict : goal.returns-in-Dict
returns-in-Dict c = rw c.in-Dict.is (truth_dict c.args.machine.now.state c.args.place _ c.in-Dict.id _ c.key_of.ensures (c.is_true_key.ensures c.args.machine.now.state))
