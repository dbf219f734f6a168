use Rattle.std.proofs.Common.{◌≡◌, ◌++◌}
use Rattle.std.specs.List.Sorted.{IsStrictlySortedBy}
use Rattle.std.specs.Map.{keys_of}
use Rattle.serde_json.specs.View.{members_view}
use Rattle.chex_base.specs.TextOrder.{text_cmp}
use Rattle.nb_reader.specs.Inputs.{inputs_before, values_of}
use Rattle.nb_reader.proofs.InputsLemmas.{names_of}
use Rattle.nb_reader.proofs.inputs.all_inputs.Given as goal

abbrev pub invariant-loop-name : goal.invariant-loop-name
invariant-loop-name l = record {
  so_far : inputs_before l.inputs (values_of (members_view l.name-iterator)) ≡ values_of (members_view l.members.entries);
  rising : IsStrictlySortedBy text_cmp (keys_of l.inputs ++ names_of l.name-iterator);
}
