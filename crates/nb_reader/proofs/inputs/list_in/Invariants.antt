use Rattle.std.proofs.Common.{◌≡◌, ◌++◌, drop, option_map}
use Rattle.serde_json.specs.View.{items_view}
use Rattle.nb_reader.specs.Inputs.{list_of}
use Rattle.nb_reader.proofs.inputs.list_in.Given as goal

abbrev pub invariant-loop-value : goal.invariant-loop-value
invariant-loop-value l =
    option_map (λ rest. l.items ++ rest) (list_of (items_view (drop l.value-index l.values))) ≡ list_of (items_view l.values)
