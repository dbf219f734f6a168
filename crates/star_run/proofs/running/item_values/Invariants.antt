use Rattle.std.proofs.Common.{◌≡◌, map, take}
use Rattle.star_meaning.specs.Expressions.{item_value}
use Rattle.star_meaning.specs.Validity.{MachineState}
use Rattle.star_builtins.specs.Reached.{AllFit}
use Rattle.star_run.proofs.running.item_values.Given as goal

abbrev pub invariant-loop-item : goal.invariant-loop-item
invariant-loop-item l = record {
  same : l.values ≡ map item_value (take l.item-index l.items);
  fit : (m : MachineState) → AllFit m l.values;
}
