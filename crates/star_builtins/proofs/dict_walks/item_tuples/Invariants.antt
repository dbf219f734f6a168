use Rattle.std.proofs.Common.{◌≡◌, ℕ, drop}
use Rattle.star_meaning.specs.Builtins.{tuples}
use Rattle.star_meaning.specs.Methods.{pair_rows}
use Rattle.star_meaning.specs.State.{State}
use Rattle.star_meaning.specs.Validity.{MachineState}
use Rattle.star_builtins.specs.Changes.{PairsFit}
use Rattle.star_builtins.specs.Reached.{AllFit}
use Rattle.star_builtins.specs.Rows.{tuples_onto}
use Rattle.star_builtins.proofs.dict_walks.item_tuples.Given as goal

abbrev pub invariant-loop-place : goal.invariant-loop-place
invariant-loop-place l = record {
  same : (s : State ℕ) → tuples_onto l.tuples (drop l.place (pair_rows l.pairs)) (record { state = s; left = l.meter.left }) ≡ tuples (pair_rows l.pairs) (record { state = s; left = l.fn.meter.left });
  fit : (m : MachineState) → PairsFit m l.pairs → AllFit m l.tuples;
}
