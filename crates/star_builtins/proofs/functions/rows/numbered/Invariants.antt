use Rattle.std.proofs.Common.{◌≡◌, drop}
use Rattle.star_meaning.specs.Builtins as spec
use Rattle.star_builtins.specs.Reached.{AllFit, store}
use Rattle.star_builtins.specs.Rows.{tuples_onto}
use Rattle.star_builtins.specs.Walks.{given}
use Rattle.star_builtins.proofs.functions.rows.numbered.Given as goal

abbrev pub invariant-loop-place : goal.invariant-loop-place
invariant-loop-place l = record {
  rest : tuples_onto l.tuples.items (drop l.place (spec.numbered l.start (given l.machine.state l.of))) (store l.machine l.meter.left) ≡ spec.tuples (spec.numbered l.start (given l.machine.state l.of)) (store l.machine l.fn.meter.left);
  fit : AllFit l.machine l.tuples.items;
}
