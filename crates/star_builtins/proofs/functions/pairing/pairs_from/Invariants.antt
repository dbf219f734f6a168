use Rattle.std.proofs.Common.{◌≡◌, [], drop}
use Rattle.star_meaning.specs.Builtins as spec
use Rattle.star_builtins.specs.Changes.{PairsFit}
use Rattle.star_builtins.specs.Reached.{store}
use Rattle.star_builtins.specs.Walks.{given}
use Rattle.star_builtins.proofs.functions.pairing.pairs_from.Given as goal

abbrev pub invariant-loop-place : goal.invariant-loop-place
invariant-loop-place l = record {
  rest : spec.pairs_from l.pairs (drop l.place (given l.machine.state l.of)) (store l.machine l.meter.left) ≡ spec.pairs_from [] (given l.machine.state l.of) (store l.machine l.fn.meter.left);
  fit : PairsFit l.machine l.pairs;
}
