use Rattle.std.proofs.Common.{◌≡◌, drop, true}
use Rattle.star_meaning.specs.Builtins.{are_alike}
use Rattle.star_builtins.specs.Reached.{Fits, store}
use Rattle.star_builtins.specs.Sorting.{best_from}
use Rattle.star_builtins.specs.Walks.{given}
use Rattle.star_builtins.proofs.functions.sorting.best_after.Given as goal

abbrev pub invariant-loop-place : goal.invariant-loop-place
invariant-loop-place l = record {
  same : best_from l.greatest l.fn.first l.best (drop l.place (given l.machine.state l.of)) (store l.machine l.meter.left)
      ≡ best_from l.greatest l.fn.first l.fn.first (drop 1 (given l.machine.state l.of)) (store l.machine l.fn.meter.left);
  alike : are_alike l.fn.first l.best ≡ true;
  fit : Fits l.machine l.best;
}
