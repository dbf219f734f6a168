use Rattle.std.proofs.Common.{◌≡◌, ◌++◌, drop, IsTrue}
use Rattle.std.specs.List.{list_all}
use Rattle.star_builtins.specs.Reached.{store}
use Rattle.star_builtins.specs.Rows.{walked_given}
use Rattle.star_builtins.specs.Walks.{given}
use Rattle.star_builtins.proofs.FitLemmas.{inside}
use Rattle.star_builtins.proofs.Sequences.{walked_from}
use Rattle.star_builtins.proofs.functions.sequences.walked.Given as goal

abbrev pub invariant-loop-place : goal.invariant-loop-place
invariant-loop-place l = record {
  walks : walked_from (given l.machine.state l.of) l.place (store l.machine l.meter.left) ≡ walked_given (given l.machine.state l.of) (store l.machine l.fn.meter.left);
  same : l.items.items ++ drop l.place (given l.machine.state l.of) ≡ given l.machine.state l.of;
  inside : IsTrue (list_all (inside l.machine.state.objects) l.items.items);
}
