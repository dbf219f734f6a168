use Rattle.std.proofs.Common.{◌≡◌, drop}
use Rattle.std.specs.List.{list_any}
use Rattle.star_builtins.specs.Walks.{given}
use Rattle.star_builtins.proofs.Sequences.{has_truth}
use Rattle.star_builtins.proofs.functions.quantifiers.gives_truth.Given as goal

abbrev pub invariant-loop-place : goal.invariant-loop-place
invariant-loop-place l =
    list_any (has_truth l.machine.state l.truth) (drop l.place (given l.machine.state l.of)) ≡ list_any (has_truth l.machine.state l.truth) (given l.machine.state l.of)
