use Rattle.std.proofs.Common.{◌≡◌, ◌++◌, drop}
use Rattle.star_builtins.specs.Walks.{given}
use Rattle.star_builtins.proofs.walks.collected.Given as goal

abbrev pub invariant-loop-place : goal.invariant-loop-place
invariant-loop-place l = l.items.items ++ drop l.place (given l.machine.state l.of) ≡ given l.machine.state l.of
