use Rattle.std.proofs.Common.{◌≡◌, drop}
use Rattle.star_meaning.specs.Comparing as spec
use Rattle.star_builtins.specs.Reached.{store}
use Rattle.star_builtins.specs.Weighing.{searched}
use Rattle.star_builtins.proofs.membership.search_in.Given as goal

abbrev pub invariant-loop-place : goal.invariant-loop-place
invariant-loop-place l = searched l.wanted l.place (drop l.place l.items) (store l.machine l.meter.left) ≡ spec.search_in l.wanted l.items (store l.machine l.fn.meter.left)
