use Rattle.std.proofs.Common.{◌≡◌, ◌++◌, ◌-◌}
use Rattle.snapshot_codec.specs.Building.{nones}
use Rattle.snapshot_codec.proofs.build.make_nones.Given as goal

abbrev pub invariant-loop : goal.invariant-loop
invariant-loop l = l.values ++ nones (l.count - l.counter) ≡ nones l.count
