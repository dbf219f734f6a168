use Rattle.std.proofs.Common.{◌≡◌, ◌++◌, take}
use Rattle.snapshot_codec.specs.Building.{with_ran}
use Rattle.snapshot_codec.proofs.build.enter_all.Given as goal

abbrev pub invariant-loop-node : goal.invariant-loop-node
invariant-loop-node l = l.machine ≡ with_ran l.fn.machine (l.fn.machine.ran ++ take l.node-index l.nodes)
