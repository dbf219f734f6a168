use Rattle.std.proofs.Common.{◌≡◌, drop}
use Rattle.std.specs.Prelude.{is_some}
use Rattle.std.specs.List.{list_all}
use Rattle.star_syntax.specs.Cells.{numbered}
use Rattle.snapshot_codec.proofs.refers.all_known.Given as goal

abbrev pub invariant-loop-node : goal.invariant-loop-node
invariant-loop-node l = list_all (λ node. is_some (numbered l.program.cells node)) (drop l.node-index l.ran) ≡ list_all (λ node. is_some (numbered l.program.cells node)) l.ran
