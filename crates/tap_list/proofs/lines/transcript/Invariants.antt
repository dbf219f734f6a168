use Rattle.std.proofs.Common.{◌≡◌, take}
use Rattle.std.specs.List.{flat_map}
use Rattle.tap_list.specs.Lines.{line_of}
use Rattle.tap_list.proofs.lines.transcript.Given as goal

abbrev pub invariant-loop-operation : goal.invariant-loop-operation
invariant-loop-operation l = l.text ≡ flat_map line_of (take l.operation-index l.operations)
