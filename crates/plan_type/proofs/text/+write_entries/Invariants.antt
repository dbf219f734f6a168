use Rattle.std.proofs.Common.{◌≡◌, ◌++◌, take}
use Rattle.std.specs.List.{flat_map}
use Rattle.plan_type.proofs.Lines.{rest_lines}
use Rattle.plan_type.proofs.text.+write_entries.Given as goal

abbrev pub decreases-write_entries : goal.decreases-write_entries
decreases-write_entries l = goal.size-write_entries l

abbrev pub invariant-loop-entry : goal.invariant-loop-entry
invariant-loop-entry l = l.text ≡ l.fn.text ++ flat_map (rest_lines l.depth) (take l.entry-index l.entry-items)
