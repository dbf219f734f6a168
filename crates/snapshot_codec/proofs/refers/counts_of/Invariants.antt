use Rattle.std.proofs.Common.{◌≡◌, ◌++◌, drop}
use Rattle.snapshot_codec.proofs.DefinedLaws.{counted_in}
use Rattle.snapshot_codec.proofs.refers.counts_of.Given as goal

-- what is counted, and the counts of what is left, are the counts of all
abbrev pub invariant-loop-statement : goal.invariant-loop-statement
invariant-loop-statement l = l.counts.items ++ counted_in (drop l.statement-index l.statements) ≡ counted_in l.statements
