use Rattle.std.proofs.Common.{◌≡◌, take}
use Rattle.audit_record.specs.Digests.{digests}
use Rattle.audit_record.proofs.digesting.digests_of.Given as goal

abbrev pub invariant-loop-place : goal.invariant-loop-place
invariant-loop-place l = l.digests ≡ digests (take l.place l.forest.nodes)
