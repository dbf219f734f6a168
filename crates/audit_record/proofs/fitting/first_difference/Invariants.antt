use Rattle.std.proofs.Common.{◌≡◌, ◌≤◌, length, take}
use Rattle.audit_record.proofs.fitting.first_difference.Given as goal

abbrev pub invariant-loop-place : goal.invariant-loop-place
invariant-loop-place l = record { same : take l.place l.lefts ≡ take l.place l.rights; within : l.place ≤ length l.rights }
