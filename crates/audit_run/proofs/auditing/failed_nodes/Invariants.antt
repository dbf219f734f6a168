use Rattle.std.proofs.Common.{◌≡◌}
use Rattle.std.specs.List.{filter, range_with_len}
use Rattle.star_syntax.specs.Cells.{numbered}
use Rattle.audit_run.specs.Rows.{has_failed}
use Rattle.audit_run.proofs.auditing.failed_nodes.Given as goal

abbrev pub invariant-loop-place : goal.invariant-loop-place
invariant-loop-place l = l.nodes.items ≡ filter (λ n. has_failed (numbered l.rows n)) (range_with_len 1 l.place)
