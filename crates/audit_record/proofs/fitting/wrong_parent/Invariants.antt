use Rattle.std.proofs.Common.{◌≡◌, ◌≤◌, ℕ, Some}
use Rattle.plan_type.specs.Costs.{row_of}
use Rattle.plan_type.specs.declared.row.Row.{Row}
use Rattle.exec_tree.specs.Forests.{parent_of}
use Rattle.audit_record.proofs.fitting.wrong_parent.Given as goal

abbrev pub invariant-loop-place : goal.invariant-loop-place
invariant-loop-place l = (v : ℕ) (row : Row) → v ≤ l.place → row_of l.costs v ≡ Some row → row.parent ≡ parent_of l.forest v
