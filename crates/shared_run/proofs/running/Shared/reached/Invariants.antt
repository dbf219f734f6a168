use Rattle.std.proofs.Common.{◌≡◌, ◌≤◌, take}
use Rattle.std.specs.List.{count_by}
use Rattle.plan_type.specs.Costs.{is_reached}
use Rattle.shared_run.proofs.running.Shared.reached.Given as goal

abbrev pub invariant-loop-row : goal.invariant-loop-row
invariant-loop-row l = record {
  counted : l.count ≡ count_by (λ row. is_reached row.end) (take l.row-index l.self.costs.rows);
  few : l.count ≤ l.row-index;
}
