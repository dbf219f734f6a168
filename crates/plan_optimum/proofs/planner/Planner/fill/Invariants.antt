use Rattle.std.proofs.Common.{◌≡◌, ◌+◌, ◌-◌, length}
use Rattle.plan_optimum.specs.Entries.{IsReady}
use Rattle.plan_optimum.proofs.planner.Planner.fill.Given as goal

abbrev pub invariant-loop-done : goal.invariant-loop-done
invariant-loop-done l = record {
  budget : l.self.budget ≡ l.initial.self.budget;
  count : length l.self.table ≡ l.done;
  ready : IsReady l.costs (length l.costs.rows + 1 - l.done) l.self;
}
