use Rattle.std.proofs.Common.{◌≡◌, take}
use Rattle.plan_optimum.specs.Sites.{site_at}
use Rattle.plan_optimum.specs.Entries.{row_of}
use Rattle.plan_optimum.proofs.planner.Planner.row.Given as goal

abbrev pub invariant-loop-level : goal.invariant-loop-level
invariant-loop-level l = l.row.items ≡ row_of l.costs l.self.budget l.node (take l.level (site_at l.self.sites l.node).ways)
