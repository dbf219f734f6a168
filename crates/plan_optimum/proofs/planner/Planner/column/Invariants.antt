use Rattle.std.proofs.Common.{◌≡◌, ◌++◌, map}
use Rattle.std.specs.List.{range_with_len}
use Rattle.plan_optimum.specs.Sites.{way_at}
use Rattle.plan_optimum.specs.Entries.{value_of}
use Rattle.plan_optimum.proofs.planner.Planner.column.Given as goal

abbrev pub invariant-loop-used : goal.invariant-loop-used
invariant-loop-used l = l.row.items ≡ l.initial.row.items ++ map (value_of l.costs l.self.budget l.node (way_at l.self.sites l.node l.level)) (range_with_len 0 l.used)
