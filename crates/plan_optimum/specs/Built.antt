-- A plan that is built for a node, and its entries.
use Rattle.std.specs.Prelude.{◌≡◌, ◌≤◌, true, Some}
use Rattle.plan_type.specs.declared.costs.Costs.{Costs}
use Rattle.plan_type.specs.declared.plan.Plan.{Plan}
use Rattle.plan_type.specs.declared.plan.Entry.{Entry}
use Rattle.plan_type.specs.Costs.{tree_of, children_of, blocks_of, parent_of}
use Rattle.plan_type.specs.Plan.{IsPlanOf, HoldsNone, entries_of, peak_at}
use Rattle.plan_type.specs.Prices.{prices_of, cost_at}
use Rattle.plan_optimum.specs.declared.planner.Planner.{Planner}
use Rattle.plan_optimum.specs.declared.standing.Standing.{Standing}
use Rattle.plan_optimum.specs.Chosen.{Pick, pick_of}
use Rattle.plan_optimum.specs.Entries.{under, standing_way, value_at, may_hold}

-- a plan of the node of the class that fits beside what is used, at the least cost; number 0 is not held
pub record IsBuilt (costs : Costs) (p : Planner) (s : Standing) (plan : Plan) : Type 0 where
  pub orders : IsPlanOf (children_of costs) s.node plan
  pub fits : peak_at (blocks_of costs p.budget.block) plan s.node s.used ≤ p.budget.most
  pub cost : cost_at (tree_of costs p.budget.block) (prices_of p.budget) plan s.node (standing_way p s).back (standing_way p s).again ≡ value_at costs p s
  pub root : s.node ≡ 0 → HoldsNone (entries_of plan)

-- an entry there: its rest is built where its child stands, and it holds only where that may be
pub record IsEntry (costs : Costs) (p : Planner) (s : Standing) (e : Entry Plan) : Type 0 where
  pub child : parent_of costs e.child ≡ Some s.node
  pub may : e.hold ≡ true → may_hold costs p s ≡ true
  pub rest : IsBuilt costs p (under p s e.child e.hold) e.rest

-- an entry without its rest
abbrev pub bare : Entry Plan → Pick
bare e = pick_of e.child e.hold
