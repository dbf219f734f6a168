-- What is known of versions before anything is replayed.
use Rattle.std.specs.Prelude.{◌≡◌, ℕ, List}
use Rattle.plan_type.specs.declared.budget.Budget.{Budget}
use Rattle.plan_type.specs.Costs.{IsSound}
use Rattle.plan_type.specs.Prices.{IsLeast}
use Rattle.exec_tree.specs.declared.checked.Checked.{Checked}
use Rattle.audit_run.specs.Rows.{AreRows}
use Rattle.shared_run.specs.declared.planning.Planned.{Planned}
use Rattle.shared_run.specs.Trees.{tree_left}

-- the rows of the versions' nodes, which are sound; the tree as they leave it; and a least plan for them
pub record IsPlanned (versions : List Checked) (budget : Budget) (allowance : ℕ) (made : Planned) : Type 0 where
  pub rows : AreRows versions allowance made.costs.rows
  pub sound : IsSound made.costs
  pub left : made.forest ≡ tree_left versions made.costs.rows
  pub least : IsLeast made.costs budget made.plan
