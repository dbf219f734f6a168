-- The limits of a budget.
use Rattle.std.specs.Prelude.{◌≤◌}
use Rattle.plan_type.specs.declared.budget.Budget.{Budget}

-- a block has 256 to 1,048,576 bytes, at most 1,024 of them are held, and a price is at most 1,000,000 steps for a block
pub record IsBudget (budget : Budget) : Type 0 where
  pub small : 256 ≤ budget.block
  pub large : budget.block ≤ 1048576
  pub few : budget.most ≤ 1024
  pub save : budget.save ≤ 1000000
  pub load : budget.load ≤ 1000000
