-- The table of least costs, by node, way and used blocks.
use Rattle.std.specs.Prelude.{ℕ, ◌≡◌, ◌≤◌, ◌<◌, ◌+◌, ◌-◌, ◌*◌, List, [], length, map, Option, Some, None, Bool, if◌then◌else◌}
use Rattle.std.specs.List.{slice_get, flat_map, range_with_len}
use Rattle.plan_type.specs.declared.budget.Budget.{Budget}
use Rattle.plan_type.specs.declared.costs.Costs.{Costs}
use Rattle.plan_type.specs.declared.offer.Offer.{Offer}
use Rattle.plan_type.specs.declared.offer.Fees.{Fees}
use Rattle.plan_type.specs.Budget.{IsBudget}
use Rattle.plan_type.specs.Costs.{tree_of}
use Rattle.plan_type.specs.Prices.{prices_of}
use Rattle.plan_type.specs.Choices.{Choice, can_hold}
use Rattle.plan_type.specs.Offers.{offer_at, fees_at}
use Rattle.plan_optimum.specs.declared.planner.Planner.{Planner}
use Rattle.plan_optimum.specs.declared.site.Site.{Site}
use Rattle.plan_optimum.specs.declared.site.Way.{Way}
use Rattle.plan_optimum.specs.declared.standing.Standing.{Standing}
use Rattle.plan_optimum.specs.Bounds.{bound, choice}
use Rattle.plan_optimum.specs.Sites.{site_at, way_at, AreSites}

-- the least cost of a node's subtree, which is no deeper than the nodes past it
unfoldable pub value_of : Costs → Budget → ℕ → Way → ℕ → ℕ
value_of costs budget u way used = bound (tree_of costs budget.block) (prices_of budget) budget.most (length costs.rows - u) u way.back way.again used

-- ---- the table

-- an entry for each number of used blocks up to the most
unfoldable pub column_of : Costs → Budget → ℕ → Way → List ℕ
column_of costs budget u way = map (value_of costs budget u way) (range_with_len 0 (budget.most + 1))

-- a column for each way
abbrev pub row_of : Costs → Budget → ℕ → List Way → List ℕ
row_of costs budget u ways = flat_map (column_of costs budget u) ways

abbrev pub row_in : Option (List ℕ) → List ℕ
row_in None = []
row_in (Some row) = row

abbrev pub number_in : Option ℕ → ℕ
number_in None = 0
number_in (Some n) = n

-- the rows stand in falling order of nodes
abbrev pub row_at : Costs → List (List ℕ) → ℕ → List ℕ
row_at costs table u = row_in (slice_get table (length costs.rows - u))

abbrev pub entry_at : Costs → Planner → Standing → ℕ
entry_at costs p s = number_in (slice_get (row_at costs p.table s.node) (s.level * (p.budget.most + 1) + s.used))

-- the table has the rows of the nodes from one on
abbrev pub IsTable : Costs → Budget → List Site → ℕ → List (List ℕ) → Type 0
IsTable costs budget sites from table = (u : ℕ) → from ≤ u → u ≤ length costs.rows → row_at costs table u ≡ row_of costs budget u (site_at sites u).ways

-- the planner knows all sites, and its table has the rows of the nodes from one on
pub record IsReady (costs : Costs) (from : ℕ) (p : Planner) : Type 0 where
  pub budget : IsBudget p.budget
  pub sites : AreSites costs p.budget (length costs.rows + 1) p.sites
  pub table : IsTable costs p.budget p.sites from p.table

-- ---- standings

-- a node of the tree, one of its ways, and no more blocks than there may be
pub record IsStanding (costs : Costs) (p : Planner) (s : Standing) : Type 0 where
  pub node : s.node ≤ length costs.rows
  pub level : s.level < length (site_at p.sites s.node).ways
  pub used : s.used ≤ p.budget.most

-- where a child stands, for whether its parent is held for it
abbrev pub under : Planner → Standing → ℕ → Bool → Standing
under p s child hold = record {
  node = child;
  level = if hold then length (site_at p.sites s.node).ways else s.level;
  used = if hold then s.used + (site_at p.sites s.node).blocks else s.used;
}

abbrev pub standing_way : Planner → Standing → Way
standing_way p s = way_at p.sites s.node s.level

-- the least cost of the subtree that stands there
abbrev pub value_at : Costs → Planner → Standing → ℕ
value_at costs p s = value_of costs p.budget s.node (standing_way p s) s.used

-- what a child costs there, its subtree included
abbrev pub choice_at : Costs → Planner → Standing → Choice
choice_at costs p s = choice (tree_of costs p.budget.block) (prices_of p.budget) p.budget.most (length costs.rows - s.node - 1) s.node (standing_way p s).back (standing_way p s).again s.used

abbrev pub may_hold : Costs → Planner → Standing → Bool
may_hold costs p s = can_hold (tree_of costs p.budget.block) p.budget.most s.node s.used

abbrev pub offer_of : Costs → Planner → Standing → ℕ → Offer
offer_of costs p s v = offer_at (choice_at costs p s) (may_hold costs p s) v

abbrev pub fees_of : Costs → Planner → Standing → Fees
fees_of costs p s = fees_at (choice_at costs p s) (may_hold costs p s)
