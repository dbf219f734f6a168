-- The costs of a tree of versions, and the texts of its nodes.
use Rattle.std.specs.Prelude.{◌≡◌, ◌≤◌, ◌↔◌, ℕ, false, List, [], length, Option, Some}
use Rattle.star_syntax.specs.Cells.{numbered}
use Rattle.exec_tree.specs.Forests.{ForestParts, IsNode, is_removed}
use Rattle.exec_tree.specs.Forests as tree
use Rattle.plan_type.specs.declared.costs.Costs.{Costs}
use Rattle.plan_type.specs.declared.row.Row.{Row}
use Rattle.plan_type.specs.declared.row.Reach.TheVariants.{Done}
use Rattle.plan_type.specs.Costs.{IsReached, is_reached_in, parent_of, row_of}
use Rattle.node_rows.specs.Rows.{HasResult}
use Rattle.replayer.specs.Nodes.{depth_at, result_at, state_at, text_at}

-- the reached nodes of the costs, with their parents, are exactly the nodes of the forest that were not removed
pub record IsTreeOf (costs : Costs) (forest : ForestParts) : Type 0 where
  pub nodes : (v : ℕ) → (IsReached costs v ↔ (IsNode forest v × (is_removed forest v ≡ false)))
  pub parents : (v : ℕ) → IsReached costs v → parent_of costs v ≡ Some (tree.parent_of forest v)

-- a row says what its node does
abbrev pub IsRowAt : ForestParts → ℕ → ℕ → Row → Type 0
IsRowAt forest allowance v row = HasResult (depth_at forest v) (Some (result_at forest allowance v)) (state_at forest allowance v) row

-- the recorded row of a node says what the node does
abbrev pub IsRecorded : ForestParts → Costs → ℕ → ℕ → Type 0
IsRecorded forest costs allowance v = (row : Row) → row_of costs v ≡ Some row → IsRowAt forest allowance v row

-- all recorded rows say what their nodes do
abbrev pub AreRecorded : ForestParts → Costs → ℕ → Type 0
AreRecorded forest costs allowance = (v : ℕ) → IsReached costs v → IsRecorded forest costs allowance v

-- a node whose cell ran to its end, by its row
abbrev pub IsDone : Costs → ℕ → Type 0
IsDone costs v = (row : Row) × (row_of costs v ≡ Some row) × (row.end ≡ Done)

-- The text of node n stands at place n - 1, for each row of the costs. It is that of the node where that is reached, and else
-- empty.
pub record AreTexts (forest : ForestParts) (costs : Costs) (allowance : ℕ) (texts : List (List ℕ)) : Type 0 where
  pub many : length texts ≡ length costs.rows
  pub reached : (v : ℕ) → IsReached costs v → numbered texts v ≡ Some (text_at forest allowance v)
  pub others : (v : ℕ) → 1 ≤ v → v ≤ length costs.rows → is_reached_in (row_of costs v) ≡ false → numbered texts v ≡ Some []
