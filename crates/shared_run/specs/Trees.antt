-- Rows on the tree of versions.
use Rattle.std.specs.Prelude.{◌≡◌, ℕ, List, length, Some}
use Rattle.plan_type.specs.declared.costs.Costs.{Costs}
use Rattle.plan_type.specs.declared.row.Row.{Row}
use Rattle.plan_type.specs.Costs.{row_of}
use Rattle.exec_tree.specs.declared.checked.Checked.{Checked}
use Rattle.exec_tree.specs.Forests.{ForestParts, cut, forest_of, parent_of}
use Rattle.audit_run.specs.Rows.{failed_nodes}

-- the tree of versions as these rows leave it: cut at the nodes that failed
abbrev pub tree_left : List Checked → List Row → ForestParts
tree_left versions rows = cut (failed_nodes rows) (forest_of versions)

-- a row for each node of the versions' tree, with its parent
pub record FitTree (versions : List Checked) (costs : Costs) : Type 0 where
  pub many : length costs.rows ≡ length (forest_of versions).nodes
  pub parents : (v : ℕ) (row : Row) → row_of costs v ≡ Some row → row.parent ≡ parent_of (forest_of versions) v
