-- The rows of the nodes of versions.
use Rattle.std.specs.Prelude.{◌≡◌, ℕ, Bool, true, false, List, filter, replicate, length, Option, Some, None}
use Rattle.std.specs.List.{AllZip, range_with_len}
use Rattle.star_syntax.specs.Cells.{numbered}
use Rattle.plan_type.specs.declared.row.Row.{Row}
use Rattle.plan_type.specs.declared.row.Reach.{Reach}
use Rattle.plan_type.specs.declared.row.Reach.TheVariants as reach
use Rattle.node_rows.specs.Rows.{HasResult}
use Rattle.exec_tree.specs.declared.checked.Checked.{Checked}
use Rattle.exec_tree.specs.Prefixes.{Prefix, number_of, prefixes}
use Rattle.audit_run.specs.Visits.{Visit, visits}

-- ---- rows

-- the row of a node that no version comes to
abbrev pub no_row : ℕ → Row
no_row parent = record { parent = parent; end = reach.Unreached; steps = 0; bytes = 0; text = replicate 32 0 }

-- the row of a node
pub record IsRow (all : List Prefix) (visit : Visit) (row : Row) : Type 0 where
  pub parent : row.parent ≡ number_of all visit.prefix.above
  pub result : HasResult visit.number visit.ran visit.state row

-- the rows of all nodes of the versions' tree, each by the first version through its node
abbrev pub AreRows : List Checked → ℕ → List Row → Type 0
AreRows versions allowance rows = AllZip (IsRow (prefixes versions)) (visits versions allowance) rows

-- ---- nodes that ran to their end, and nodes that failed

abbrev pub is_done : Reach → Bool
is_done reach.Done = true
is_done reach.Failed = false
is_done reach.Unreached = false

abbrev pub is_failed : Reach → Bool
is_failed reach.Done = false
is_failed reach.Failed = true
is_failed reach.Unreached = false

abbrev pub has_failed : Option Row → Bool
has_failed None = false
has_failed (Some row) = is_failed row.end

-- their numbers, rising
abbrev pub failed_nodes : List Row → List ℕ
failed_nodes rows = filter (λ n. has_failed (numbered rows n)) (range_with_len 1 (length rows))
