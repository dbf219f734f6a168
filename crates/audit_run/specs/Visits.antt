-- What versions do, each run alone, in the numbers of the tree of equal beginnings.
use Rattle.std.specs.Prelude.{ℕ, ◌+◌, Bool, List, map, flat_map, fold, take, sum, Option, slice_get}
use Rattle.std.specs.List.{enumerate_from}
use Rattle.star_syntax.specs.CellParts.{CellParts}
use Rattle.star_syntax.specs.declared.cell.Program.{Program}
use Rattle.star_meaning.specs.declared.ran.Ran.{Ran}
use Rattle.star_meaning.specs.Cells.{runs, steps}
use Rattle.star_meaning.specs.Validity.{MachineState, after, nothing_ran}
use Rattle.exec_tree.specs.declared.checked.Checked.{Checked}
use Rattle.exec_tree.specs.Keys.{InputMap}
use Rattle.exec_tree.specs.Prefixes.{Prefix, firsts, keys, number_of, prefixes, prefixes_of, same_prefix}
use Rattle.exec_tree.specs.Forests.{ForestParts, cells_of, forest_of}

-- the cells of all nodes of the versions' tree
abbrev pub program_of : List Checked → Program
program_of versions = record { cells = cells_of (forest_of versions) }

-- the nodes of a version's cells, in order
abbrev pub nodes_of : List Prefix → Checked → List ℕ
nodes_of all version = map (λ p. number_of all (keys p)) (prefixes_of version)

-- the machine state after the cells of these nodes, from the one in which nothing has run
abbrev pub state_after : Program → InputMap → ℕ → List ℕ → MachineState
state_after program inputs allowance nodes = fold (λ m node. after program m node inputs allowance) nothing_ran nodes

-- A cell of a version that is run alone: its number in the version, counted from 1, and the beginning that ends with it; what it
-- did, where the version came to it; and the machine state after it.
pub record Visit : Type 0 where
  pub number : ℕ
  pub prefix : Prefix
  pub ran : Option Ran
  pub state : MachineState

abbrev pub visit_at : List Checked → ℕ → Checked → ℕ × Prefix → Visit
visit_at versions allowance version placed = record {
  number = placed.0 + 1;
  prefix = placed.1;
  ran = slice_get (runs version.cells version.inputs allowance) placed.0;
  state = state_after (program_of versions) version.inputs allowance (take (placed.0 + 1) (nodes_of (prefixes versions) version));
}

-- the cells of a version, in order
abbrev pub visits_of : List Checked → ℕ → Checked → List Visit
visits_of versions allowance version = map (visit_at versions allowance version) (enumerate_from 0 (prefixes_of version))

-- cells with the same beginning stand at one node
abbrev pub same_node : Visit → Visit → Bool
same_node v w = same_prefix v.prefix w.prefix

-- for each node in order, the first version's cell that stands there
abbrev pub visits : List Checked → ℕ → List Visit
visits versions allowance = firsts same_node (flat_map (visits_of versions allowance) versions)

-- the steps of all versions, each alone
abbrev pub steps_of_all : List Checked → ℕ → ℕ
steps_of_all versions allowance = sum (map (λ version. steps version.cells version.inputs allowance) versions)
