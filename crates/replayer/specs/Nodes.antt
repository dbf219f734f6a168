-- What the nodes of a tree of versions mean: each runs in the state of its parent, from the state in which nothing has run.
use Rattle.std.specs.Prelude.{ℕ, List, [], ◌∷◌, length, Option, Some, None}
use Rattle.star_syntax.specs.declared.cell.Program.{Program}
use Rattle.star_syntax.specs.Cells.{numbered}
use Rattle.star_meaning.specs.declared.ran.Ran.{Ran}
use Rattle.star_meaning.specs.Cells.{cell_text}
use Rattle.star_meaning.specs.Validity.{MachineState, after, nothing_ran, ran_at}
use Rattle.exec_tree.specs.Keys.{InputMap}
use Rattle.exec_tree.specs.Forests.{ForestParts, cells_of, inputs_of, parent_of, parents, path}

-- the cells of all nodes
abbrev pub program_of : ForestParts → Program
program_of forest = record { cells = cells_of forest }

abbrev pub inputs_or_none : Option InputMap → InputMap
inputs_or_none None = []
inputs_or_none (Some inputs) = inputs

-- the inputs of a node, which are those of the first version through it
abbrev pub inputs_at : ForestParts → ℕ → InputMap
inputs_at forest v = inputs_or_none (numbered (inputs_of forest) v)

-- how many cells stand on the path of a node, itself among them
unfoldable pub depth_at : ForestParts → ℕ → ℕ
depth_at forest v = length (path (parents forest) v)

-- the state after the cells of these nodes, of which the last stands first
abbrev pub state_over : ForestParts → ℕ → List ℕ → MachineState
state_over forest allowance [] = nothing_ran
state_over forest allowance (v ∷ above) = after (program_of forest) (state_over forest allowance above) v (inputs_at forest v) allowance

-- the state after a node
unfoldable pub state_at : ForestParts → ℕ → ℕ → MachineState
state_at forest allowance v = state_over forest allowance (path (parents forest) v)

-- what the cell of a node does, in the state after its parent
unfoldable pub result_at : ForestParts → ℕ → ℕ → Ran
result_at forest allowance v = ran_at (program_of forest) (state_at forest allowance (parent_of forest v)) v (inputs_at forest v) allowance

-- what a node prints: what its cell writes, and after a failure the line of the failure
abbrev pub text_at : ForestParts → ℕ → ℕ → List ℕ
text_at forest allowance v = cell_text (depth_at forest v) (result_at forest allowance v)
