-- What versions print, put together from the texts of nodes.
use Rattle.std.specs.Prelude.{ℕ, ◌≤◌, All, List, [], map, reverse, flat_map}
use Rattle.std.specs.Option.{unwrap_or}
use Rattle.star_syntax.specs.Cells.{numbered}
use Rattle.star_meaning.specs.Cells.{text}
use Rattle.exec_tree.specs.declared.checked.Checked.{Checked}
use Rattle.exec_tree.specs.Forests.{path}

-- the text of a node; a number that is none has an empty one
abbrev pub text_in : List (List ℕ) → ℕ → List ℕ
text_in texts n = unwrap_or (numbered texts n) []

-- what is written of these nodes, one after another
abbrev pub written : List (List ℕ) → List ℕ → List ℕ
written texts nodes = flat_map (text_in texts) nodes

-- the nodes from the top down to this one
abbrev pub way_to : List ℕ → ℕ → List ℕ
way_to parents node = reverse (path parents node)

-- each way has nodes that have texts
abbrev pub AreWays : ℕ → List (List ℕ) → Type 0
AreWays many ways = All (All (λ n. (1 ≤ n) × (n ≤ many))) ways

-- what each version prints by itself, from the state in which nothing has run
abbrev pub texts_alone : List Checked → ℕ → List (List ℕ)
texts_alone versions allowance = map (λ version. text version.cells version.inputs allowance) versions
