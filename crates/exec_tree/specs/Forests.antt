-- The tree of equal beginnings: one node for each distinct prefix of the versions.
use Rattle.std.specs.Prelude.{ℕ, zero, suc, ◌≤◌, ◌-◌, ◌==◌, Bool, true, false, if◌then◌else◌, List, [], ◌∷◌, ◌++◌, map, length, filter, fold, find, get_or, set, replicate, unwrap_or, refl}
use Rattle.std.specs.List.{list_any, range_with_len}
use Rattle.std.specs.Coded.{Coded, code_by, coded×, coded_ℕ, coded_bool, coded_list}
use Rattle.star_syntax.specs.CellParts.{CellParts}
use Rattle.exec_tree.specs.Keys.{InputMap}
use Rattle.exec_tree.specs.Prefixes.{Prefix, keys_of, prefixes, number_of}
use Rattle.exec_tree.specs.declared.checked.Checked.{Checked}
use Rattle.exec_tree.specs.declared.node.Node.{Node}
use Rattle.exec_tree.specs.contracts.node.Node as node

-- Node n stands at place n - 1. Of each node it is kept whether the tree was cut there, and of each version its last node.
pub record ForestParts : Type 0 where
  pub nodes : List Node
  pub cut : List Bool
  pub ends : List ℕ

-- a forest is stored as the tuple of its parts
abbrev pub forest_code : Coded ForestParts
forest_code = code_by (List Node × (List Bool × List ℕ)) (coded× (coded_list node.the_row.coded) (coded× (coded_list coded_bool) (coded_list coded_ℕ))) (λ f. (f.nodes, (f.cut, f.ends))) (λ t. record { nodes = t.0; cut = t.1.0; ends = t.1.1 }) (λ _. refl)

-- ---- what is merged

-- the node of a prefix: its parent is the prefix without the last key
abbrev pub node_of : List Prefix → Prefix → Node
node_of all p = record { parent = number_of all p.above; cell = p.cell; inputs = p.inputs }

-- the forest of versions: node n is the n-th distinct prefix, nothing is cut, and a version ends at the node of all its keys
unfoldable pub forest_of : List Checked → ForestParts
forest_of versions =
    let all = prefixes versions in
    record { nodes = map (node_of all) all; cut = replicate (length all) false; ends = map (λ version. number_of all (keys_of version)) versions }

-- ---- nodes and those above them

-- a number of a node
abbrev pub IsNode : ForestParts → ℕ → Type 0
IsNode forest n = (1 ≤ n) × (n ≤ length forest.nodes)

-- the parents of nodes, in order
abbrev pub parents_of : List Node → List ℕ
parents_of nodes = map (λ (node : Node). node.parent) nodes

abbrev pub parents : ForestParts → List ℕ
parents forest = parents_of forest.nodes

-- the parent of a node
abbrev pub parent_of : ForestParts → ℕ → ℕ
parent_of forest n = get_or (parents forest) (n - 1) 0

-- for each number from 0 on, that node and the nodes above it, the nearest first; above number 0 stands nothing
unfoldable pub paths : List ℕ → List (List ℕ)
paths parents = fold (λ made parent. made ++ (length made ∷ get_or made parent []) ∷ []) ([] ∷ []) parents

abbrev pub path : List ℕ → ℕ → List ℕ
path parents n = get_or (paths parents) n []

-- ---- cutting

-- whether the tree was cut at a node
abbrev pub is_cut : ForestParts → ℕ → Bool
is_cut forest zero = false
is_cut forest (suc i) = get_or forest.cut i false

-- whether a node was removed: the tree was cut at a node above it
unfoldable pub is_removed : ForestParts → ℕ → Bool
is_removed forest n = list_any (is_cut forest) (path (parents forest) (parent_of forest n))

-- the numbers of the nodes with this parent, rising
abbrev pub children_in : List ℕ → ℕ → List ℕ
children_in parents n = filter (λ m. get_or parents (m - 1) 0 == n) (range_with_len 1 (length parents))

-- the children of a node that was not removed, or of number 0, rising: none where the tree was cut
unfoldable pub children_of : ForestParts → ℕ → List ℕ
children_of forest n = if is_cut forest n then [] else children_in (parents forest) n

-- whether a number is among these
abbrev pub is_among : List ℕ → ℕ → Bool
is_among numbers n = list_any (λ m. m == n) numbers

-- where a version that ended at this node ends when these nodes failed: at the failed one that is it or stands above it
unfoldable pub moved : List ℕ → List ℕ → ℕ → ℕ
moved parents failed end = unwrap_or (find (is_among failed) (path parents end)) end

-- the marks with those of these nodes set
unfoldable pub marked : List ℕ → List Bool → List Bool
marked failed marks = fold (λ all n. set all (n - 1) true) marks failed

-- the tree cut at these nodes: all that stands below one of them is removed, and each version that ended there ends at it
unfoldable pub cut : List ℕ → ForestParts → ForestParts
cut failed forest = record forest { cut = marked failed forest.cut; ends = map (moved (parents forest) failed) forest.ends }

-- the cells of all nodes, and the inputs of each
abbrev pub cells_of : ForestParts → List CellParts
cells_of forest = map (λ (node : Node). node.cell) forest.nodes

abbrev pub inputs_of : ForestParts → List InputMap
inputs_of forest = map (λ (node : Node). node.inputs) forest.nodes
