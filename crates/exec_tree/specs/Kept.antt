-- What a forest keeps beside its parts.
use Rattle.std.specs.Prelude.{ℕ, ◌≡◌, ◌<◌, ◌≤◌, ◌+◌, Bool, List, [], map, length, fold, get_or, set, All}
use Rattle.std.specs.List.{range_with_len}
use Rattle.exec_tree.specs.Forests.{parents_of, children_in, children_of}
use Rattle.exec_tree.specs.declared.node.Node.{Node}

-- nodes stand after their parents, each number from 0 on has its children, and ends are nodes or 0
pub record AreLinked (nodes : List Node) (children : List (List ℕ)) (ends : List ℕ) : Type 0 where
  pub low : (k : ℕ) → k < length nodes → get_or (parents_of nodes) k 0 ≤ k
  pub children_are : children ≡ map (children_in (parents_of nodes)) (range_with_len 0 (length nodes + 1))
  pub within : All (λ end. end ≤ length nodes) ends

-- the same in a forest that may be cut, which has a mark for each node and at most 512 nodes
pub record IsKept (nodes : List Node) (children : List (List ℕ)) (cut : List Bool) (ends : List ℕ) : Type 0 where
  pub low : (k : ℕ) → k < length nodes → get_or (parents_of nodes) k 0 ≤ k
  pub children_are : children ≡ map (children_of (record { nodes = nodes; cut = cut; ends = ends })) (range_with_len 0 (length nodes + 1))
  pub within : All (λ end. end ≤ length nodes) ends
  pub marks : length cut ≡ length nodes
  pub few : length nodes ≤ 512

-- lists of children, with none at these numbers
unfoldable pub cleared : List ℕ → List (List ℕ) → List (List ℕ)
cleared failed children = fold (λ all n. set all n []) children failed
