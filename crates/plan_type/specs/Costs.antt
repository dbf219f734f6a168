-- The nodes of the merged tree: their rows, the tree that plans are made over, and what makes rows sound.
use Rattle.std.specs.Prelude.{ℕ, zero, suc, ◌≡◌, ◌<◌, ◌≤◌, List, [], ◌∷◌, length, replicate, Bool, true, false, ◌&&◌, ◌==◌, Option, Some, None}
use Rattle.std.specs.List.{filter, range_with_len, slice_get}
use Rattle.std.specs.Int.{div_ceil}
use Rattle.plan_type.specs.declared.costs.Costs.{Costs}
use Rattle.plan_type.specs.declared.row.Row.{Row}
use Rattle.plan_type.specs.declared.row.Reach.{Reach}
use Rattle.plan_type.specs.declared.row.Reach.TheVariants.{Done, Failed, Unreached}

-- ---- rows

-- row i is node i + 1; number 0 has no row
abbrev pub row_of : Costs → ℕ → Option Row
row_of costs zero = None
row_of costs (suc i) = slice_get costs.rows i

abbrev pub parent_in : Option Row → Option ℕ
parent_in None = None
parent_in (Some row) = Some row.parent

abbrev pub steps_in : Option Row → ℕ
steps_in None = 0
steps_in (Some row) = row.steps

abbrev pub bytes_in : Option Row → ℕ
bytes_in None = 0
bytes_in (Some row) = row.bytes

abbrev pub parent_of : Costs → ℕ → Option ℕ
parent_of costs v = parent_in (row_of costs v)

abbrev pub steps_of : Costs → ℕ → ℕ
steps_of costs v = steps_in (row_of costs v)

-- the blocks of a snapshot: its bytes in blocks, rounded up
abbrev pub blocks_of : Costs → ℕ → ℕ → ℕ
blocks_of costs block v = div_ceil (bytes_in (row_of costs v)) block

-- ---- the tree of reached nodes

abbrev pub is_reached : Reach → Bool
is_reached Done = true
is_reached Failed = true
is_reached Unreached = false

abbrev pub is_reached_in : Option Row → Bool
is_reached_in None = false
is_reached_in (Some row) = is_reached row.end

-- a node with a row whose end is not `Unreached`
abbrev pub IsReached : Costs → ℕ → Type 0
IsReached costs v = is_reached_in (row_of costs v) ≡ true

abbrev pub is_child_in : ℕ → Option Row → Bool
is_child_in u None = false
is_child_in u (Some row) = (row.parent == u) && is_reached row.end

-- the reached children of a node, in rising order
abbrev pub children_of : Costs → ℕ → List ℕ
children_of costs u = filter (λ v. is_child_in u (row_of costs v)) (range_with_len 1 (length costs.rows))

-- nodes are numbers; a node's parent if it has one, its reached children, its steps, and the blocks of its snapshot
pub record Tree : Type 0 where
  pub parent : ℕ → Option ℕ
  pub children : ℕ → List ℕ
  pub steps : ℕ → ℕ
  pub blocks : ℕ → ℕ

unfoldable pub tree_of : Costs → ℕ → Tree
tree_of costs block = record {
  parent = parent_of costs;
  children = children_of costs;
  steps = steps_of costs;
  blocks = blocks_of costs block;
}

-- ---- soundness

-- from a node up to 0 by parents, through these nodes; so the path of the node has as many nodes
abbrev pub Climbs : Costs → ℕ → List ℕ → Type 0
Climbs costs v [] = v ≡ 0
Climbs costs v (u ∷ us) = (parent_of costs v ≡ Some u) × Climbs costs u us

abbrev pub is_unreached : Reach → Bool
is_unreached Done = false
is_unreached Failed = false
is_unreached Unreached = true

-- whether no child of a node is reached; number 0 has no row, and its children are reached
abbrev pub is_dead_end : Option Row → Bool
is_dead_end None = false
is_dead_end (Some row) = stops row.end
  where
    stops : Reach → Bool
    stops Done = false
    stops Failed = true
    stops Unreached = true

-- what a row's end says of its numbers
abbrev pub NumbersFit : Reach → Row → Type 0
NumbersFit Done row = (1 ≤ row.steps) × (row.steps ≤ 1000000)
NumbersFit Failed row = (1 ≤ row.steps) × (row.steps ≤ 1000000) × (row.bytes ≡ 0)
NumbersFit Unreached row = (row.steps ≡ 0) × (row.bytes ≡ 0) × (row.text ≡ replicate 32 0)

-- the row of a node: its parent is below it, it is unreached exactly where its parent is failed or unreached, and its numbers accord with its end
pub record IsSoundRow (costs : Costs) (v : ℕ) (row : Row) : Type 0 where
  pub parent : row.parent < v
  pub unreached : is_unreached row.end ≡ is_dead_end (row_of costs row.parent)
  pub numbers_fit : NumbersFit row.end row

-- at most 512 rows, each of them sound, and no path longer than 64
pub record IsSound (costs : Costs) : Type 0 where
  pub few : length costs.rows ≤ 512
  pub rows : (v : ℕ) (row : Row) → row_of costs v ≡ Some row → IsSoundRow costs v row
  pub paths : (v : ℕ) (us : List ℕ) → Climbs costs v us → length us ≤ 64
