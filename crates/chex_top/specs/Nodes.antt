-- The tree of the versions' equal beginnings, and how many nodes it may have.
use Rattle.std.specs.Prelude.{◌≡◌, ◌<◌, ◌≤◌, List, length, Ok, Err}
use Rattle.exec_tree.specs.declared.checked.Checked.{Checked}
use Rattle.exec_tree.specs.Prefixes.{prefixes}
use Rattle.exec_tree.specs.Forests.{ForestParts, forest_of}
use Rattle.chex_top.specs.declared.refusal.Refusal.{Refusal}
use Rattle.chex_top.specs.declared.refusal.Refusal.TheVariants as refusal
use Rattle.chex_top.specs.Stages.{Stage}

-- the refusal of more than 512 distinct beginnings, which tells how many there are, or want of memory
abbrev pub IsNodesRefusal : List Checked → Refusal → Type 0
IsNodesRefusal versions (refusal.TooManyNodes count) = (count ≡ length (prefixes versions)) × (512 < count)
IsNodesRefusal versions refusal.NoMemory = Unit {0}
IsNodesRefusal versions refusal.Usage = ⊥
IsNodesRefusal versions (refusal.Absent file) = ⊥
IsNodesRefusal versions (refusal.ReadFailed file) = ⊥
IsNodesRefusal versions (refusal.BadFile file fault) = ⊥
IsNodesRefusal versions (refusal.BadCell bad) = ⊥
IsNodesRefusal versions (refusal.TooManyBlocks count) = ⊥

-- the tree, which has a node for each distinct beginning of the versions and at most 512 of them, or its refusal
abbrev pub nodes : List Checked → Stage ForestParts
nodes versions (Ok forest) = (forest ≡ forest_of versions) × (length (prefixes versions) ≤ 512)
nodes versions (Err why) = IsNodesRefusal versions why
