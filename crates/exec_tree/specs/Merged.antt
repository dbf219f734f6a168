-- What merging gives, and why it is refused.
use Rattle.std.specs.Prelude.{ℕ, ◌≡◌, ◌<◌, ◌≤◌, List, length}
use Rattle.exec_tree.specs.Prefixes.{prefixes}
use Rattle.exec_tree.specs.Forests.{forest_of}
use Rattle.exec_tree.specs.Kept.{AreLinked}
use Rattle.exec_tree.specs.declared.checked.Checked.{Checked}
use Rattle.exec_tree.specs.declared.node.Node.{Node}
use Rattle.exec_tree.specs.declared.fault.TreeFault.{TreeFault}
use Rattle.exec_tree.specs.declared.fault.TreeFault.TheVariants.{TooManyNodes, NoMemory}

-- the nodes of versions with their links, however many they are
pub record AreMerged (versions : List Checked) (nodes : List Node) (children : List (List ℕ)) (ends : List ℕ) : Type 0 where
  pub nodes_are : nodes ≡ (forest_of versions).nodes
  pub ends_are : ends ≡ (forest_of versions).ends
  pub linked : AreLinked nodes children ends
  pub counted : length nodes ≡ length (prefixes versions)
  pub few : length nodes ≤ 4096

-- too many nodes are more than 512, and as many as there are distinct prefixes
abbrev pub IsFaultOf : List Checked → TreeFault → Type 0
IsFaultOf versions (TooManyNodes count) = (count ≡ length (prefixes versions)) × (512 < count)
IsFaultOf versions NoMemory = Unit {0}
