-- What a list of operations prints, and the first node of it whose row differs.
use Rattle.std.specs.Prelude.{◌≡◌, ℕ, List, [], ◌∷◌, ◌++◌, ◌≤◌, length, true, false, Option, Some}
use Rattle.star_syntax.specs.Cells.{numbered}
use Rattle.exec_tree.specs.Forests.{ForestParts}
use Rattle.plan_type.specs.declared.costs.Costs.{Costs}
use Rattle.plan_type.specs.declared.operations.Operation.TheVariants.{Compute}
use Rattle.plan_type.specs.Operations.{Ops, computes}
use Rattle.replayer.specs.declared.difference.Difference.{Difference}
use Rattle.replayer.specs.Nodes.{text_at}
use Rattle.replayer.specs.Trees.{IsRecorded, IsRowAt}
use Rattle.replayer.specs.Machines.{DiffersBy}

-- the nodes that were computed have their texts and are as recorded; the others have none
pub record Printed (forest : ForestParts) (costs : Costs) (allowance : ℕ) (done : Ops) (texts : List (List ℕ)) : Type 0 where
  pub computed : (v : ℕ) → computes done v ≡ true → (numbered texts v ≡ Some (text_at forest allowance v)) × IsRecorded forest costs allowance v
  pub others : (v : ℕ) → 1 ≤ v → v ≤ length costs.rows → computes done v ≡ false → numbered texts v ≡ Some []

-- The recorded row of a node is not the measured one, in this first field, where the operations come to compute it. Over a store
-- that tells its bytes the measured row is that of the node, and the rows of all nodes computed before say what these do.
pub record IsFirstToDiffer (forest : ForestParts) (costs : Costs) (allowance : ℕ) (told : Option (List (ℕ × List ℕ))) (os : Ops) (v : ℕ) (difference : Difference) : Type 0 where
  pub done : Ops
  pub steps : ℕ
  pub rest : Ops
  pub here : os ≡ done ++ Compute v steps ∷ rest
  pub before : (files : List (ℕ × List ℕ)) → told ≡ Some files → (w : ℕ) → computes done w ≡ true → IsRecorded forest costs allowance w
  pub differs : DiffersBy costs v difference (λ row. (files : List (ℕ × List ℕ)) → told ≡ Some files → IsRowAt forest allowance v row)
