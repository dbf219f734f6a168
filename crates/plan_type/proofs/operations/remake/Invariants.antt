use Rattle.std.proofs.Common.{◌≡◌, ◌++◌, map, take}
use Rattle.plan_type.specs.declared.operations.Operation.TheVariants.{Compute}
use Rattle.plan_type.specs.Costs.{steps_of}
use Rattle.plan_type.proofs.operations.remake.Given as goal

abbrev pub invariant-loop-node : goal.invariant-loop-node
invariant-loop-node l = l.operations ≡ l.initial.operations ++ map (λ v. Compute v (steps_of l.costs v)) (take l.node-index l.way)
