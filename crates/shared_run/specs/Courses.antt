-- How a run of versions goes, and why it stops.
use Rattle.std.specs.Prelude.{◌≡◌, ◌⊎◌, ◌<◌, ◌≤◌, ℕ, List, [], ◌∷◌, ◌++◌, length, Result, Ok, Err}
use Rattle.plan_type.specs.declared.budget.Budget.{Budget}
use Rattle.plan_type.specs.declared.costs.Costs.{Costs}
use Rattle.plan_type.specs.declared.plan.Plan.{Plan}
use Rattle.plan_type.specs.declared.operations.Operation.TheVariants.{Compute, Restore}
use Rattle.plan_type.specs.Operations.{Ops, operations_of}
use Rattle.plan_type.specs.Prices.{IsLeast}
use Rattle.exec_tree.specs.declared.checked.Checked.{Checked}
use Rattle.exec_tree.specs.Prefixes.{prefixes}
use Rattle.audit_run.specs.Rows.{AreRows}
use Rattle.shared_run.specs.declared.fault.RunFault.{RunFault}
use Rattle.shared_run.specs.declared.fault.RunFault.TheVariants as fault
use Rattle.shared_run.specs.declared.running.Shared.{Shared}

-- a least plan for the versions' rows, of whose operations the first were carried out, and the rest were not
pub record IsBegun (versions : List Checked) (budget : Budget) (allowance : ℕ) (plan : Plan) (done rest : Ops) : Type 0 where
  pub costs : Costs
  pub rows : AreRows versions allowance costs.rows
  pub least : IsLeast costs budget plan
  pub course : operations_of costs budget plan ≡ done ++ rest

-- nothing was carried out, or a part of a plan
abbrev pub IsPart : List Checked → Budget → ℕ → Ops → Type 0
IsPart versions budget allowance done = (done ≡ []) ⊎ ((plan : Plan) × (rest : Ops) × IsBegun versions budget allowance plan done rest)

-- what was carried out where a run stopped: a difference comes at a computing of its node, and damage at a restoring
abbrev pub IsCut : List Checked → Budget → ℕ → RunFault → Ops → Type 0
IsCut versions budget allowance (fault.TooManyNodes count) done = done ≡ []
IsCut versions budget allowance fault.KernelFailed done = IsPart versions budget allowance done
IsCut versions budget allowance fault.StoreFailed done = IsPart versions budget allowance done
IsCut versions budget allowance (fault.Damaged v) done = (plan : Plan) × (more : Ops) × IsBegun versions budget allowance plan done (Restore v ∷ more)
IsCut versions budget allowance (fault.Differs plan v difference) done = (n : ℕ) × (more : Ops) × IsBegun versions budget allowance plan done (Compute v n ∷ more)
IsCut versions budget allowance fault.NoMemory done = IsPart versions budget allowance done

-- what was carried out: the whole plan, or what comes before the operation at which the run stopped
abbrev pub IsCourse : List Checked → Budget → ℕ → Result Shared RunFault → Ops → Type 0
IsCourse versions budget allowance (Ok shared) done = done ≡ operations_of shared.costs budget shared.plan
IsCourse versions budget allowance (Err e) done = IsCut versions budget allowance e done

-- why a run stops: what holds where the kernel failed, where the store failed, and where the store's bytes are not told; want of
-- memory is free
abbrev pub EndsSo : List Checked → Type 0 → Type 0 → Type 0 → RunFault → Type 0
EndsSo versions kernel store silent (fault.TooManyNodes count) = (count ≡ length (prefixes versions)) × (512 < count)
EndsSo versions kernel store silent fault.KernelFailed = kernel × (length (prefixes versions) ≤ 512)
EndsSo versions kernel store silent fault.StoreFailed = store × (length (prefixes versions) ≤ 512)
EndsSo versions kernel store silent (fault.Damaged v) = silent × (length (prefixes versions) ≤ 512)
EndsSo versions kernel store silent (fault.Differs plan v difference) = silent × (length (prefixes versions) ≤ 512)
EndsSo versions kernel store silent fault.NoMemory = Unit {0}
