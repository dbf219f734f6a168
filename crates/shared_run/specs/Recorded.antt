-- Rows that were recorded of versions: where they are wrong, how a replay by them goes, and why it is refused.
use Rattle.std.specs.Prelude.{◌≡◌, ◌⊎◌, ℕ, List, [], ◌∷◌, ◌++◌, true, Option, Some, None, IsSome, Result, Ok, Err}
use Rattle.star_syntax.specs.Cells.{numbered}
use Rattle.plan_type.specs.declared.budget.Budget.{Budget}
use Rattle.plan_type.specs.declared.costs.Costs.{Costs}
use Rattle.plan_type.specs.declared.plan.Plan.{Plan}
use Rattle.plan_type.specs.declared.row.Row.{Row}
use Rattle.plan_type.specs.declared.operations.Operation.TheVariants.{Compute, Restore}
use Rattle.plan_type.specs.Costs.{row_of}
use Rattle.plan_type.specs.Operations.{Ops, computes, operations_of}
use Rattle.plan_type.specs.Prices.{IsLeast}
use Rattle.exec_tree.specs.declared.checked.Checked.{Checked}
use Rattle.exec_tree.specs.Prefixes.{prefixes}
use Rattle.audit_run.specs.Rows.{IsRow}
use Rattle.audit_run.specs.Visits.{Visit, visits}
use Rattle.replayer.specs.declared.difference.Difference.{Difference}
use Rattle.replayer.specs.Machines.{DiffersBy}
use Rattle.shared_run.specs.declared.fault.RunFault.{RunFault}
use Rattle.shared_run.specs.declared.fault.RunFault.TheVariants as fault
use Rattle.shared_run.specs.declared.running.Shared.{Shared}

-- ---- where recorded rows are wrong

-- the row of a node of the versions' tree, as the first version through the node gives it
abbrev pub IsRowOf : List Checked → ℕ → ℕ → Row → Type 0
IsRowOf versions allowance v row = (visit : Visit) × (numbered (visits versions allowance) v ≡ Some visit) × IsRow (prefixes versions) visit row

-- The first node that operations compute whose recorded row is not the measured one, and the first field in which the two differ. Over a
-- store that tells its bytes the measured row is that of the node, and the rows of all nodes computed before are right.
pub record IsDiffering (versions : List Checked) (costs : Costs) (allowance : ℕ) (told : Option (List (ℕ × List ℕ))) (os : Ops) (v : ℕ) (difference : Difference) : Type 0 where
  pub done : Ops
  pub steps : ℕ
  pub rest : Ops
  pub here : os ≡ done ++ Compute v steps ∷ rest
  pub before : IsSome told → (w : ℕ) → computes done w ≡ true → (row : Row) → row_of costs w ≡ Some row → IsRowOf versions allowance w row
  pub differs : DiffersBy costs v difference (λ measured. IsSome told → IsRowOf versions allowance v measured)

-- ---- how a replay by recorded rows goes

-- a least plan for the recorded rows, of whose operations the first were carried out, and the rest were not
pub record IsBegunBy (costs : Costs) (budget : Budget) (plan : Plan) (done rest : Ops) : Type 0 where
  pub least : IsLeast costs budget plan
  pub course : operations_of costs budget plan ≡ done ++ rest

-- nothing was carried out, or a part of a plan
abbrev pub IsPartBy : Costs → Budget → Ops → Type 0
IsPartBy costs budget done = (done ≡ []) ⊎ ((plan : Plan) × (rest : Ops) × IsBegunBy costs budget plan done rest)

-- what was carried out where a replay stopped: a difference comes at a computing of its node, and damage at a restoring
abbrev pub IsCutBy : Costs → Budget → RunFault → Ops → Type 0
IsCutBy costs budget (fault.TooManyNodes count) done = done ≡ []
IsCutBy costs budget fault.KernelFailed done = IsPartBy costs budget done
IsCutBy costs budget fault.StoreFailed done = IsPartBy costs budget done
IsCutBy costs budget (fault.Damaged v) done = (plan : Plan) × (more : Ops) × IsBegunBy costs budget plan done (Restore v ∷ more)
IsCutBy costs budget (fault.Differs plan v difference) done = (n : ℕ) × (more : Ops) × IsBegunBy costs budget plan done (Compute v n ∷ more)
IsCutBy costs budget fault.NoMemory done = IsPartBy costs budget done

-- what was carried out: the whole plan, or what comes before the operation at which the replay stopped
abbrev pub IsReplayed : Costs → Budget → Result Shared RunFault → Ops → Type 0
IsReplayed costs budget (Ok shared) done = done ≡ operations_of costs budget shared.plan
IsReplayed costs budget (Err e) done = IsCutBy costs budget e done

-- why a replay by recorded rows stops: what holds where the kernel failed, and where the store failed; damage comes only over a store that
-- does not tell its bytes; want of memory is free
abbrev pub RefusesSo : List Checked → Costs → Budget → ℕ → Type 0 → Type 0 → Option (List (ℕ × List ℕ)) → RunFault → Type 0
RefusesSo versions costs budget allowance kernel store told (fault.TooManyNodes count) = ⊥
RefusesSo versions costs budget allowance kernel store told fault.KernelFailed = kernel
RefusesSo versions costs budget allowance kernel store told fault.StoreFailed = store
RefusesSo versions costs budget allowance kernel store told (fault.Damaged v) = told ≡ None
RefusesSo versions costs budget allowance kernel store told (fault.Differs plan v difference) =
    IsLeast costs budget plan × IsDiffering versions costs allowance told (operations_of costs budget plan) v difference
RefusesSo versions costs budget allowance kernel store told fault.NoMemory = Unit {0}

-- a difference comes only over a store that does not tell its bytes
abbrev pub DiffersUntold : Option (List (ℕ × List ℕ)) → RunFault → Type 0
DiffersUntold told e = (plan : Plan) (v : ℕ) (difference : Difference) → e ≡ fault.Differs plan v difference → told ≡ None
