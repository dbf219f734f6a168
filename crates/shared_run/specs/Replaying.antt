-- Why the replay of a plan stops, and where.
use Rattle.std.specs.Prelude.{◌≡◌, ℕ, [], ◌∷◌, Result, Ok, Err}
use Rattle.plan_type.specs.declared.plan.Plan.{Plan}
use Rattle.plan_type.specs.declared.operations.Operation.TheVariants.{Compute, Restore}
use Rattle.plan_type.specs.Operations.{Ops}
use Rattle.replayer.specs.declared.difference.Difference.{Difference}
use Rattle.replayer.specs.declared.fault.ReplayFault.{ReplayFault}
use Rattle.replayer.specs.declared.fault.ReplayFault.TheVariants as cause
use Rattle.shared_run.specs.declared.fault.RunFault.{RunFault}
use Rattle.shared_run.specs.declared.fault.RunFault.TheVariants as fault
use Rattle.shared_run.specs.declared.running.Shared.{Shared}

-- why a run stops whose replay of this plan stopped so
abbrev pub stopped : Plan → ReplayFault → RunFault
stopped plan cause.KernelFailed = fault.KernelFailed
stopped plan cause.StoreFailed = fault.StoreFailed
stopped plan (cause.Damaged v) = fault.Damaged v
stopped plan (cause.Differs v difference) = fault.Differs plan v difference
stopped plan cause.NoMemory = fault.NoMemory

-- a difference comes at a computing of its node, and damage at a restoring
abbrev pub StopsAt : RunFault → Ops → Type 0
StopsAt (fault.TooManyNodes count) rest = ⊥
StopsAt fault.KernelFailed rest = Unit {0}
StopsAt fault.StoreFailed rest = Unit {0}
StopsAt (fault.Damaged v) rest = (more : Ops) × (rest ≡ Restore v ∷ more)
StopsAt (fault.Differs plan v difference) rest = (n : ℕ) × (more : Ops) × (rest ≡ Compute v n ∷ more)
StopsAt fault.NoMemory rest = Unit {0}

-- what was not done: nothing, or what begins with the operation at which the replay stopped
abbrev pub LeavesOff : Result Shared RunFault → Ops → Type 0
LeavesOff (Ok shared) rest = rest ≡ []
LeavesOff (Err e) rest = StopsAt e rest

-- why the replay of this plan stops: what holds where the kernel failed, where the store failed, at damage, and at a difference;
-- want of memory is free
abbrev pub StopsSo : Type 0 → Type 0 → Type 0 → (ℕ → Difference → Type 0) → Plan → RunFault → Type 0
StopsSo kernel store damaged differs plan (fault.TooManyNodes count) = ⊥
StopsSo kernel store damaged differs plan fault.KernelFailed = kernel
StopsSo kernel store damaged differs plan fault.StoreFailed = store
StopsSo kernel store damaged differs plan (fault.Damaged v) = damaged
StopsSo kernel store damaged differs plan (fault.Differs other v difference) = differs v difference × (other ≡ plan)
StopsSo kernel store damaged differs plan fault.NoMemory = Unit {0}
