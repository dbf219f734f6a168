-- Why a replay stopped, and where.
use Rattle.std.specs.Prelude.{◌≡◌, ℕ, List, [], ◌∷◌, ◌++◌, Result, Ok, Err}
use Rattle.plan_type.specs.declared.operations.Operation.TheVariants.{Compute, Restore}
use Rattle.plan_type.specs.Operations.{Ops}
use Rattle.replayer.specs.declared.difference.Difference.{Difference}
use Rattle.replayer.specs.declared.fault.ReplayFault.{ReplayFault}
use Rattle.replayer.specs.declared.fault.ReplayFault.TheVariants as fault

-- a difference comes at a computing of its node, and damage at a restoring
abbrev pub StopsAt : ReplayFault → Ops → Type 0
StopsAt (fault.Differs v difference) rest = (n : ℕ) × (more : Ops) × (rest ≡ Compute v n ∷ more)
StopsAt (fault.Damaged v) rest = (more : Ops) × (rest ≡ Restore v ∷ more)
StopsAt fault.KernelFailed rest = Unit {0}
StopsAt fault.StoreFailed rest = Unit {0}
StopsAt fault.NoMemory rest = Unit {0}

-- why a replay stops, by its answer: what holds where the kernel failed, where the store failed, at a difference, and at damage;
-- want of memory is free
abbrev pub StopsSo : Type 0 → Type 0 → (ℕ → Difference → Type 0) → (ℕ → Type 0) → ReplayFault → Type 0
StopsSo kernel store differs damaged fault.KernelFailed = kernel
StopsSo kernel store differs damaged fault.StoreFailed = store
StopsSo kernel store differs damaged (fault.Differs v difference) = differs v difference
StopsSo kernel store differs damaged (fault.Damaged v) = damaged v
StopsSo kernel store differs damaged fault.NoMemory = Unit {0}

-- what was not done: nothing, or what begins with the operation at which the replay stopped
abbrev pub LeavesOff : {T : Type 0} → Result T ReplayFault → Ops → Type 0
LeavesOff (Ok x) rest = rest ≡ []
LeavesOff (Err e) rest = StopsAt e rest
