-- Which calls of a failing kernel fail, and how its count rises.
use Rattle.std.specs.Prelude.{◌<◌, ℕ, ◌+◌, ◌-◌, ◌^◌, List, Contains, Result, Ok, Err}
use Rattle.chex_base.specs.Outside.{one_more}
use Rattle.kernel_api.specs.declared.fault.KernelFault.{KernelFault}
use Rattle.kernel_api.specs.declared.fault.KernelFault.TheVariants as kernel
use Rattle.kernel_api.specs.declared.fault.SaveFault.{SaveFault}
use Rattle.kernel_api.specs.declared.fault.SaveFault.TheVariants as save
use Rattle.kernel_api.specs.declared.fault.RestoreFault.{RestoreFault}
use Rattle.kernel_api.specs.declared.fault.RestoreFault.TheVariants as restore

-- The call after so many is listed. The count of calls stands still at the greatest `u64`, and no call is listed from there on.
abbrev pub IsListed : List ℕ → ℕ → Type 0
IsListed failing calls = (calls < 2 ^ 64 - 1) × Contains failing (calls + 1)

-- the count of faults after a call that loaded or ran something, or did not
abbrev pub faults_after : {T : Type 0} → Result T KernelFault → ℕ → ℕ
faults_after (Ok value) count = count
faults_after (Err kernel.Failed) count = one_more count
faults_after (Err kernel.NoMemory) count = count

-- after a call that saved the live state, or did not
abbrev pub faults_after_save : {T : Type 0} → Result T SaveFault → ℕ → ℕ
faults_after_save (Ok value) count = count
faults_after_save (Err save.KernelFailed) count = one_more count
faults_after_save (Err save.StoreFailed) count = count
faults_after_save (Err save.Full) count = count
faults_after_save (Err save.NoMemory) count = count

-- and after a call that restored a state, or did not
abbrev pub faults_after_restore : {T : Type 0} → Result T RestoreFault → ℕ → ℕ
faults_after_restore (Ok value) count = count
faults_after_restore (Err restore.KernelFailed) count = one_more count
faults_after_restore (Err restore.Damaged) count = count
faults_after_restore (Err restore.NoMemory) count = count
