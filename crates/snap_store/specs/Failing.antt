-- Which calls of a failing store fail, and how its count rises.
use Rattle.std.specs.Prelude.{◌<◌, ℕ, ◌+◌, ◌-◌, ◌^◌, List, Contains, Result, Ok, Err}
use Rattle.chex_base.specs.Outside.{one_more}
use Rattle.kernel_api.specs.declared.fault.StoreFault.{StoreFault}
use Rattle.kernel_api.specs.declared.fault.StoreFault.TheVariants as store
use Rattle.kernel_api.specs.declared.fault.PutFault.{PutFault}
use Rattle.kernel_api.specs.declared.fault.PutFault.TheVariants as put

-- The call after so many is listed. The count of calls stands still at the greatest `u64`, and no call is listed from there on.
abbrev pub IsListed : List ℕ → ℕ → Type 0
IsListed failing calls = (calls < 2 ^ 64 - 1) × Contains failing (calls + 1)

-- the count of faults after a call that began or gave something, or did not
abbrev pub faults_after : {T : Type 0} → Result T StoreFault → ℕ → ℕ
faults_after (Ok value) count = count
faults_after (Err store.Failed) count = one_more count
faults_after (Err store.NoMemory) count = count

-- and after a call that put something, or did not
abbrev pub faults_after_put : {T : Type 0} → Result T PutFault → ℕ → ℕ
faults_after_put (Ok value) count = count
faults_after_put (Err put.Full) count = count
faults_after_put (Err put.Failed) count = one_more count
faults_after_put (Err put.NoMemory) count = count
