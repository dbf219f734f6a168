use Rattle.std.proofs.Common.{◌≡◌, refl, arith}
use Rattle.kernel_api.specs.declared.fault.RestoreFault.TheVariants.{Damaged, KernelFailed}
use Rattle.star_kernel.specs.Restoring.{fault_of}
use Rattle.star_kernel.proofs.SnapshotLemmas.{no_failure, no_snapshot, own_bytes, size_of_bytes}
use Rattle.star_kernel.proofs.restoring.restored.Goals as goal

pub returns-in-Ok-clause-told : goal.returns-in-Ok-clause-told
returns-in-Ok-clause-told c = let found = c.in-Ok.ensures.found in own_bytes _ _ found.0.kept found.1 found.2

pub returns-in-Ok-clause-sized : goal.returns-in-Ok-clause-sized
returns-in-Ok-clause-sized c =
    let found = c.in-Ok.ensures.found in
    size_of_bytes _ _ _ found.0.kept (own_bytes _ _ found.0.kept found.1 found.2) refl (omega arith)

pub returns-in-Err-clause-damaged : goal.returns-in-Err-clause-damaged
returns-in-Err-clause-damaged c is told =
    let damage : fault_of c.in-Err.fault ≡ Damaged = cc in no_snapshot _ _ _ c.in-Err.ensures.only damage told

pub returns-in-Err-clause-cause : goal.returns-in-Err-clause-cause
returns-in-Err-clause-cause c is =
    let failure : fault_of c.in-Err.fault ≡ KernelFailed = cc in no_failure _ failure
