use Rattle.std.proofs.Common.{◌≡◌, Some, OnOk, ap, subst}
use Rattle.star_meaning.specs.Snapshot.{IsBytesOf}
use Rattle.star_meaning.specs.Validity.{IsValid, MachineState}
use Rattle.star_kernel.specs.declared.failing_kernel.FailingKernel.{FailingKernel}
use Rattle.star_kernel.specs.declared.star_kernel.StarKernel.{StarKernel}
use Rattle.star_kernel.specs.Kernels.{live_of, loaded_of}
use Rattle.star_kernel.proofs.failing_kernel.FailingKernelKernel.restore.Goals as goal

pub returns-clause-ok : goal.returns-clause-ok
returns-clause-ok c =
    let same : c.count_call.new.self.inner ≡ c.args.self.now.inner = ap (λ (k : FailingKernel). k.inner) c.count_call.ensures.calls in
    subst (λ (k : StarKernel). OnOk c.restore.result ((m : MachineState) × (live_of c.restore.new.self ≡ Some m) × IsValid (loaded_of k) m × IsBytesOf m c.args.bytes.now)) same c.restore.ensures.ok
