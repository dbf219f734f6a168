use Rattle.std.proofs.Common.{◌≡◌, None, Err, sym, ap, subst}
use Rattle.chex_base.specs.Outside.{Rose}
use Rattle.plan_type.specs.Operations.{operations_of}
use Rattle.replayer.specs.Courses.{IsFirstToDiffer}
use Rattle.shared_run.specs.Replaying.{StopsSo}
use Rattle.shared_run.proofs.CourseLemmas.{stops_of}
use Rattle.shared_run.proofs.running.carry_out.Goals as goal

pub returns-in-Err-clause-err : goal.returns-in-Err-clause-err
returns-in-Err-clause-err g c =
    let kernel = Rose (g.K.Kernel.faults c.args.kernel.now) (g.K.Kernel.faults c.replay.new.kernel) in
    let store = Rose (g.S.Store.faults c.args.store.now) (g.S.Store.faults c.replay.new.store) in
    let told = (g.S.Store.stock c.args.store.now).told in
    let differs = IsFirstToDiffer c.args.planned.forest c.args.planned.costs c.args.allowance told (operations_of c.args.planned.costs c.args.budget.now c.args.planned.plan) in
    subst (StopsSo kernel store (told ≡ None) differs c.args.planned.plan) (sym c.stopped.ensures)
    (stops_of kernel store (told ≡ None) differs c.args.planned.plan c.in-Err.fault (λ is. c.in-Err.ensures.kernel_cause (ap Err is)) (λ is. c.in-Err.ensures.store_cause (ap Err is))
    (λ v is. c.in-Err.ensures.damaged v (ap Err is)) (λ v d is. c.in-Err.ensures.differs v d (ap Err is)))
