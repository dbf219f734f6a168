use Rattle.std.proofs.Common.{◌≡◌, ◌⊎◌, Result, Err, subst, sym}
use Rattle.std.proofs.lemmas.Result.{err_from_is_err_and}
use Rattle.audit_record.specs.declared.recorded.Recorded.{Recorded}
use Rattle.audit_record.specs.declared.fault.RecordFault.{RecordFault}
use Rattle.audit_record.specs.declared.fault.RecordFault.TheVariants.{NoMemory}
use Rattle.audit_record.specs.Reading.{IsAnswer, recorded_of}
use Rattle.audit_record.proofs.ReadingLemmas.{HasShape, has_shape, refused}
use Rattle.audit_record.proofs.reading.read_version.Goals as goal

pub returns-in_err-recorded-clause-answer : goal.returns-in_err-recorded-clause-answer
returns-in_err-recorded-clause-answer c =
    let shape = recorded_of c.args.version c.args.bytes.now in
    let p = err_from_is_err_and c.from_residual.result c.from_residual.ensures.1 in
    subst (λ (r : Result Recorded RecordFault). IsAnswer shape r) (sym p.1)
    (refused shape p.0 (has_shape c.args.version c.args.bytes.now) (subst (λ (e : RecordFault). (e ≡ NoMemory) ⊎ (shape ≡ Err e)) (sym p.2) c.in_err-recorded.ensures))

pub returns-then-is_kept-clause-many : goal.returns-then-is_kept-clause-many
returns-then-is_kept-clause-many c = subst HasShape c.in_ok-recorded.ensures (has_shape c.args.version c.args.bytes.now)
