use Rattle.shared_run.proofs.AuditLemmas.{rows_within}
use Rattle.shared_run.proofs.RecordLemmas.{rows_fit}
use Rattle.shared_run.proofs.auditing.audit_versions.Goals as goal

pub returns-in-Ok-merge-clause-fit : goal.returns-in-Ok-merge-clause-fit
returns-in-Ok-merge-clause-fit g c = rows_fit c.args.versions.now c.args.allowance c.in-Ok.measured.1 c.in-Ok.ensures.rows

pub returns-in-Ok-merge-clause-within : goal.returns-in-Ok-merge-clause-within
returns-in-Ok-merge-clause-within g c =
    rows_within c.args.versions.now c.args.allowance c.in-Ok.measured.1 c.in-Ok.ensures.rows c.requires.sources c.requires.allowance.0
