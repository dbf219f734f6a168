use Rattle.audit_record.proofs.writing.digits.Goals as goal

pub returns-clause-wide : goal.returns-clause-wide
returns-clause-wide c = record { len = c.told-digest; bytes = c.fits-digest }
