use Rattle.std.proofs.Common.{◌≡◌, true, inr, refl}
use Rattle.audit_record.proofs.ReadingLemmas.{value_of-read, value_of-none}
use Rattle.audit_record.proofs.reading.read_value.Goals as goal

pub returns-in-Ok-clause-value : goal.returns-in-Ok-clause-value
returns-in-Ok-clause-value c = value_of-read _ _ c.in-Ok.ensures.ok.0 c.in-Ok.ensures.ok.1

pub returns-else-is_memory-clause-refused : goal.returns-else-is_memory-clause-refused
returns-else-is_memory-clause-refused c =
    inr (
      refl,
      value_of-none _ (c.in-Err.ensures.err (λ memory.
          let said : c.is_memory.result ≡ true = c.is_memory.ensures.1 memory in
          cc)),
    )
