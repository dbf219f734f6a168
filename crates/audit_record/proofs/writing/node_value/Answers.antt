use Rattle.std.proofs.Common.{ℕ, ◌<◌, ◌^◌, subst}
use Rattle.audit_record.proofs.writing.node_value.Goals as goal

pub returns-clause-wide : goal.returns-clause-wide
returns-clause-wide c = record {
  key = c.in_ok-key.ensures.wide;
  text = c.in_ok-text.ensures.wide;
  parent = subst (λ (n : ℕ). n < 2 ^ 32) c.number_of-parent.ensures.value c.number_of-parent.ensures.small;
}
