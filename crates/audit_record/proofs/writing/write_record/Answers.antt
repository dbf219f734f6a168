use Rattle.std.proofs.Common.{length, sym, ap, ◌∙◌}
use Rattle.audit_record.proofs.DigestLemmas.{length-digests}
use Rattle.audit_record.proofs.writing.write_record.Goals as goal

pub record_text-requires : goal.record_text-requires
record_text-requires c =
    ap length c.as_slice-2.ensures ∙ c.requires.many ∙ sym (ap length (c.as_slice.ensures ∙ c.in_ok-keys.ensures.digests) ∙ length-digests c.args.forest.now.nodes)
