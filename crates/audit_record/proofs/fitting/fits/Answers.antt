use Rattle.std.proofs.Common.{length, sym, ap, ◌∙◌}
use Rattle.audit_record.proofs.DigestLemmas.{length-digests}
use Rattle.audit_record.proofs.fitting.fits.Goals as goal

pub wrong_parent-requires : goal.wrong_parent-requires
wrong_parent-requires c =
    c.requires ∙ ap length (sym c.as_slice.ensures ∙ c.in-None.ensures.found ∙ c.as_slice-2.ensures ∙ c.in_ok-found.ensures.digests) ∙ length-digests c.args.forest.now.nodes
