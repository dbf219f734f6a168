use Rattle.std.proofs.Common.{Bool, ap, ◌∙◌}
use Rattle.std.specs.Prelude.{◌&&◌, slice_get}
use Rattle.snapshot_codec.specs.Defined.{has_count}
use Rattle.snapshot_codec.proofs.refers.has_function.Goals as goal

pub returns-then-not-is_same : goal.returns-then-not-is_same
returns-then-not-is_same c = ap (λ (t : Bool). t && has_count c.args.count (slice_get c.args.made.now.counts.items c.args.number)) c.if-not-is_same.ensures

pub returns : goal.returns
returns c = c.has_count.ensures ∙ (λ i. c.if-not-is_same.ensures i && has_count c.args.count (slice_get (c.as_slice-counts.ensures.value i) c.args.number))
