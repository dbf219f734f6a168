use Rattle.chex_base.proofs.TextOrderLemmas.{bytes_cmp-encoded}
use Rattle.chex_base.proofs.text_order.TextOrd.cmp.Goals as goal

pub returns : goal.returns
returns c = rw (← bytes_cmp-encoded c.args.self.now c.args.other.now, ← c.as_str.ensures.bytes, ← c.as_str-2.ensures.bytes) c.cmp.ensures
