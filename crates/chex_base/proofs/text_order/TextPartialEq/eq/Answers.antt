use Rattle.chex_base.proofs.TextOrderLemmas.{bytes_eq-encoded}
use Rattle.chex_base.proofs.text_order.TextPartialEq.eq.Goals as goal

pub returns : goal.returns
returns c = rw (← bytes_eq-encoded c.args.self.now c.args.other.now, ← c.as_str.ensures.bytes, ← c.as_str-2.ensures.bytes) c.eq.ensures
