use Rattle.star_value.proofs.SameKeys.{ints_same}
use Rattle.star_value.proofs.key_order.same_int.Goals as goal

pub returns : goal.returns
returns c = ints_same _ _ c.ranges.a c.ranges.b
