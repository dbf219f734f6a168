use Rattle.star_value.proofs.Ends.{starts_with_is}
use Rattle.star_value.proofs.finding.starts_with.Goals as goal

pub returns : goal.returns
returns c = starts_with_is _ _ _ (rw (c.as_str.ensures.bytes, c.as_str-2.ensures.bytes) at c.starts_with.ensures.cases)
