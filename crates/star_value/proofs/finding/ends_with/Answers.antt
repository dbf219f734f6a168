use Rattle.star_value.proofs.Ends.{ends_with_is}
use Rattle.star_value.proofs.finding.ends_with.Goals as goal

pub returns : goal.returns
returns c = ends_with_is _ _ _ c.as_str.ensures.scalars (rw (c.as_str.ensures.bytes, c.as_str-2.ensures.bytes) at c.ends_with.ensures.cases)
