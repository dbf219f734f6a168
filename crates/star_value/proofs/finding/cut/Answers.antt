use Rattle.star_value.proofs.Ends.{cuts_at}
use Rattle.star_value.proofs.finding.cut.Goals as goal

pub returns : goal.returns
returns c = cuts_at _ _ _ c.utf8.text c.as_str.ensures.scalars (rw c.as_str.ensures.bytes at c.split_once.ensures.cases)
