use Rattle.star_value.specs.Format.{percent}
use Rattle.star_value.proofs.Words.{cuts_at_char}
use Rattle.star_value.proofs.format.cut_percent.Goals as goal

pub returns : goal.returns
returns c = cuts_at_char percent _ _ c.utf8.text c.split_once.ensures.cases
