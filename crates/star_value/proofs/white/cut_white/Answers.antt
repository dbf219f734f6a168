use Rattle.star_value.specs.Texts.{white}
use Rattle.star_value.proofs.Words.{cuts_at_set}
use Rattle.star_value.proofs.white.cut_white.Goals as goal

pub returns : goal.returns
returns c = cuts_at_set white _ _ c.utf8.text c.split_once.ensures.cases
