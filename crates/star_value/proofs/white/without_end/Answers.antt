use Rattle.star_value.proofs.Trims.{end_is}
use Rattle.star_value.proofs.white.without_end.Goals as goal

pub returns : goal.returns
returns c = end_is c.args.set.now c.requires _ _ c.utf8.text c.trim_end_matches.ensures.matches
