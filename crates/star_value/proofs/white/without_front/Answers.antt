use Rattle.star_value.proofs.Trims.{front_is}
use Rattle.star_value.proofs.white.without_front.Goals as goal

pub returns : goal.returns
returns c = front_is c.args.set.now _ _ c.utf8.text c.trim_start_matches.ensures.matches
