use Rattle.std.proofs.Common.{refl}
use Rattle.star_run.proofs.OverLemmas.{no_items}
use Rattle.star_run.proofs.statements.loop_count.Goals as goal

pub returns-in-None : goal.returns-in-None
returns-in-None c = (no_items _ c.in-None.ensures, refl)
