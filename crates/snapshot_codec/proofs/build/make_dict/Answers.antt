use Rattle.star_meaning.specs.State.{with_new}
use Rattle.snapshot_codec.proofs.build.make_dict.Goals as goal

pub returns : goal.returns
unfolding with_new
returns c = c.in_ok-_id.ensures.ok.1
