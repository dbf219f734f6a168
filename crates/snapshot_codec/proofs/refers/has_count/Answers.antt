use Rattle.std.proofs.Common.{ap}
use Rattle.snapshot_codec.specs.Defined.{has_count}
use Rattle.snapshot_codec.proofs.refers.has_count.Goals as goal

pub returns-in-Some : goal.returns-in-Some
returns-in-Some c = ap (has_count c.args.count) c.in-Some.ensures

pub returns-in-None : goal.returns-in-None
returns-in-None c = ap (has_count c.args.count) c.in-None.ensures
