use Rattle.std.proofs.Common.{ap}
use Rattle.snapshot_codec.specs.Defined.{table}
use Rattle.snapshot_codec.proofs.refers.table_at.Goals as goal

pub returns : goal.returns
returns c = ap (table c.args.node) c.in_ok-counts.ensures
