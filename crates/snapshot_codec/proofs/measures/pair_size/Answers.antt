use Rattle.std.proofs.Common.{◌-◌, ◌^◌}
use Rattle.star_value.specs.Keys as keys
use Rattle.star_meaning.specs.Snapshot.{value_bytes}
use Rattle.snapshot_codec.proofs.Lengths.{two_parts}
use Rattle.snapshot_codec.proofs.measures.pair_size.Goals as goal

pub returns : goal.returns
returns c =
    two_parts (value_bytes (keys.value_of c.args.key.now)) (value_bytes c.args.value.now) c.key_size-front.result c.value_size-back.result c.saturating_add.result (2 ^ 64 - 1) c.key_size-front.ensures c.value_size-back.ensures
    c.saturating_add.ensures
