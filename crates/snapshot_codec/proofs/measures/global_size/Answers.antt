use Rattle.std.proofs.Common.{◌-◌, ◌^◌}
use Rattle.star_meaning.specs.Snapshot.{text_bytes, value_bytes}
use Rattle.snapshot_codec.proofs.Lengths.{two_parts}
use Rattle.snapshot_codec.proofs.measures.global_size.Goals as goal

pub returns : goal.returns
returns c =
    two_parts (text_bytes c.args.name.now) (value_bytes c.args.value.now) c.text_size-front.result c.value_size-back.result c.saturating_add.result (2 ^ 64 - 1) c.text_size-front.ensures c.value_size-back.ensures c.saturating_add.ensures
