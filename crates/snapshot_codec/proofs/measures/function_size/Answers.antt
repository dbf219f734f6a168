use Rattle.std.proofs.Common.{◌∷◌, ◌++◌, ◌-◌, ◌^◌}
use Rattle.star_meaning.specs.Snapshot.{counted, id_bytes, value_bytes}
use Rattle.snapshot_codec.proofs.Lengths.{behind_front}
use Rattle.snapshot_codec.proofs.measures.function_size.Goals as goal

pub returns : goal.returns
returns c = λ cell number.
    behind_front (2 ∷ id_bytes cell ++ id_bytes number) (counted value_bytes c.args.defaults.now) c.values_size-size.result c.saturating_add.result (2 ^ 64 - 1) c.values_size-size.ensures c.saturating_add.ensures
