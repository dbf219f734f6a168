use Rattle.std.proofs.Common.{◌≡◌, ◌++◌, length, take}
use Rattle.std.specs.List.{flat_map}
use Rattle.star_value.specs.Keys as keys
use Rattle.star_meaning.specs.Snapshot.{count_bytes, value_bytes}
use Rattle.snapshot_codec.proofs.writing.+put_key.Given as goal

abbrev pub invariant-put_keys-loop-key : goal.invariant-put_keys-loop-key
invariant-put_keys-loop-key l = l.out.items ≡ l.fn.out.items ++ count_bytes (length l.parts) ++ flat_map (λ key. value_bytes (keys.value_of key)) (take l.key-index l.parts)
