use Rattle.std.proofs.Common.{◌≡◌, take}
use Rattle.star_value.proofs.key.+copy_key.Given as goal

abbrev pub invariant-copy_keys-loop-key : goal.invariant-copy_keys-loop-key
invariant-copy_keys-loop-key l = l.copies ≡ take l.key-index l.keys
