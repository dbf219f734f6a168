use Rattle.std.proofs.Common.{◌≡◌, ◌+◌, ◌-◌, ◌^◌, ◌≤◌, length, min}
use Rattle.std.specs.List.{flat_map}
use Rattle.star_meaning.specs.Snapshot.{global_bytes}
use Rattle.snapshot_codec.proofs.measures.globals_size.Given as goal

-- what was counted and what is left are all
abbrev pub invariant-loop-name : goal.invariant-loop-name
invariant-loop-name l = (l.size ≤ 2 ^ 64 - 1) × (min (l.size + length (flat_map global_bytes l.name-iterator)) (2 ^ 64 - 1) ≡ min (8 + length (flat_map global_bytes l.machine.state.globals)) (2 ^ 64 - 1))
