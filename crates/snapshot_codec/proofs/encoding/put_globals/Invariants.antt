use Rattle.std.proofs.Common.{◌≡◌, ◌++◌}
use Rattle.std.specs.List.{flat_map}
use Rattle.star_meaning.specs.Snapshot.{counted}
use Rattle.snapshot_codec.specs.Writing.{global_bytes_by, number_in}
use Rattle.snapshot_codec.proofs.encoding.put_globals.Given as goal

-- what was written and what is left are all
abbrev pub invariant-loop-name : goal.invariant-loop-name
invariant-loop-name l = l.out.items ++ flat_map (global_bytes_by (number_in l.numbers.order.keys)) l.name-iterator ≡ l.fn.out.items ++ counted (global_bytes_by (number_in l.numbers.order.keys)) l.machine.state.globals
