use Rattle.std.proofs.Common.{◌≡◌, ◌-◌, []}
use Rattle.snapshot_codec.specs.Reading.{many_at, global_at}
use Rattle.snapshot_codec.proofs.parts.many_globals_at.Given as goal

abbrev pub invariant-loop : goal.invariant-loop
invariant-loop l = many_at global_at (l.count - l.counter) l.globals l.met l.rest ≡ many_at global_at l.count [] 0 l.bytes
