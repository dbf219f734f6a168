use Rattle.std.proofs.Common.{◌≡◌, ◌-◌, []}
use Rattle.snapshot_codec.specs.Reading.{many_at, pair_at}
use Rattle.snapshot_codec.proofs.objects.many_pairs_at.Given as goal

abbrev pub invariant-loop : goal.invariant-loop
invariant-loop l = many_at pair_at (l.count - l.counter) l.pairs l.met l.rest ≡ many_at pair_at l.count [] l.before l.bytes
