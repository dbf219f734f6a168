use Rattle.std.proofs.Common.{◌≡◌, ◌+◌, ◌*◌, ◌-◌, []}
use Rattle.snapshot_codec.specs.Reading.{many_at, value_at}
use Rattle.snapshot_codec.proofs.values.+value.Given as goal

abbrev pub decreases-value_at : goal.decreases-value_at
decreases-value_at l = 3 * l.room + 1

abbrev pub decreases-tuple_at : goal.decreases-tuple_at
decreases-tuple_at l = 3 * l.room

abbrev pub decreases-items_at : goal.decreases-items_at
decreases-items_at l = 3 * l.room + 2

abbrev pub invariant-items_at-loop : goal.invariant-items_at-loop
invariant-items_at-loop l = many_at (λ front. value_at l.room) (l.count - l.counter) l.items l.met l.rest ≡ many_at (λ front. value_at l.room) l.count [] l.before l.bytes
