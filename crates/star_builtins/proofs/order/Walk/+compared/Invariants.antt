use Rattle.std.proofs.Common.{◌≡◌, ◌*◌, ◌+◌, drop}
use Rattle.star_meaning.specs.State.{dict}
use Rattle.star_builtins.specs.Reached.{store}
use Rattle.star_builtins.specs.Weighing.{items, pairs}
use Rattle.star_builtins.proofs.order.Walk.+compared.Given as goal

abbrev pub decreases-compared : goal.decreases-compared
decreases-compared l = 4 * l.deeper + 3

abbrev pub decreases-lists : goal.decreases-lists
decreases-lists l = 4 * l.deeper + 2

abbrev pub decreases-sequences : goal.decreases-sequences
decreases-sequences l = 4 * l.deeper + 1

abbrev pub decreases-items : goal.decreases-items
decreases-items l = 4 * l.inner + 4

abbrev pub decreases-tables : goal.decreases-tables
decreases-tables l = 4 * l.deeper + 1

abbrev pub decreases-pairs : goal.decreases-pairs
decreases-pairs l = 4 * l.inner + 4

abbrev pub invariant-items-loop-place : goal.invariant-items-loop-place
invariant-items-loop-place l = items l.self.by_length l.inner (drop l.place l.left) (drop l.place l.right) (store l.self.machine.now l.meter.left)
    ≡ items l.self.by_length l.inner l.left l.right (store l.self.machine.now l.fn.meter.left)

abbrev pub invariant-pairs-loop-place : goal.invariant-pairs-loop-place
invariant-pairs-loop-place l = pairs l.self.by_length l.inner (drop l.place (dict l.self.machine.now.state l.left)) (dict l.self.machine.now.state l.right) (store l.self.machine.now l.meter.left)
    ≡ pairs l.self.by_length l.inner (dict l.self.machine.now.state l.left) (dict l.self.machine.now.state l.right) (store l.self.machine.now l.fn.meter.left)
