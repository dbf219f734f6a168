use Rattle.std.proofs.Common.{◌≡◌, ◌*◌, ◌+◌, drop, map}
use Rattle.star_meaning.specs.Showing.{quoted_in}
use Rattle.star_meaning.specs.State.{dict}
use Rattle.star_builtins.specs.Pieces.{Keeps, pieces, pair_piece}
use Rattle.star_builtins.specs.Reached.{names, store}
use Rattle.star_builtins.specs.Shows.{onto}
use Rattle.star_builtins.proofs.showing.Writer.+quoted.Given as goal

abbrev pub decreases-quoted : goal.decreases-quoted
decreases-quoted l = 4 * l.deeper + 2

abbrev pub decreases-sequence : goal.decreases-sequence
decreases-sequence l = 4 * l.deeper + 1

abbrev pub decreases-items : goal.decreases-items
decreases-items l = 4 * l.inner + 4

abbrev pub decreases-table : goal.decreases-table
decreases-table l = 4 * l.deeper + 1

abbrev pub decreases-pairs : goal.decreases-pairs
decreases-pairs l = 4 * l.inner + 4

abbrev pub decreases-pair : goal.decreases-pair
decreases-pair l = 4 * l.inner + 3

abbrev pub invariant-items-loop-place : goal.invariant-items-loop-place
invariant-items-loop-place l = record {
  same : onto l.out (pieces l.place (map (quoted_in (names l.self.program.now) l.inner) (drop l.place l.items))) (store l.self.machine.now l.meter.left)
      ≡ onto l.fn.out (pieces 0 (map (quoted_in (names l.self.program.now) l.inner) l.items)) (store l.self.machine.now l.fn.meter.left);
  keeps : Keeps l.fn.out l.out;
}

abbrev pub invariant-pairs-loop-place : goal.invariant-pairs-loop-place
invariant-pairs-loop-place l = record {
  same : onto l.out (pieces l.place (map (pair_piece (names l.self.program.now) l.inner) (drop l.place (dict l.self.machine.now.state l.id)))) (store l.self.machine.now l.meter.left)
      ≡ onto l.fn.out (pieces 0 (map (pair_piece (names l.self.program.now) l.inner) (dict l.self.machine.now.state l.id))) (store l.self.machine.now l.fn.meter.left);
  keeps : Keeps l.fn.out l.out;
}
