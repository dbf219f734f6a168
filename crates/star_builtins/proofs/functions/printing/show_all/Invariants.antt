use Rattle.std.proofs.Common.{◌≡◌, drop, map}
use Rattle.star_meaning.specs.Showing.{shown}
use Rattle.star_builtins.specs.Reached.{names, store}
use Rattle.star_builtins.specs.Rows.{pieces_by}
use Rattle.star_builtins.specs.Shows.{onto}
use Rattle.star_builtins.proofs.functions.printing.show_all.Given as goal

abbrev pub invariant-loop-place : goal.invariant-loop-place
invariant-loop-place l = onto l.out (pieces_by l.by l.place (map (shown (names l.program)) (drop l.place l.values))) (store l.machine l.meter.left)
    ≡ onto l.fn.out (pieces_by l.by 0 (map (shown (names l.program)) l.values)) (store l.machine l.fn.meter.left)
