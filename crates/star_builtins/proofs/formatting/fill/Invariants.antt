use Rattle.std.proofs.Common.{◌≡◌, ◌≤◌, drop}
use Rattle.star_meaning.specs.Operators.{filled}
use Rattle.star_builtins.specs.Reached.{names, store}
use Rattle.star_builtins.specs.Shows.{onto}
use Rattle.star_builtins.proofs.formatting.fill.Given as goal

abbrev pub invariant-loop-part : goal.invariant-loop-part
invariant-loop-part l = record {
  low : l.at ≤ l.part-index;
  all : onto l.out (filled (names l.program) (drop l.part-index l.parts) (drop l.at l.values)) (store l.machine l.meter.left)
      ≡ onto l.fn.out (filled (names l.program) l.parts l.values) (store l.machine l.fn.meter.left);
}
