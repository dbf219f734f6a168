use Rattle.std.proofs.Common.{◌≡◌, List, Some, drop}
use Rattle.star_value.specs.declared.value.Value.{Value}
use Rattle.star_meaning.specs.Statements.{body_of, for_turns, in_sequence, small_of}
use Rattle.star_meaning.specs.Values.{items_in}
use Rattle.star_run.specs.Bodies.{branches_from, in_block, next_at}
use Rattle.star_run.specs.Fixed.{callee, fixed, setting}
use Rattle.star_run.specs.Running.{Goes, world}
use Rattle.star_run.proofs.level.Level.smalls.Given as goal

abbrev pub invariant-loop-place : goal.invariant-loop-place
invariant-loop-place g l = record {
  same : in_sequence (small_of (setting (fixed l.self.given)) (callee (fixed l.self.given) l.self.depth)) l.last (drop l.place l.all) (world l.run) ≡ in_sequence (small_of (setting (fixed l.self.given)) (callee (fixed l.self.given) l.self.depth)) l.fn.last l.fn.all (world l.fn.run);
  goes : Goes l.fn.run l.run;
}
