use Rattle.std.proofs.Common.{◌≡◌, ◌≤◌, drop}
use Rattle.star_meaning.specs.Cells.{statements_from}
use Rattle.star_run.specs.Fixed.{callee, fixed, setting}
use Rattle.star_run.specs.Own.{Entered, NumbersFrom, OwnGoes}
use Rattle.star_run.specs.Running.{world}
use Rattle.star_run.proofs.level.Level.own_statements.Given as goal

abbrev pub invariant-loop-place : goal.invariant-loop-place
invariant-loop-place g l = record {
  same : statements_from (setting (fixed l.self.given)) (callee (fixed l.self.given) l.self.depth) l.number (drop l.place l.all) (world l.run) ≡ statements_from (setting (fixed l.self.given)) (callee (fixed l.self.given) l.self.depth) 0 l.fn.all (world l.fn.run);
  goes : OwnGoes l.self.given.program.now l.fn.run l.run;
  numbers : NumbersFrom l.self.given.program.now l.self.given.node l.number (drop l.place l.all);
  few : l.number ≤ l.place;
}
