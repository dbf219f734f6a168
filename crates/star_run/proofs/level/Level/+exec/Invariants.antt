use Rattle.std.proofs.Common.{◌+◌, ◌*◌, max}
use Rattle.star_syntax.specs.declared.statement.Statement.TheViews.{weight-Statement-If-1, weight-Statement-If-2, weight-Statement-If-3}
use Rattle.std.proofs.Common.{◌≡◌, List, Some, drop}
use Rattle.star_value.specs.declared.value.Value.{Value}
use Rattle.star_meaning.specs.Statements.{body_of, for_turns, in_sequence, small_of}
use Rattle.star_meaning.specs.Values.{items_in}
use Rattle.star_run.specs.Bodies.{branches_from, in_block, next_at}
use Rattle.star_run.specs.Fixed.{callee, fixed, setting}
use Rattle.star_run.specs.Running.{Goes, world}
use Rattle.star_run.proofs.level.Level.+exec.Given as goal

-- each function goes down the tree, or stays and calls one of a lower number

abbrev pub decreases-exec : goal.decreases-exec
decreases-exec g l = 8 * goal.size-exec g l

abbrev pub decreases-statements : goal.decreases-statements
decreases-statements g l = 8 * goal.size-statements g l + 1

abbrev pub decreases-block : goal.decreases-block
decreases-block g l = 8 * goal.size-block g l + 2

abbrev pub decreases-otherwise : goal.decreases-otherwise
decreases-otherwise g l = 8 * goal.size-otherwise g l + 3

abbrev pub decreases-for_turn : goal.decreases-for_turn
decreases-for_turn g l = 8 * goal.size-for_turn g l + 3

abbrev pub decreases-for_turns : goal.decreases-for_turns
decreases-for_turns g l = 8 * goal.size-for_turns g l + 4

abbrev pub decreases-repeat : goal.decreases-repeat
decreases-repeat g l = 8 * goal.size-repeat g l + 5

abbrev pub decreases-branches : goal.decreases-branches
decreases-branches g l = 8 * (max (weight-Statement-If-2 l.more.now) (weight-Statement-If-3 l.other.now)) + 4

abbrev pub decreases-choice : goal.decreases-choice
decreases-choice g l = 8 * (max (weight-Statement-If-1 l.first.now) (max (weight-Statement-If-2 l.more.now) (weight-Statement-If-3 l.other.now))) + 5

-- what is left from here is all from the start

abbrev pub invariant-statements-loop-statement : goal.invariant-statements-loop-statement
invariant-statements-loop-statement g l = record {
  same : in_block (setting (fixed l.self.given)) (callee (fixed l.self.given) l.self.depth) (drop l.statement-index l.all) (world l.run) ≡ in_block (setting (fixed l.self.given)) (callee (fixed l.self.given) l.self.depth) l.fn.all (world l.fn.run);
  goes : Goes l.fn.run l.run;
}

abbrev pub invariant-branches-loop-branch : goal.invariant-branches-loop-branch
invariant-branches-loop-branch g l = record {
  same : branches_from (setting (fixed l.self.given)) (callee (fixed l.self.given) l.self.depth) l.at (drop l.branch-index l.more) l.other (world l.run) ≡ branches_from (setting (fixed l.self.given)) (callee (fixed l.self.given) l.self.depth) l.fn.at l.fn.more l.fn.other (world l.fn.run);
  goes : Goes l.fn.run l.run;
}

abbrev pub invariant-for_turns-loop-place : goal.invariant-for_turns-loop-place
invariant-for_turns-loop-place g l = record {
  same : (items : List Value) → items_in l.fn.run.machine.state l.of ≡ Some items → for_turns (next_at (fixed l.self.given) l.self.depth l.at l.targets) (body_of (setting (fixed l.self.given)) (callee (fixed l.self.given) l.self.depth) l.body) (drop l.place items) (world l.run) ≡ for_turns (next_at (fixed l.self.given) l.self.depth l.at l.targets) (body_of (setting (fixed l.self.given)) (callee (fixed l.self.given) l.self.depth) l.body) items (world l.fn.run);
  held : (items : List Value) → items_in l.fn.run.machine.state l.of ≡ Some items → items_in l.run.machine.state l.of ≡ Some items;
  locked : l.run.frame.locked ≡ l.fn.run.frame.locked;
  goes : Goes l.fn.run l.run;
}
