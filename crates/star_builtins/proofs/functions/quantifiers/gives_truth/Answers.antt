use Rattle.std.proofs.Common.{sym}
use Rattle.star_builtins.specs.Walks.{given}
use Rattle.star_builtins.proofs.Sequences.{found_here, found_later}
use Rattle.star_builtins.proofs.functions.quantifiers.gives_truth.Goals as goal

pub returns-then-is_true_at-truth : goal.returns-then-is_true_at-truth
returns-then-is_true_at-truth c =
    sym (found_here c.args.machine.now.state c.args.truth (given c.args.machine.now.state c.args.of.now) c.loop-place.place _ _ c.is_true_at.ensures c.loop-place.invariant c.if-is_true_at-truth.true)

pub loop-place-preserved : goal.loop-place-preserved
loop-place-preserved c =
    found_later c.args.machine.now.state c.args.truth (given c.args.machine.now.state c.args.of.now) c.loop-place.place _ _ c.is_true_at.ensures c.loop-place.invariant c.if-is_true_at-truth.false
