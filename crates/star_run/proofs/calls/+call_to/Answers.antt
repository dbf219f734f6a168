use Rattle.std.proofs.Common.{arith}
use Rattle.star_run.specs.Fixed.{fixed}
use Rattle.star_run.specs.Running.{world}
use Rattle.star_run.proofs.CallLemmas.{call_is, call_none}
use Rattle.star_run.proofs.calls.+call_to.Goals as goal

pub returns-then-depth-eq0-clause-gives : goal.returns-then-depth-eq0-clause-gives
returns-then-depth-eq0-clause-gives t c = call_none (fixed c.args.given.now) c.args.depth c.args.id c.args.call.positional c.args.call.named (world c.args.run.now) (omega arith)

pub returns-clause-gives : goal.returns-clause-gives
returns-clause-gives t c =
    rw (call_is (fixed c.args.given.now) c.args.depth c.args.id c.args.call.positional c.args.call.named (world c.args.run.now) (omega arith)) c.run_function.ensures.gives
