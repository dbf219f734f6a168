use Rattle.std.proofs.Common.{◌≡◌, ◌≤◌, ◌∙◌, arith, rules, sym, ap, subst, lit≤, Err, refl, []}
use Rattle.star_meaning.specs.Builtins.{call_builtin}
use Rattle.star_meaning.proofs.Keeping.{builtin_keeps}
use Rattle.star_builtins.specs.Reached.{names, store}
use Rattle.star_run.specs.RunView.{running_of}
use Rattle.star_run.proofs.RunLemmas.{makes_through, sound_operation, sound_out, spends_written, written_method}
use Rattle.star_run.proofs.running.Run.called_builtin.Goals as goal

pub invariant_of-self : goal.invariant_of-self
invariant_of-self c = sound_out (running_of c.self.inside) c.call_builtin-answer.new.machine c.call_builtin-answer.new.out (sound_operation (running_of c.self.inside) c.args.self.now c.call_builtin-answer.new.machine c.self.view_is c.self.invariant c.call_builtin-answer.ensures.follows c.requires.credit)

pub settle-requires : goal.settle-requires
settle-requires c =
    let s = store c.self.inside.machine c.self.inside.meter.left in
    spends_written (call_builtin (names c.args.program.now) c.args.which c.args.call.positional c.args.call.named s) c.self.inside.meter.left c.self.inside.out c.call_builtin-answer.result
    (store c.call_builtin-answer.new.machine c.call_builtin-answer.new.meter.left) c.call_builtin-answer.new.out
    ((builtin_keeps 0 [] (names c.args.program.now) c.args.which c.args.call.positional c.args.call.named s).spent) c.call_builtin-answer.ensures.gives

pub returns-clause-gives : goal.returns-clause-gives
returns-clause-gives c =
    written_method (call_builtin (names c.args.program.now) c.args.which c.args.call.positional c.args.call.named) (running_of c.self.inside) c.args.self.now c.call_builtin-answer.new.machine c.call_builtin-answer.new.meter.left c.call_builtin-answer.new.out
    c.call_builtin-answer.result c.settle.result c.settle.new.self c.self.view_is c.call_builtin-answer.ensures.gives c.settle.ensures.same c.settle.ensures.left

pub returns-clause-made : goal.returns-clause-made
returns-clause-made c = makes_through c.args.self.now (running_of c.self.inside) c.settle.new.self c.call_builtin-answer.new.machine c.call_builtin-answer.new.out c.self.view_is c.call_builtin-answer.ensures.follows c.settle.ensures.goes
