use Rattle.std.proofs.Common.{◌≡◌, ◌≤◌, ◌∙◌, arith, rules, sym, ap, subst, lit≤, Err, refl, []}
use Rattle.star_meaning.specs.Operators.{unpacked}
use Rattle.star_meaning.specs.Steps.{Gives}
use Rattle.star_meaning.specs.Growing.{reached}
use Rattle.star_meaning.proofs.Keeping.{unpacked_keeps}
use Rattle.star_builtins.specs.Reached.{store}
use Rattle.star_run.specs.Running.{Running}
use Rattle.star_run.proofs.RunLemmas.{settled_method, spends}
use Rattle.star_run.proofs.running.Run.unpacked.Goals as goal

pub settle-requires : goal.settle-requires
settle-requires c =
    let s = store c.self.inside.machine c.self.inside.meter.left in
    spends (unpacked c.args.count c.args.of s) c.args.self.now.left c.unpacked-answer.result (store c.self.inside.machine c.unpacked-answer.new.meter.left)
    (subst (λ (x : Running). (reached (unpacked c.args.count c.args.of s)).left ≤ x.left) c.self.view_is ((unpacked_keeps 0 [] c.args.count c.args.of s).spent)) c.unpacked-answer.ensures.gives

pub returns-clause-gives : goal.returns-clause-gives
returns-clause-gives c =
    settled_method (unpacked c.args.count c.args.of) c.args.self.now c.args.self.now c.args.self.now.machine c.unpacked-answer.new.meter.left c.unpacked-answer.result c.settle.result c.settle.new.self refl
    (subst (λ (x : Running). Gives (unpacked c.args.count c.args.of (store x.machine x.left)) c.unpacked-answer.result (store x.machine c.unpacked-answer.new.meter.left)) c.self.view_is c.unpacked-answer.ensures.gives)
    c.settle.ensures.same c.settle.ensures.left
