use Rattle.std.proofs.Common.{◌≡◌, ◌≤◌, ◌∙◌, arith, rules, sym, ap, subst, lit≤, Err, Ok, refl, []}
use Rattle.star_meaning.specs.Showing.{quoted}
use Rattle.star_meaning.specs.Steps.{Gives}
use Rattle.star_meaning.specs.Growing.{reached}
use Rattle.star_meaning.proofs.Keeping.{quoted_keeps}
use Rattle.star_builtins.specs.Reached.{names, store}
use Rattle.star_run.specs.Running.{Running}
use Rattle.star_run.proofs.RunLemmas.{settled_method, spends}
use Rattle.star_run.proofs.running.Run.quoted.Goals as goal

pub settle-requires : goal.settle-requires
settle-requires c =
    let s = store c.self.inside.machine c.self.inside.meter.left in
    spends (quoted (names c.args.program.now) c.args.value.now s) c.args.self.now.left c.quoted_text-answer.result (store c.self.inside.machine c.quoted_text-answer.new.meter.left)
    (subst (λ (x : Running). (reached (quoted (names c.args.program.now) c.args.value.now s)).left ≤ x.left) c.self.view_is ((quoted_keeps 0 [] (names c.args.program.now) c.args.value.now s).spent)) c.quoted_text-answer.ensures

pub returns-clause-gives : goal.returns-clause-gives
returns-clause-gives c =
    settled_method (quoted (names c.args.program.now) c.args.value.now) c.args.self.now c.args.self.now c.args.self.now.machine c.quoted_text-answer.new.meter.left c.quoted_text-answer.result c.settle.result c.settle.new.self refl
    (subst (λ (x : Running). Gives (quoted (names c.args.program.now) c.args.value.now (store x.machine x.left)) c.quoted_text-answer.result (store x.machine c.quoted_text-answer.new.meter.left)) c.self.view_is c.quoted_text-answer.ensures)
    c.settle.ensures.same c.settle.ensures.left
