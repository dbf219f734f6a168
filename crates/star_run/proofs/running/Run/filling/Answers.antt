use Rattle.std.proofs.Common.{◌≡◌, ◌∙◌, sym, subst, Some}
use Rattle.std.specs.Prelude.{IfOk}
use Rattle.star_builtins.specs.Reached.{AllFit}
use Rattle.star_meaning.specs.State.{function}
use Rattle.star_meaning.specs.Statements.{filled, parameters_of}
use Rattle.star_run.specs.Filling.{Fills}
use Rattle.star_run.specs.Running.{Running}
use Rattle.star_run.proofs.CallLemmas.{defaults_fit, parts_are}
use Rattle.star_run.proofs.running.Run.filling.Goals as goal

pub returns-clause-gives : goal.returns-clause-gives
returns-clause-gives c = λ parts is.
    subst (λ ds. IfOk c.fill.result (λ filling. Fills (filled (parameters_of c.args.def.now ds) c.args.call.positional c.args.call.named) c.args.def.now filling))
    (parts_are (function c.self.inside.machine.state c.args.id) parts c.function.result.0 c.function.result.1 c.function.result.2.now c.function.ensures.value
    (subst (λ (r : Running). function r.machine.state c.args.id ≡ Some parts) (sym c.self.view_is) is)) c.fill.ensures.gives

pub returns-clause-fits : goal.returns-clause-fits
returns-clause-fits c =
    c.fill.ensures.fits c.args.self.now.machine
    (subst (λ (r : Running). AllFit r.machine c.function.result.2.now) c.self.view_is
    (defaults_fit c.self.inside.machine c.args.id c.function.result.0 c.function.result.1 c.function.result.2.now c.function.ensures.kept c.self.invariant.proper c.function.ensures.value)) c.requires.positional c.requires.named
