use Rattle.std.proofs.Common.{◌≡◌, None, Some, rules, subst}
use Rattle.star_meaning.specs.State.{function}
use Rattle.star_meaning.specs.Statements.{filled, parameters_of}
use Rattle.star_meaning.specs.Validity.{MachineState}
use Rattle.star_run.specs.Filling.{Fills}
use Rattle.star_run.specs.Fixed.{fixed}
use Rattle.star_run.specs.Running.{world}
use Rattle.star_run.proofs.CallLemmas.{copied_none, copied_some, runs_body, runs_nothing}
use Rattle.star_run.proofs.level.Level.run_function.Goals as goal

pub returns-in_default-clause-gives : goal.returns-in_default-clause-gives
returns-in_default-clause-gives g c =
    let none : c.function_of.result ≡ None = search rules in
    let is = subst (λ (m : MachineState). function m.state c.args.id ≡ Some (c.function-cell.result.0, c.function-cell.result.1, c.function-cell.result.2.now)) c.machine.ensures c.function-cell.ensures.value in
    runs_nothing (fixed c.args.self.now.given) c.args.self.now.depth c.args.id (function c.args.run.now.machine.state c.args.id) c.function-cell.result.0 c.function-cell.result.1 c.function-cell.result.2.now
    c.args.call.positional c.args.call.named (world c.args.run.now) is (copied_none c.function_of.result _ none c.function_of.ensures)

pub returns-clause-gives : goal.returns-clause-gives
returns-clause-gives g c =
    let there : c.function_of.result ≡ Some c.in-Some.def = search rules in
    let is = subst (λ (m : MachineState). function m.state c.args.id ≡ Some (c.function-cell.result.0, c.function-cell.result.1, c.function-cell.result.2.now)) c.machine.ensures c.function-cell.ensures.value in
    runs_body (fixed c.args.self.now.given) c.args.self.now.depth c.args.id (function c.args.run.now.machine.state c.args.id) c.function-cell.result.0 c.function-cell.result.1 c.function-cell.result.2.now
    c.args.call.positional c.args.call.named (world c.args.run.now) is c.in-Some.def.now c.in-Some-2.filling _ _ (copied_some c.function_of.result _ c.in-Some.def there c.function_of.ensures)
    (subst (Fills (filled (parameters_of c.in-Some.def.now c.function-cell.result.2.now) c.args.call.positional c.args.call.named) c.in-Some.def.now) c.in-Some-2.is
    (c.in_ok-filling.ensures.gives (c.function-cell.result.0, c.function-cell.result.1, c.function-cell.result.2.now) is)) c.run_body.ensures.gives
