use Rattle.std.proofs.Common.{◌≡◌, ◌∙◌, length, sym, ap, arith, rules, Err}
use Rattle.star_meaning.specs.Validity.{function_at}
use Rattle.star_run.specs.Fixed.{fixed}
use Rattle.star_run.specs.Running.{world}
use Rattle.star_run.proofs.OwnLemmas.{default_stops, function_bound, function_goes, function_stops, own_goes, own_then}
use Rattle.star_run.proofs.RunLemmas.{credit_later}
use Rattle.star_run.proofs.level.Level.define.Goals as goal

pub made_function-requires-clause-credit : goal.made_function-requires-clause-credit
made_function-requires-clause-credit g c = credit_later c.charge.new.self c.default_values.new.run c.default_values.ensures.goes (c.in_ok-charge.ensures.credit (omega arith))

pub returns-in_err-defaults-clause-gives : goal.returns-in_err-defaults-clause-gives
returns-in_err-defaults-clause-gives g c =
    let r : c.from_residual-in_err-defaults.result ≡ Err c.in_err-defaults.field-0.0 = search rules in
    rw r (default_stops (fixed c.args.self.now.given) c.args.self.now.depth c.args.def.now c.args.number (world c.args.run.now) (world c.charge.new.self) c.in_ok-charge.ensures.gives c.as_slice.result.now c.as_slice.ensures (world c.default_values.new.run) c.in_err-defaults.field-0.0 c.in_err-defaults.ensures.gives)

pub returns-in_err-function-clause-gives : goal.returns-in_err-function-clause-gives
returns-in_err-function-clause-gives g c =
    let r : c.from_residual-in_err-function.result ≡ Err c.in_err-function.field-0.0 = search rules in
    rw r (function_stops (fixed c.args.self.now.given) c.args.self.now.depth c.args.def.now c.args.number (world c.args.run.now) (world c.charge.new.self) c.in_ok-charge.ensures.gives c.as_slice.result.now c.as_slice.ensures
    (world c.default_values.new.run) c.in_ok-defaults.defaults c.in_ok-defaults.ensures.gives c.in_ok-number.number c.in_ok-number.ensures (world c.made_function.new.self) c.in_err-function.field-0.0 c.in_err-function.ensures.gives)

pub returns-in_err-function-clause-goes : goal.returns-in_err-function-clause-goes
returns-in_err-function-clause-goes g c =
    function_goes c.args.self.now.given.program.now c.args.self.now.given.node c.in_ok-number.number c.args.def.now c.in_ok-defaults.defaults c.args.run.now c.charge.new.self c.default_values.new.run
    (c.in_ok-charge.ensures.paid (omega arith)) c.charge.ensures.goes c.default_values.ensures.goes c.made_function.new.self c.made_function.ensures.made c.requires.entered
    (ap (function_at c.args.self.now.given.program.now c.args.self.now.given.node) c.in_ok-number.ensures ∙ c.requires.function) (c.in_ok-defaults.ensures.count ∙ ap length c.as_slice.ensures)

pub returns-clause-gives : goal.returns-clause-gives
returns-clause-gives g c =
    function_bound (fixed c.args.self.now.given) c.args.self.now.depth c.args.def.now c.args.number (world c.args.run.now) (world c.charge.new.self) c.in_ok-charge.ensures.gives c.as_slice.result.now c.as_slice.ensures
    (world c.default_values.new.run) c.in_ok-defaults.defaults c.in_ok-defaults.ensures.gives c.in_ok-number.number c.in_ok-number.ensures (world c.made_function.new.self) (world c.bind.new.self) c.in_ok-function.function c.bind.result c.in_ok-function.ensures.gives c.bind.ensures.gives

pub returns-clause-goes : goal.returns-clause-goes
returns-clause-goes g c =
    own_then _ _ _ _ (function_goes c.args.self.now.given.program.now c.args.self.now.given.node c.in_ok-number.number c.args.def.now c.in_ok-defaults.defaults c.args.run.now c.charge.new.self c.default_values.new.run
    (c.in_ok-charge.ensures.paid (omega arith)) c.charge.ensures.goes c.default_values.ensures.goes c.made_function.new.self c.made_function.ensures.made c.requires.entered
    (ap (function_at c.args.self.now.given.program.now c.args.self.now.given.node) c.in_ok-number.ensures ∙ c.requires.function) (c.in_ok-defaults.ensures.count ∙ ap length c.as_slice.ensures))
    (own_goes _ _ _ c.bind.ensures.goes)
