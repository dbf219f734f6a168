use Rattle.std.proofs.Common.{map, rules}
use Rattle.std.specs.Prelude.{sum}
use Rattle.star_meaning.specs.Statements.{default_weight}
use Rattle.star_run.specs.Fixed.{fixed}
use Rattle.star_run.proofs.CallLemmas.{blocks_later, body_ends, body_stops, defaults_stop}
use Rattle.star_run.proofs.level.Level.run_body.Goals as goal

pub returns-in_err-charge_sum-clause-gives : goal.returns-in_err-charge_sum-clause-gives
returns-in_err-charge_sum-clause-gives g c = λ all h.
    defaults_stop (fixed c.args.self.now.given) c.args.self.now.depth c.args.def.now c.args.id all _ c.in_err-charge_sum.field-0.0 c.args.run.now c.charge_sum.new.self (search rules)
    (c.in_err-charge_sum.ensures.gives (sum (map default_weight all)) h.weight)

pub returns-in_err-value-clause-gives : goal.returns-in_err-value-clause-gives
returns-in_err-value-clause-gives g c = λ all h.
    body_stops (fixed c.args.self.now.given) c.args.self.now.depth c.args.def.now c.args.id all c.args.run.now c.charge_sum.new.self c.enter_function.new.self c.args.filling.slots
    (c.in_ok-charge_sum.ensures.gives (sum (map default_weight all)) h.weight) c.in_ok-blocks.ensures.ok h.slots _ c.in_err-value.field-0.0 c.body_value.new.run (search rules) c.in_err-value.ensures.gives

pub leave_function-requires : goal.leave_function-requires
leave_function-requires g c =
    blocks_later c.charge_sum.new.self c.enter_function.new.self c.body_value.new.run _ c.in_ok-blocks.blocks c.in_ok-blocks.ensures.ok c.body_value.ensures.goes c.in_ok-blocks.ensures.fit

pub returns-clause-gives : goal.returns-clause-gives
returns-clause-gives g c = λ all h.
    body_ends (fixed c.args.self.now.given) c.args.self.now.depth c.args.def.now c.args.id all c.args.run.now c.charge_sum.new.self c.enter_function.new.self c.args.filling.slots
    (c.in_ok-charge_sum.ensures.gives (sum (map default_weight all)) h.weight) c.in_ok-blocks.ensures.ok h.slots c.in_ok-value.value c.body_value.new.run c.leave_function.new.self c.in_ok-blocks.blocks
    c.in_ok-value.ensures.gives c.in_ok-blocks.ensures.blocks c.leave_function.ensures.gives
