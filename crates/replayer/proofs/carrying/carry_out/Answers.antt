use Rattle.std.proofs.Common.{◌≡◌, ◌<◌, ◌≤◌, ◌+◌, length, drop, take, rules, arith, refl, sym, ap, ◌∙◌, subst}
use Rattle.plan_type.specs.Prices.{prices_of}
use Rattle.replayer.specs.Machines.{steps_in_all}
use Rattle.replayer.proofs.GoingLemmas.{begins, le_then, room_left, steps_end, texts_many, ends_standing, ends_telling, goes, is_fine, may_come, parts_are, tells_next}
use Rattle.replayer.proofs.CarryLemmas.{leaves, steps_on, stops}
use Rattle.std.proofs.lemmas.List.{drop_all, take_all}
use Rattle.replayer.proofs.carrying.carry_out.Goals as goal

pub loop-operation-init : goal.loop-operation-init
loop-operation-init g c = record {
  going = begins c.args.forest.now c.args.costs.now c.args.allowance c.args.budget.now.block c.args.budget.now.most (prices_of c.args.budget.now) c.args.operations.now (g.S.Store.stock c.args.store.now).told (g.K.Kernel.live c.args.kernel.now) (g.S.Store.stock c.args.store.now) c.args.texts.now refl c.requires.stands c.requires.told c.requires.legal c.requires.fine
      c.requires.limits.0 c.requires.limits.1 c.requires.texts (texts_many c.args.costs.now c.args.texts.now c.requires.texts);
  steps = refl;
  loaded = c.requires.loaded;
  later = omega arith;
  store_later = omega arith;
  heard = (refl, refl);
}

pub step-requires-clause-fine : goal.step-requires-clause-fine
step-requires-clause-fine g c = is_fine c.args.forest.now c.args.costs.now c.args.allowance c.args.budget.now.block c.args.budget.now.most (prices_of c.args.budget.now) c.args.operations.now (g.S.Store.stock c.args.store.now).told c.loop-operation.operation-index c.operation-item.result (g.K.Kernel.live c.loop-operation.kernel) (g.S.Store.stock c.loop-operation.store) c.loop-operation.texts c.loop-operation-test.true c.operation-item.is c.loop-operation.invariant.going

pub step-requires-clause-stands : goal.step-requires-clause-stands
step-requires-clause-stands g c = may_come c.args.forest.now c.args.costs.now c.args.allowance c.args.budget.now.block c.args.budget.now.most (prices_of c.args.budget.now) c.args.operations.now (g.S.Store.stock c.args.store.now).told c.loop-operation.operation-index c.operation-item.result (g.K.Kernel.live c.loop-operation.kernel) (g.S.Store.stock c.loop-operation.store) c.loop-operation.texts c.loop-operation-test.true c.operation-item.is c.loop-operation.invariant.going

pub step-requires-clause-loaded : goal.step-requires-clause-loaded
step-requires-clause-loaded g c = c.loop-operation.invariant.loaded

pub step-requires-clause-texts : goal.step-requires-clause-texts
step-requires-clause-texts g c = c.loop-operation.invariant.going.many

pub step-requires-clause-room : goal.step-requires-clause-room
step-requires-clause-room g c = room_left (g.K.Kernel.steps c.args.kernel.now) (g.K.Kernel.steps c.loop-operation.kernel) (steps_in_all (drop c.loop-operation.operation-index c.args.operations.now)) (steps_in_all c.args.operations.now) c.args.allowance c.loop-operation.invariant.steps c.requires.room

pub loop-operation-preserved : goal.loop-operation-preserved
loop-operation-preserved g c = record {
  going = goes c.args.forest.now c.args.costs.now c.args.allowance c.args.budget.now.block c.args.budget.now.most (prices_of c.args.budget.now) c.args.operations.now (g.S.Store.stock c.args.store.now).told c.loop-operation.operation-index c.operation-item.result (g.K.Kernel.live c.loop-operation.kernel) (g.K.Kernel.live c.step.new.kernel) (g.S.Store.stock c.loop-operation.store) (g.S.Store.stock c.step.new.store) c.loop-operation.texts c.step.new.texts c.loop-operation-test.true c.operation-item.is c.loop-operation.invariant.going
      (record { stands = c.in-Ok.ensures.stands; telling = c.in-Ok.ensures.told; texts_many = c.in-Ok.ensures.texts; block_is = c.in-Ok.ensures.limits.0; most_is = c.in-Ok.ensures.limits.1 });
  steps = steps_on c.args.forest.now c.args.costs.now c.args.allowance c.args.budget.now.block c.args.budget.now.most (prices_of c.args.budget.now) c.args.operations.now (g.S.Store.stock c.args.store.now).told c.loop-operation.operation-index c.operation-item.result (g.K.Kernel.live c.loop-operation.kernel) (g.S.Store.stock c.loop-operation.store) c.loop-operation.texts c.loop-operation-test.true c.operation-item.is c.loop-operation.invariant.going (g.K.Kernel.steps c.args.kernel.now) (g.K.Kernel.steps c.loop-operation.kernel) (g.K.Kernel.steps c.step.new.kernel) c.loop-operation.invariant.steps c.in-Ok.ensures.steps;
  loaded = c.in-Ok.ensures.loaded ∙ c.loop-operation.invariant.loaded;
  later = le_then (g.K.Kernel.faults c.args.kernel.now) (g.K.Kernel.faults c.loop-operation.kernel) (g.K.Kernel.faults c.step.new.kernel) c.loop-operation.invariant.later c.in-Ok.ensures.later;
  store_later = le_then (g.S.Store.faults c.args.store.now) (g.S.Store.faults c.loop-operation.store) (g.S.Store.faults c.step.new.store) c.loop-operation.invariant.store_later c.in-Ok.ensures.store_later;
  heard = tells_next c.args.operations.now c.loop-operation.operation-index c.operation-item.result c.loop-operation-test.true c.operation-item.is _ _ _ _ _ _ c.loop-operation.invariant.heard c.tell.ensures;
}

-- ---- all are done

pub returns-clause-stands : goal.returns-clause-stands
returns-clause-stands g c = ends_standing c.args.forest.now c.args.costs.now c.args.allowance c.args.budget.now.block c.args.budget.now.most (prices_of c.args.budget.now) c.args.operations.now (g.S.Store.stock c.args.store.now).told c.loop-operation.operation-index (g.K.Kernel.live c.loop-operation.kernel) (g.S.Store.stock c.loop-operation.store) c.loop-operation.texts c.loop-operation-test.false c.loop-operation.invariant.going

pub returns-clause-tells : goal.returns-clause-tells
returns-clause-tells g c = ends_telling c.args.forest.now c.args.costs.now c.args.allowance c.args.budget.now.block c.args.budget.now.most (prices_of c.args.budget.now) c.args.operations.now (g.S.Store.stock c.args.store.now).told c.loop-operation.operation-index (g.K.Kernel.live c.loop-operation.kernel) (g.S.Store.stock c.loop-operation.store) c.loop-operation.texts c.loop-operation-test.false c.loop-operation.invariant.going

pub returns-clause-texts : goal.returns-clause-texts
returns-clause-texts g c = c.loop-operation.invariant.going.many

pub returns-clause-steps : goal.returns-clause-steps
returns-clause-steps g c = steps_end c.args.operations.now c.loop-operation.operation-index (g.K.Kernel.steps c.args.kernel.now) (g.K.Kernel.steps c.loop-operation.kernel) c.loop-operation-test.false c.loop-operation.invariant.steps

pub returns-clause-limits : goal.returns-clause-limits
returns-clause-limits g c = (c.loop-operation.invariant.going.block_is, c.loop-operation.invariant.going.most_is)

pub returns-clause-loaded : goal.returns-clause-loaded
returns-clause-loaded g c = c.loop-operation.invariant.loaded ∙ sym c.requires.loaded

pub returns-clause-listeners : goal.returns-clause-listeners
returns-clause-listeners g c = (take c.loop-operation.operation-index c.args.operations.now, drop c.loop-operation.operation-index c.args.operations.now, parts_are c.args.operations.now c.loop-operation.operation-index, drop_all c.loop-operation.operation-index c.args.operations.now c.loop-operation-test.false, c.loop-operation.invariant.heard)

-- ---- one stops

pub returns-in-Err-clause-limits : goal.returns-in-Err-clause-limits
returns-in-Err-clause-limits g c = (c.in-Err.ensures.limits.0 ∙ c.loop-operation.invariant.going.block_is, c.in-Err.ensures.limits.1 ∙ c.loop-operation.invariant.going.most_is)

pub returns-in-Err-clause-loaded : goal.returns-in-Err-clause-loaded
returns-in-Err-clause-loaded g c = c.in-Err.ensures.loaded ∙ c.loop-operation.invariant.loaded ∙ sym c.requires.loaded

pub returns-in-Err-clause-listeners : goal.returns-in-Err-clause-listeners
returns-in-Err-clause-listeners g c = (
  take c.loop-operation.operation-index c.args.operations.now,
  drop c.loop-operation.operation-index c.args.operations.now,
  parts_are c.args.operations.now c.loop-operation.operation-index,
  leaves c.args.forest.now c.args.costs.now c.args.allowance c.args.budget.now.block c.args.budget.now.most (prices_of c.args.budget.now) c.args.operations.now (g.S.Store.stock c.args.store.now).told c.loop-operation.operation-index c.operation-item.result (g.K.Kernel.live c.loop-operation.kernel) (g.S.Store.stock c.loop-operation.store) c.loop-operation.texts c.loop-operation-test.true c.operation-item.is c.loop-operation.invariant.going (g.K.Kernel.faults c.loop-operation.kernel) (g.K.Kernel.faults c.step.new.kernel) (g.S.Store.faults c.loop-operation.store) (g.S.Store.faults c.step.new.store) c.in-Err.fault c.in-Err.ensures.err,
  c.loop-operation.invariant.heard,
)

pub returns-in-Err-clause-err : goal.returns-in-Err-clause-err
returns-in-Err-clause-err g c =
    stops c.args.forest.now c.args.costs.now c.args.allowance c.args.budget.now.block c.args.budget.now.most (prices_of c.args.budget.now) c.args.operations.now (g.S.Store.stock c.args.store.now).told c.loop-operation.operation-index c.operation-item.result (g.K.Kernel.live c.loop-operation.kernel) (g.S.Store.stock c.loop-operation.store) c.loop-operation.texts c.loop-operation-test.true c.operation-item.is c.loop-operation.invariant.going (g.K.Kernel.faults c.args.kernel.now) (g.K.Kernel.faults c.loop-operation.kernel) (g.K.Kernel.faults c.step.new.kernel) (g.S.Store.faults c.args.store.now) (g.S.Store.faults c.loop-operation.store) (g.S.Store.faults c.step.new.store)
    c.loop-operation.invariant.later c.loop-operation.invariant.store_later c.in-Err.fault c.in-Err.ensures.err
