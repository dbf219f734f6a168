use Rattle.std.proofs.Common.{◌≡◌, ◌-◌, ◌<◌, length, refl, sym, ap, ◌∙◌, subst}
use Rattle.std.specs.Prelude.{slice_set}
use Rattle.replayer.specs.Machines.{IsFine}
use Rattle.replayer.proofs.AnswerLemmas.{both_ok, ok_all, ok_with}
use Rattle.replayer.proofs.StandLemmas.{compute_stands, evict_stands, few_at_compute, held_at_evict, held_at_restore, not_held, put_stands, reset_stands, restore_stands, room_there}
use Rattle.replayer.proofs.StepLemmas.{checkpoint_tells, compute_tells, evict_tells, no_steps, own_steps, reset_tells, restore_tells}
use Rattle.replayer.proofs.StopLemmas.{checkpoint_stops, compute_stops, restore_stops}
use Rattle.replayer.proofs.TreeLemmas.{few_nodes, node_of, place_there}
use Rattle.plan_type.specs.declared.operations.Operation.TheVariants.{Reset, Compute, Checkpoint, Restore, Evict}
use Rattle.replayer.proofs.steps.step.Goals as goal

-- ---- what the parts need

pub compute-requires-clause-node : goal.compute-requires-clause-node
compute-requires-clause-node g c =
    node_of c.args.costs.now c.args.forest.now c.requires.sound c.requires.tree c.in-Compute.node (subst (IsFine c.args.costs.now) c.in-Compute.is c.requires.fine)

pub compute-requires-clause-reached : goal.compute-requires-clause-reached
compute-requires-clause-reached g c = subst (IsFine c.args.costs.now) c.in-Compute.is c.requires.fine

pub compute-requires-clause-live : goal.compute-requires-clause-live
compute-requires-clause-live g c = let r = c.requires.stands in
    few_at_compute c.args.costs.now c.args.forest.now (g.K.Kernel.live c.args.kernel.now) (g.S.Store.stock c.args.store.now) r.0 c.args.operation c.requires.sound c.requires.tree c.in-Compute.node c.in-Compute.steps c.in-Compute.is
    (subst (IsFine c.args.costs.now) c.in-Compute.is c.requires.fine) r.1 r.2

pub set-requires : goal.set-requires
set-requires g c =
    subst (λ n. n - 1 < length c.args.texts.now) (sym c.node.view_is)
    (place_there c.args.costs.now c.in-Compute.node _ (subst (IsFine c.args.costs.now) c.in-Compute.is c.requires.fine) c.requires.texts).1

pub checkpoint-requires-clause-live : goal.checkpoint-requires-clause-live
checkpoint-requires-clause-live g c = let r = c.requires.stands in
    room_there c.args.costs.now c.args.forest.now (g.K.Kernel.live c.args.kernel.now) (g.S.Store.stock c.args.store.now) r.0 c.args.operation c.in-Checkpoint.node c.in-Checkpoint.blocks c.in-Checkpoint.is
    (g.met.S.Store.kept c.args.store.now) (subst (IsFine c.args.costs.now) c.in-Checkpoint.is c.requires.fine) r.1 r.2

pub checkpoint-requires-clause-node : goal.checkpoint-requires-clause-node
checkpoint-requires-clause-node g c = let r = c.requires.stands in
    not_held c.args.costs.now c.args.forest.now (g.K.Kernel.live c.args.kernel.now) (g.S.Store.stock c.args.store.now) r.0 c.args.operation c.in-Checkpoint.node c.in-Checkpoint.blocks c.in-Checkpoint.is r.1 r.2

pub restore-requires-clause-node : goal.restore-requires-clause-node
restore-requires-clause-node g c =
    (node_of c.args.costs.now c.args.forest.now c.requires.sound c.requires.tree c.in-Restore.node (subst (IsFine c.args.costs.now) c.in-Restore.is c.requires.fine)).1

pub restore-requires-clause-small : goal.restore-requires-clause-small
restore-requires-clause-small g c = few_nodes c.args.costs.now c.in-Restore.node c.requires.sound (subst (IsFine c.args.costs.now) c.in-Restore.is c.requires.fine)

pub restore-requires-clause-held : goal.restore-requires-clause-held
restore-requires-clause-held g c = let r = c.requires.stands in
    held_at_restore c.args.costs.now c.args.forest.now (g.K.Kernel.live c.args.kernel.now) (g.S.Store.stock c.args.store.now) r.0 c.args.operation c.in-Restore.node c.in-Restore.is r.1 r.2

pub evict-requires : goal.evict-requires
evict-requires g c = let r = c.requires.stands in
    held_at_evict c.args.costs.now c.args.forest.now (g.K.Kernel.live c.args.kernel.now) (g.S.Store.stock c.args.store.now) r.0 c.args.operation c.in-Evict.node c.in-Evict.is r.1 r.2

-- ---- where they stand

pub returns-in-Reset-clause-stands : goal.returns-in-Reset-clause-stands
returns-in-Reset-clause-stands g c m prices s legal =
    reset_stands c.args.costs.now c.args.forest.now (g.K.Kernel.live c.args.kernel.now) (g.S.Store.stock c.args.store.now) m c.args.operation prices (g.K.Kernel.live c.reset.new.self) c.in-Reset.is c.reset.ensures.live s

pub returns-in-Ok-clause-stands : goal.returns-in-Ok-clause-stands
returns-in-Ok-clause-stands g c m prices s legal =
    compute_stands c.args.costs.now c.args.forest.now (g.K.Kernel.live c.args.kernel.now) (g.S.Store.stock c.args.store.now) m c.args.operation c.requires.sound c.requires.tree c.in-Compute.node c.in-Compute.steps c.args.allowance prices
    (g.K.Kernel.live c.compute.new.kernel) c.in-Ok.text c.in-Compute.is (subst (IsFine c.args.costs.now) c.in-Compute.is c.requires.fine) c.in-Ok.ensures.ran s legal

pub returns-in-Checkpoint-clause-stands : goal.returns-in-Checkpoint-clause-stands
returns-in-Checkpoint-clause-stands g c =
    both_ok c.checkpoint.result
    (λ put same m prices s legal. put_stands c.args.costs.now c.args.forest.now (g.K.Kernel.live c.args.kernel.now) (g.S.Store.stock c.args.store.now) m c.args.operation c.in-Checkpoint.node c.in-Checkpoint.blocks prices
    (g.K.Kernel.live c.checkpoint.new.kernel) (g.S.Store.stock c.checkpoint.new.store) c.in-Checkpoint.is (g.met.S.Store.kept c.args.store.now) (subst (IsFine c.args.costs.now) c.in-Checkpoint.is c.requires.fine) put same s legal)
    c.checkpoint.ensures.put c.checkpoint.ensures.live

pub returns-in-Restore-clause-stands : goal.returns-in-Restore-clause-stands
returns-in-Restore-clause-stands g c =
    ok_with c.restore.result
    (λ went m prices s legal. restore_stands c.args.costs.now c.args.forest.now (g.K.Kernel.live c.args.kernel.now) (g.S.Store.stock c.args.store.now) m c.args.operation c.in-Restore.node prices
    (g.K.Kernel.live c.restore.new.kernel) (g.S.Store.stock c.restore.new.store) c.in-Restore.is went c.restore.ensures.store s)
    c.restore.ensures.live

pub returns-in-Ok-evict-clause-stands : goal.returns-in-Ok-evict-clause-stands
returns-in-Ok-evict-clause-stands g c m prices s legal =
    evict_stands c.args.costs.now c.args.forest.now (g.K.Kernel.live c.args.kernel.now) (g.S.Store.stock c.args.store.now) m c.args.operation c.in-Evict.node prices (g.S.Store.stock c.evict.new.self) c.in-Evict.is c.in-Ok-evict.ensures.ok s legal

-- ---- what is told and printed

pub returns-in-Reset-clause-told : goal.returns-in-Reset-clause-told
returns-in-Reset-clause-told g c m prices t legal =
    reset_tells c.args.costs.now c.args.forest.now c.args.allowance (g.K.Kernel.live c.args.kernel.now) (g.S.Store.stock c.args.store.now) m prices c.args.operation (g.K.Kernel.live c.reset.new.self) c.args.texts.now c.in-Reset.is c.reset.ensures.live t

pub returns-in-Ok-clause-told : goal.returns-in-Ok-clause-told
returns-in-Ok-clause-told g c m prices t legal =
    compute_tells c.args.costs.now c.args.forest.now c.args.allowance (g.K.Kernel.live c.args.kernel.now) (g.S.Store.stock c.args.store.now) m prices c.args.operation c.requires.sound c.requires.tree c.in-Compute.node c.in-Compute.steps (g.K.Kernel.live c.compute.new.kernel) c.in-Ok.text
    c.args.texts.now c.set.new.self c.in-Compute.is (subst (IsFine c.args.costs.now) c.in-Compute.is c.requires.fine) c.in-Ok.ensures.ran (c.set.ensures ∙ ap (λ n. slice_set c.args.texts.now (n - 1) c.in-Ok.text) c.node.view_is) t legal

pub returns-in-Checkpoint-clause-told : goal.returns-in-Checkpoint-clause-told
returns-in-Checkpoint-clause-told g c =
    both_ok c.checkpoint.result
    (λ put same m prices t legal. checkpoint_tells c.args.costs.now c.args.forest.now c.args.allowance (g.K.Kernel.live c.args.kernel.now) (g.S.Store.stock c.args.store.now) m prices c.args.operation c.in-Checkpoint.node c.in-Checkpoint.blocks
    (g.K.Kernel.live c.checkpoint.new.kernel) (g.S.Store.stock c.checkpoint.new.store) c.args.texts.now (g.K.Kernel.loaded c.args.kernel.now) c.in-Checkpoint.is c.requires.loaded (g.met.K.Kernel.valid c.args.kernel.now) same put t legal)
    c.checkpoint.ensures.put c.checkpoint.ensures.live

pub returns-in-Restore-clause-told : goal.returns-in-Restore-clause-told
returns-in-Restore-clause-told g c =
    ok_with c.restore.result
    (λ got m prices t legal. restore_tells c.args.costs.now c.args.forest.now c.args.allowance (g.K.Kernel.live c.args.kernel.now) (g.S.Store.stock c.args.store.now) m prices c.args.operation c.in-Restore.node
    (g.K.Kernel.live c.restore.new.kernel) (g.S.Store.stock c.restore.new.store) c.args.texts.now (g.K.Kernel.loaded c.args.kernel.now) c.in-Restore.is c.requires.loaded c.restore.ensures.store got t)
    c.restore.ensures.told

pub returns-in-Ok-evict-clause-told : goal.returns-in-Ok-evict-clause-told
returns-in-Ok-evict-clause-told g c m prices t legal =
    evict_tells c.args.costs.now c.args.forest.now c.args.allowance (g.K.Kernel.live c.args.kernel.now) (g.S.Store.stock c.args.store.now) m prices c.args.operation c.in-Evict.node (g.S.Store.stock c.evict.new.self) c.args.texts.now c.in-Evict.is c.in-Ok-evict.ensures.ok t

-- ---- steps

pub returns-in-Reset-clause-steps : goal.returns-in-Reset-clause-steps
returns-in-Reset-clause-steps g c m legal = no_steps c.args.operation Reset (g.K.Kernel.steps c.args.kernel.now) (g.K.Kernel.steps c.reset.new.self) c.in-Reset.is refl c.reset.ensures.same.1

pub returns-in-Ok-clause-steps : goal.returns-in-Ok-clause-steps
returns-in-Ok-clause-steps g c m legal =
    own_steps c.args.costs.now (g.S.Store.stock c.args.store.now).block (g.S.Store.stock c.args.store.now).most m c.args.operation c.in-Compute.node c.in-Compute.steps (g.K.Kernel.steps c.args.kernel.now) (g.K.Kernel.steps c.compute.new.kernel) c.in-Compute.is legal c.in-Ok.ensures.steps

pub returns-in-Checkpoint-clause-steps : goal.returns-in-Checkpoint-clause-steps
returns-in-Checkpoint-clause-steps g c =
    ok_all c.checkpoint.result (λ m legal. no_steps c.args.operation (Checkpoint c.in-Checkpoint.node c.in-Checkpoint.blocks) (g.K.Kernel.steps c.args.kernel.now) (g.K.Kernel.steps c.checkpoint.new.kernel) c.in-Checkpoint.is refl c.checkpoint.ensures.same.1)

pub returns-in-Restore-clause-steps : goal.returns-in-Restore-clause-steps
returns-in-Restore-clause-steps g c =
    ok_all c.restore.result (λ m legal. no_steps c.args.operation (Restore c.in-Restore.node) (g.K.Kernel.steps c.args.kernel.now) (g.K.Kernel.steps c.restore.new.kernel) c.in-Restore.is refl c.restore.ensures.same.1)

pub returns-in-Ok-evict-clause-steps : goal.returns-in-Ok-evict-clause-steps
returns-in-Ok-evict-clause-steps g c m legal = no_steps c.args.operation (Evict c.in-Evict.node) (g.K.Kernel.steps c.args.kernel.now) (g.K.Kernel.steps c.args.kernel.now) c.in-Evict.is refl refl

-- ---- why they stop

pub returns-in-Err-clause-err : goal.returns-in-Err-clause-err
returns-in-Err-clause-err g c =
    compute_stops c.args.costs.now c.args.forest.now c.args.allowance (g.K.Kernel.live c.args.kernel.now) (g.S.Store.stock c.args.store.now) c.args.operation c.requires.sound c.requires.tree c.in-Compute.node c.in-Compute.steps (g.K.Kernel.faults c.args.kernel.now) (g.K.Kernel.faults c.compute.new.kernel) (g.S.Store.faults c.args.store.now) (g.S.Store.faults c.args.store.now)
    c.in-Compute.is (subst (IsFine c.args.costs.now) c.in-Compute.is c.requires.fine) c.in-Err.fault c.in-Err.ensures.err

pub returns-in-Checkpoint-clause-err : goal.returns-in-Checkpoint-clause-err
returns-in-Checkpoint-clause-err g c =
    checkpoint_stops c.args.costs.now c.args.forest.now c.args.allowance (g.K.Kernel.live c.args.kernel.now) (g.S.Store.stock c.args.store.now) c.args.operation (g.K.Kernel.faults c.args.kernel.now) (g.K.Kernel.faults c.checkpoint.new.kernel) (g.S.Store.faults c.args.store.now) (g.S.Store.faults c.checkpoint.new.store) c.checkpoint.result c.checkpoint.ensures.err

pub returns-in-Restore-clause-err : goal.returns-in-Restore-clause-err
returns-in-Restore-clause-err g c =
    restore_stops c.args.costs.now c.args.forest.now c.args.allowance (g.K.Kernel.live c.args.kernel.now) (g.S.Store.stock c.args.store.now) c.args.operation (g.K.Kernel.loaded c.args.kernel.now) c.requires.loaded c.in-Restore.node (g.K.Kernel.faults c.args.kernel.now) (g.K.Kernel.faults c.restore.new.kernel) (g.S.Store.faults c.args.store.now) (g.S.Store.faults c.restore.new.store)
    c.in-Restore.is c.restore.result c.restore.ensures.err
