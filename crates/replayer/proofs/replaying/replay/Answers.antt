use Rattle.std.proofs.Common.{◌≡◌, ◌≤◌, ℕ, List, [], Some, None, refl, sym, ap, ◌∙◌, subst, inl, rules, arith}
use Rattle.chex_base.specs.Outside.{Rose}
use Rattle.plan_type.specs.Operations.{CarriesOut, operations_of}
use Rattle.replayer.specs.Courses.{IsFirstToDiffer}
use Rattle.replayer.proofs.GoingLemmas.{le_then}
use Rattle.replayer.proofs.StopLemmas.{rose_later, rose_more}
use Rattle.replayer.proofs.ReplayLemmas.{begin_leaves, begun_limits, begun_stands, begun_told, bounded, first_as, not_told, part_damaged, part_differs, part_kernel, part_store, plan_fine, plan_live, plan_room, plan_stock, plan_texts, plan_work, told_some, told_still, work_steps}
use Rattle.replayer.proofs.replaying.replay.Goals as goal

-- ---- what carrying out needs

pub carry_out-requires-clause-limits : goal.carry_out-requires-clause-limits
carry_out-requires-clause-limits g c = begun_limits c.args.budget.now.block c.args.budget.now.most (g.S.Store.stock c.args.store.now) (g.S.Store.stock c.begin.new.store) c.in-Ok.ensures.ok.2

pub carry_out-requires-clause-stands : goal.carry_out-requires-clause-stands
carry_out-requires-clause-stands g c = begun_stands c.args.budget.now.block c.args.budget.now.most (g.S.Store.stock c.args.store.now) (g.S.Store.stock c.begin.new.store) c.in-Ok.ensures.ok.2 c.args.forest.now c.args.costs.now (g.K.Kernel.live c.begin.new.kernel)

pub carry_out-requires-clause-told : goal.carry_out-requires-clause-told
carry_out-requires-clause-told g c = begun_told c.args.budget.now.block c.args.budget.now.most (g.S.Store.stock c.args.store.now) (g.S.Store.stock c.begin.new.store) c.in-Ok.ensures.ok.2

pub carry_out-requires-clause-legal : goal.carry_out-requires-clause-legal
carry_out-requires-clause-legal g c = let carries = (subst (CarriesOut c.args.costs.now c.args.budget.now c.args.plan.now) (sym c.as_slice.ensures) c.in_ok-operations.ensures.carries_out) in carries.legal

pub carry_out-requires-clause-fine : goal.carry_out-requires-clause-fine
carry_out-requires-clause-fine g c = plan_fine c.args.costs.now c.args.budget.now c.args.plan.now c.requires.sound c.requires.class c.as_slice.result.now (c.as_slice.ensures ∙ c.in_ok-operations.ensures.list) (subst (CarriesOut c.args.costs.now c.args.budget.now c.args.plan.now) (sym c.as_slice.ensures) c.in_ok-operations.ensures.carries_out)

pub carry_out-requires-clause-room : goal.carry_out-requires-clause-room
carry_out-requires-clause-room g c = plan_room c.args.costs.now c.args.budget.now c.args.plan.now c.requires.sound c.requires.class c.as_slice.result.now (c.as_slice.ensures ∙ c.in_ok-operations.ensures.list) (subst (CarriesOut c.args.costs.now c.args.budget.now c.args.plan.now) (sym c.as_slice.ensures) c.in_ok-operations.ensures.carries_out) (g.K.Kernel.steps c.args.kernel.now) (g.K.Kernel.steps c.begin.new.kernel) c.args.allowance c.requires.steps c.in-Ok.ensures.steps c.requires.allowance.1

-- ---- all was done

pub returns-in-Ok-carry_out-clause-texts : goal.returns-in-Ok-carry_out-clause-texts
returns-in-Ok-carry_out-clause-texts g c some = (plan_texts c.args.costs.now c.args.budget.now c.args.plan.now c.requires.sound c.requires.class c.as_slice.result.now (c.as_slice.ensures ∙ c.in_ok-operations.ensures.list) (subst (CarriesOut c.args.costs.now c.args.budget.now c.args.plan.now) (sym c.as_slice.ensures) c.in_ok-operations.ensures.carries_out) c.args.forest.now c.args.allowance c.carry_out.new.texts c.in-Ok-carry_out.ensures.texts (c.in-Ok-carry_out.ensures.tells [] (told_some c.args.budget.now.block c.args.budget.now.most (g.S.Store.stock c.args.store.now) (g.S.Store.stock c.begin.new.store) c.in-Ok.ensures.ok.2 some)).1).0

pub returns-in-Ok-carry_out-clause-rows : goal.returns-in-Ok-carry_out-clause-rows
returns-in-Ok-carry_out-clause-rows g c some = (plan_texts c.args.costs.now c.args.budget.now c.args.plan.now c.requires.sound c.requires.class c.as_slice.result.now (c.as_slice.ensures ∙ c.in_ok-operations.ensures.list) (subst (CarriesOut c.args.costs.now c.args.budget.now c.args.plan.now) (sym c.as_slice.ensures) c.in_ok-operations.ensures.carries_out) c.args.forest.now c.args.allowance c.carry_out.new.texts c.in-Ok-carry_out.ensures.texts (c.in-Ok-carry_out.ensures.tells [] (told_some c.args.budget.now.block c.args.budget.now.most (g.S.Store.stock c.args.store.now) (g.S.Store.stock c.begin.new.store) c.in-Ok.ensures.ok.2 some)).1).1

pub returns-in-Ok-carry_out-clause-steps : goal.returns-in-Ok-carry_out-clause-steps
returns-in-Ok-carry_out-clause-steps g c = work_steps c.args.costs.now c.args.budget.now c.args.plan.now c.requires.sound c.requires.class c.as_slice.result.now (c.as_slice.ensures ∙ c.in_ok-operations.ensures.list) (subst (CarriesOut c.args.costs.now c.args.budget.now c.args.plan.now) (sym c.as_slice.ensures) c.in_ok-operations.ensures.carries_out) (g.K.Kernel.steps c.args.kernel.now) (g.K.Kernel.steps c.begin.new.kernel) (g.K.Kernel.steps c.carry_out.new.kernel) c.in-Ok.ensures.steps c.in-Ok-carry_out.ensures.steps

pub returns-in-Ok-carry_out-clause-live : goal.returns-in-Ok-carry_out-clause-live
returns-in-Ok-carry_out-clause-live g c some = plan_live c.args.costs.now c.args.budget.now c.args.plan.now c.requires.sound c.requires.class c.as_slice.result.now (c.as_slice.ensures ∙ c.in_ok-operations.ensures.list) (subst (CarriesOut c.args.costs.now c.args.budget.now c.args.plan.now) (sym c.as_slice.ensures) c.in_ok-operations.ensures.carries_out) c.args.forest.now c.args.allowance (g.K.Kernel.live c.carry_out.new.kernel) (g.S.Store.stock c.carry_out.new.store).told (c.in-Ok-carry_out.ensures.tells [] (told_some c.args.budget.now.block c.args.budget.now.most (g.S.Store.stock c.args.store.now) (g.S.Store.stock c.begin.new.store) c.in-Ok.ensures.ok.2 some)).0

pub returns-in-Ok-carry_out-clause-loaded : goal.returns-in-Ok-carry_out-clause-loaded
returns-in-Ok-carry_out-clause-loaded g c = c.in-Ok-carry_out.ensures.loaded ∙ c.in-Ok.ensures.ok.0

pub returns-in-Ok-carry_out-clause-store : goal.returns-in-Ok-carry_out-clause-store
returns-in-Ok-carry_out-clause-store g c = plan_stock c.args.costs.now c.args.budget.now c.args.plan.now c.requires.sound c.requires.class c.as_slice.result.now (c.as_slice.ensures ∙ c.in_ok-operations.ensures.list) (subst (CarriesOut c.args.costs.now c.args.budget.now c.args.plan.now) (sym c.as_slice.ensures) c.in_ok-operations.ensures.carries_out) c.args.forest.now (g.K.Kernel.live c.carry_out.new.kernel) (g.S.Store.stock c.carry_out.new.store) c.in-Ok-carry_out.ensures.stands

pub returns-in-Ok-carry_out-clause-bound : goal.returns-in-Ok-carry_out-clause-bound
returns-in-Ok-carry_out-clause-bound g c = bounded (g.S.Store.stock c.args.store.now) (g.S.Store.stock c.carry_out.new.store) c.args.budget.now.block c.args.budget.now.most (g.met.S.Store.kept c.carry_out.new.store) c.in-Ok-carry_out.ensures.limits

pub returns-in-Ok-carry_out-clause-listeners : goal.returns-in-Ok-carry_out-clause-listeners
returns-in-Ok-carry_out-clause-listeners g c = let h = c.in-Ok-carry_out.ensures.listeners in (h.0, h.1, sym (c.as_slice.ensures ∙ c.in_ok-operations.ensures.list) ∙ h.2, h.3, h.4)

pub returns-in-Ok-carry_out-clause-later : goal.returns-in-Ok-carry_out-clause-later
returns-in-Ok-carry_out-clause-later g c = le_then (g.K.Kernel.faults c.args.kernel.now) (g.K.Kernel.faults c.begin.new.kernel) (g.K.Kernel.faults c.carry_out.new.kernel) c.in-Ok.ensures.later c.in-Ok-carry_out.ensures.later

pub returns-in-Ok-carry_out-clause-store_later : goal.returns-in-Ok-carry_out-clause-store_later
returns-in-Ok-carry_out-clause-store_later g c = le_then (g.S.Store.faults c.args.store.now) (g.S.Store.faults c.begin.new.store) (g.S.Store.faults c.carry_out.new.store) c.in-Ok.ensures.store_later c.in-Ok-carry_out.ensures.store_later

-- ---- an operation stopped it

pub returns-clause-bound : goal.returns-clause-bound
returns-clause-bound g c = bounded (g.S.Store.stock c.args.store.now) (g.S.Store.stock c.carry_out.new.store) c.args.budget.now.block c.args.budget.now.most (g.met.S.Store.kept c.carry_out.new.store) c.in-Err-carry_out.ensures.limits

pub returns-clause-listeners : goal.returns-clause-listeners
returns-clause-listeners g c = let h = c.in-Err-carry_out.ensures.listeners in (h.0, h.1, sym (c.as_slice.ensures ∙ c.in_ok-operations.ensures.list) ∙ h.2, h.3, h.4)

pub returns-clause-differs : goal.returns-clause-differs
returns-clause-differs g c =
    part_differs c.in-Err-carry_out.fault (Rose (g.K.Kernel.faults c.begin.new.kernel) (g.K.Kernel.faults c.carry_out.new.kernel)) (Rose (g.S.Store.faults c.begin.new.store) (g.S.Store.faults c.carry_out.new.store)) (λ v d. IsFirstToDiffer c.args.forest.now c.args.costs.now c.args.allowance (g.S.Store.stock c.begin.new.store).told c.as_slice.result.now v d) (λ v d. IsFirstToDiffer c.args.forest.now c.args.costs.now c.args.allowance (g.S.Store.stock c.args.store.now).told (operations_of c.args.costs.now c.args.budget.now c.args.plan.now) v d) (λ v. (files : List (ℕ × List ℕ)) → (g.S.Store.stock c.begin.new.store).told ≡ Some files → ⊥) (λ v d f. first_as c.args.forest.now c.args.costs.now c.args.allowance (g.S.Store.stock c.begin.new.store).told (g.S.Store.stock c.args.store.now).told c.as_slice.result.now (operations_of c.args.costs.now c.args.budget.now c.args.plan.now) v d (told_still c.args.budget.now.block c.args.budget.now.most (g.S.Store.stock c.args.store.now) (g.S.Store.stock c.begin.new.store) c.in-Ok.ensures.ok.2) (c.as_slice.ensures ∙ c.in_ok-operations.ensures.list) f) c.in-Err-carry_out.ensures.err

pub returns-clause-damaged : goal.returns-clause-damaged
returns-clause-damaged g c =
    part_damaged c.in-Err-carry_out.fault (Rose (g.K.Kernel.faults c.begin.new.kernel) (g.K.Kernel.faults c.carry_out.new.kernel)) (Rose (g.S.Store.faults c.begin.new.store) (g.S.Store.faults c.carry_out.new.store)) (λ v d. IsFirstToDiffer c.args.forest.now c.args.costs.now c.args.allowance (g.S.Store.stock c.begin.new.store).told c.as_slice.result.now v d) (λ v. (files : List (ℕ × List ℕ)) → (g.S.Store.stock c.begin.new.store).told ≡ Some files → ⊥) (λ v. (g.S.Store.stock c.args.store.now).told ≡ None) (λ v never. not_told (g.S.Store.stock c.begin.new.store).told (g.S.Store.stock c.args.store.now).told (told_still c.args.budget.now.block c.args.budget.now.most (g.S.Store.stock c.args.store.now) (g.S.Store.stock c.begin.new.store) c.in-Ok.ensures.ok.2) never) c.in-Err-carry_out.ensures.err

pub returns-clause-kernel_cause : goal.returns-clause-kernel_cause
returns-clause-kernel_cause g c =
    part_kernel c.in-Err-carry_out.fault (Rose (g.K.Kernel.faults c.begin.new.kernel) (g.K.Kernel.faults c.carry_out.new.kernel)) (Rose (g.K.Kernel.faults c.args.kernel.now) (g.K.Kernel.faults c.carry_out.new.kernel)) (Rose (g.S.Store.faults c.begin.new.store) (g.S.Store.faults c.carry_out.new.store)) (λ v d. IsFirstToDiffer c.args.forest.now c.args.costs.now c.args.allowance (g.S.Store.stock c.begin.new.store).told c.as_slice.result.now v d) (λ v. (files : List (ℕ × List ℕ)) → (g.S.Store.stock c.begin.new.store).told ≡ Some files → ⊥) (rose_later (g.K.Kernel.faults c.args.kernel.now) (g.K.Kernel.faults c.begin.new.kernel) (g.K.Kernel.faults c.carry_out.new.kernel) c.in-Ok.ensures.later) c.in-Err-carry_out.ensures.err

pub returns-clause-store_cause : goal.returns-clause-store_cause
returns-clause-store_cause g c =
    part_store c.in-Err-carry_out.fault (Rose (g.K.Kernel.faults c.begin.new.kernel) (g.K.Kernel.faults c.carry_out.new.kernel)) (Rose (g.S.Store.faults c.begin.new.store) (g.S.Store.faults c.carry_out.new.store)) (Rose (g.S.Store.faults c.args.store.now) (g.S.Store.faults c.carry_out.new.store)) (λ v d. IsFirstToDiffer c.args.forest.now c.args.costs.now c.args.allowance (g.S.Store.stock c.begin.new.store).told c.as_slice.result.now v d) (λ v. (files : List (ℕ × List ℕ)) → (g.S.Store.stock c.begin.new.store).told ≡ Some files → ⊥) (rose_later (g.S.Store.faults c.args.store.now) (g.S.Store.faults c.begin.new.store) (g.S.Store.faults c.carry_out.new.store) c.in-Ok.ensures.store_later) c.in-Err-carry_out.ensures.err

pub returns-clause-later : goal.returns-clause-later
returns-clause-later g c = le_then (g.K.Kernel.faults c.args.kernel.now) (g.K.Kernel.faults c.begin.new.kernel) (g.K.Kernel.faults c.carry_out.new.kernel) c.in-Ok.ensures.later c.in-Err-carry_out.ensures.later

pub returns-clause-store_later : goal.returns-clause-store_later
returns-clause-store_later g c = le_then (g.S.Store.faults c.args.store.now) (g.S.Store.faults c.begin.new.store) (g.S.Store.faults c.carry_out.new.store) c.in-Ok.ensures.store_later c.in-Err-carry_out.ensures.store_later

-- ---- it did not begin

pub returns-in-Err-clause-bound : goal.returns-in-Err-clause-bound
returns-in-Err-clause-bound g c = inl c.in-Err.ensures.err

pub returns-in-Err-clause-listeners : goal.returns-in-Err-clause-listeners
returns-in-Err-clause-listeners g c = ([], operations_of c.args.costs.now c.args.budget.now c.args.plan.now, refl, begin_leaves (Rose (g.K.Kernel.faults c.args.kernel.now) (g.K.Kernel.faults c.begin.new.kernel)) (Rose (g.S.Store.faults c.args.store.now) (g.S.Store.faults c.begin.new.store)) c.in-Err.fault (operations_of c.args.costs.now c.args.budget.now c.args.plan.now) c.in-Err.ensures.cause, (refl, refl))

pub returns-in-Err-clause-differs : goal.returns-in-Err-clause-differs
returns-in-Err-clause-differs g c = part_differs c.in-Err.fault (Rose (g.K.Kernel.faults c.args.kernel.now) (g.K.Kernel.faults c.begin.new.kernel)) (Rose (g.S.Store.faults c.args.store.now) (g.S.Store.faults c.begin.new.store)) (λ v d. ⊥) (λ v d. IsFirstToDiffer c.args.forest.now c.args.costs.now c.args.allowance (g.S.Store.stock c.args.store.now).told (operations_of c.args.costs.now c.args.budget.now c.args.plan.now) v d) (λ v. ⊥) (λ v d never. absurd never) c.in-Err.ensures.cause

pub returns-in-Err-clause-damaged : goal.returns-in-Err-clause-damaged
returns-in-Err-clause-damaged g c = part_damaged c.in-Err.fault (Rose (g.K.Kernel.faults c.args.kernel.now) (g.K.Kernel.faults c.begin.new.kernel)) (Rose (g.S.Store.faults c.args.store.now) (g.S.Store.faults c.begin.new.store)) (λ v d. ⊥) (λ v. ⊥) (λ v. (g.S.Store.stock c.args.store.now).told ≡ None) (λ v never. absurd never) c.in-Err.ensures.cause

pub returns-in-Err-clause-kernel_cause : goal.returns-in-Err-clause-kernel_cause
returns-in-Err-clause-kernel_cause g c = part_kernel c.in-Err.fault (Rose (g.K.Kernel.faults c.args.kernel.now) (g.K.Kernel.faults c.begin.new.kernel)) (Rose (g.K.Kernel.faults c.args.kernel.now) (g.K.Kernel.faults c.begin.new.kernel)) (Rose (g.S.Store.faults c.args.store.now) (g.S.Store.faults c.begin.new.store)) (λ v d. ⊥) (λ v. ⊥) (λ k. k) c.in-Err.ensures.cause

pub returns-in-Err-clause-store_cause : goal.returns-in-Err-clause-store_cause
returns-in-Err-clause-store_cause g c = part_store c.in-Err.fault (Rose (g.K.Kernel.faults c.args.kernel.now) (g.K.Kernel.faults c.begin.new.kernel)) (Rose (g.S.Store.faults c.args.store.now) (g.S.Store.faults c.begin.new.store)) (Rose (g.S.Store.faults c.args.store.now) (g.S.Store.faults c.begin.new.store)) (λ v d. ⊥) (λ v. ⊥) (λ k. k) c.in-Err.ensures.cause
