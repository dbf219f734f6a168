use Rattle.std.proofs.Common.{◌≡◌, ◌++◌, length, refl, sym, ap, subst, ◌∙◌, arith, rules, false, Err, None, Some}
use Rattle.std.specs.Prelude.{option_map}
use Rattle.star_meaning.specs.declared.flow.Flow.{Flow}
use Rattle.star_meaning.specs.Statements.{body_of, small_of, statement_of}
use Rattle.star_meaning.specs.Values.{items_in}
use Rattle.star_meaning.specs.World.{lock_of}
use Rattle.star_run.specs.Bodies.{next_at}
use Rattle.star_run.specs.Fixed.{callee, fixed, setting}
use Rattle.star_run.specs.Halts.{Halts}
use Rattle.star_run.specs.Running.{Running, world}
use Rattle.star_run.proofs.CourseLemmas.{augmented_at, branch_passed, branch_stops, branch_taken, branches_end, ended_fits, flow_later, indented, items_end, kind_assigned, kind_augmented, kind_goes, kind_stops, last_is, place_within, repeat_halts, repeat_nothing, repeat_stops, repeat_went, sequence_ends, sequence_on, sequence_out, sequence_stops, turn_ended, turn_held, turn_locked, turn_passed, turn_stops, turns_end}
use Rattle.star_run.proofs.OverLemmas.{counted_items, no_items}
use Rattle.star_run.proofs.StatementCases.{for_at, if_at}
use Rattle.star_run.proofs.WaitLemmas.{fits_none, goes_same, goes_then}
use Rattle.star_run.proofs.level.Level.+exec.Goals as goal

pub statements-loop-statement-init : goal.statements-loop-statement-init
statements-loop-statement-init g t c = record { same = refl; goes = goes_same _ }

pub statements-loop-statement-preserved : goal.statements-loop-statement-preserved
statements-loop-statement-preserved g t c = record {
  same = sym (sequence_on (λ last s. statement_of (setting (fixed c.args.self.now.given)) (callee (fixed c.args.self.now.given) c.args.self.now.depth) s false None) false c.args.all.now c.loop-statement.statement-index _ false c.loop-statement-test.true c.statement-item.is refl _ _ _ c.in_ok-ended.ensures.gives c.in-On.is) ∙ c.loop-statement.invariant.same;
  goes = goes_then _ _ _ c.loop-statement.invariant.goes c.exec.ensures.goes;
}

pub statements-returns-in_default-clause-gives : goal.statements-returns-in_default-clause-gives
statements-returns-in_default-clause-gives g t c = sym c.loop-statement.invariant.same ∙ sequence_out (λ last s. statement_of (setting (fixed c.args.self.now.given)) (callee (fixed c.args.self.now.given) c.args.self.now.depth) s false None) false c.args.all.now c.loop-statement.statement-index _ false c.loop-statement-test.true c.statement-item.is refl _ _ _ c.in_ok-ended.ensures.gives c.in_default.not-On

pub statements-returns-in_err-ended-clause-gives : goal.statements-returns-in_err-ended-clause-gives
statements-returns-in_err-ended-clause-gives g t c =
    let r : c.from_residual.result ≡ Err c.in_err-ended.field-0.0 = search rules in
    rw r (subst (λ o. Halts {A = Flow} o (Err c.in_err-ended.field-0.0) (world c.exec.new.run)) c.loop-statement.invariant.same (sequence_stops (λ last s. statement_of (setting (fixed c.args.self.now.given)) (callee (fixed c.args.self.now.given) c.args.self.now.depth) s false None) false c.args.all.now c.loop-statement.statement-index _ false c.loop-statement-test.true c.statement-item.is refl (world c.loop-statement.run) (world c.exec.new.run) c.in_err-ended.field-0.0 c.in_err-ended.ensures.gives))

pub statements-returns-clause-gives : goal.statements-returns-clause-gives
statements-returns-clause-gives g t c = sym c.loop-statement.invariant.same ∙ sequence_ends (λ last s. statement_of (setting (fixed c.args.self.now.given)) (callee (fixed c.args.self.now.given) c.args.self.now.depth) s false None) false c.args.all.now c.loop-statement.statement-index _ c.loop-statement-test.false

pub branches-loop-branch-init : goal.branches-loop-branch-init
branches-loop-branch-init g t c = record { same = refl; goes = goes_same _ }

pub branches-loop-branch-preserved : goal.branches-loop-branch-preserved
branches-loop-branch-preserved g t c = record {
  same = sym (branch_passed (setting (fixed c.args.self.now.given)) (callee (fixed c.args.self.now.given) c.args.self.now.depth) c.args.at c.args.other.now c.args.more.now c.loop-branch.branch-index _ c.loop-branch-test.true c.branch-item.is _ _ _ c.in_ok-holds.ensures.gives c.if-holds.false) ∙ c.loop-branch.invariant.same;
  goes = goes_then _ _ _ c.loop-branch.invariant.goes c.condition.ensures.goes;
}

pub branches-returns-then-holds-clause-gives : goal.branches-returns-then-holds-clause-gives
branches-returns-then-holds-clause-gives g t c =
    subst (λ o. Halts {A = Flow} o c.block.result (world c.block.new.run)) (sym (branch_taken (setting (fixed c.args.self.now.given)) (callee (fixed c.args.self.now.given) c.args.self.now.depth) c.args.at c.args.other.now c.args.more.now c.loop-branch.branch-index _ c.loop-branch-test.true c.branch-item.is (world c.loop-branch.run) (world c.condition.new.run) c.in_ok-holds.holds c.in_ok-holds.ensures.gives c.if-holds.true) ∙ c.loop-branch.invariant.same) c.block.ensures.gives

pub branches-returns-in_err-holds-clause-gives : goal.branches-returns-in_err-holds-clause-gives
branches-returns-in_err-holds-clause-gives g t c =
    let r : c.from_residual.result ≡ Err c.in_err-holds.field-0.0 = search rules in
    rw r (subst (λ o. Halts {A = Flow} o (Err c.in_err-holds.field-0.0) (world c.condition.new.run)) c.loop-branch.invariant.same (branch_stops (setting (fixed c.args.self.now.given)) (callee (fixed c.args.self.now.given) c.args.self.now.depth) c.args.at c.args.other.now c.args.more.now c.loop-branch.branch-index _ c.loop-branch-test.true c.branch-item.is (world c.loop-branch.run) (world c.condition.new.run) c.in_err-holds.field-0.0 c.in_err-holds.ensures.gives))

pub branches-returns-clause-gives : goal.branches-returns-clause-gives
branches-returns-clause-gives g t c =
    subst (λ o. Halts {A = Flow} o c.otherwise.result (world c.otherwise.new.run)) (sym (branches_end (setting (fixed c.args.self.now.given)) (callee (fixed c.args.self.now.given) c.args.self.now.depth) c.args.at c.args.other.now c.args.more.now c.loop-branch.branch-index (world c.loop-branch.run) c.loop-branch-test.false) ∙ c.loop-branch.invariant.same) c.otherwise.ensures.gives

pub for_turns-loop-place-init : goal.for_turns-loop-place-init
for_turns-loop-place-init g t c = record { same = λ items h. refl; held = λ items h. h; locked = refl; goes = goes_same _ }

pub for_turns-item-requires-clause-within : goal.for_turns-item-requires-clause-within
for_turns-item-requires-clause-within g t c =
    let all = counted_items (items_in c.args.run.now.machine.state c.args.of.now) c.args.count c.requires.count in
    place_within (items_in c.loop-place.run.machine.state c.args.of.now) all.0 c.loop-place.place (c.loop-place.invariant.held all.0 all.1.0) (omega (arith, all.1.1, c.loop-place-test.true))

pub for_turns-loop-place-preserved : goal.for_turns-loop-place-preserved
for_turns-loop-place-preserved g t c =
    let before = c.requires.locked in
    let locked : c.loop-place.run.frame.locked ≡ before.0 ++ lock_of c.args.of.now = c.loop-place.invariant.locked ∙ before.1 in
    let fit = (c.loop-place.invariant.goes.fit c.args.of.now c.requires.of).references in
    record {
      same = λ items h. sym (turn_passed (next_at (fixed c.args.self.now.given) c.args.self.now.depth c.args.at c.args.targets.now) (body_of (setting (fixed c.args.self.now.given)) (callee (fixed c.args.self.now.given) c.args.self.now.depth) c.args.body.now) items c.loop-place.place c.in_ok-item.item (c.in_ok-item.ensures.value items (c.loop-place.invariant.held items h)) (world c.loop-place.run) (world c.for_turn.new.run) c.in_ok-flow.flow c.in_ok-flow.ensures.gives (sym c.in-None.ensures)) ∙ c.loop-place.invariant.same items h;
      held = λ items h. turn_held (fixed c.args.self.now.given) c.args.self.now.depth c.args.at c.args.targets.now c.args.body.now c.in_ok-item.item c.args.of.now items before.0 c.loop-place.run c.for_turn.new.run c.in_ok-flow.flow c.in_ok-flow.ensures.gives fit locked (c.loop-place.invariant.held items h);
      locked = turn_locked (fixed c.args.self.now.given) c.args.self.now.depth c.args.at c.args.targets.now c.args.body.now c.in_ok-item.item c.loop-place.run c.for_turn.new.run c.in_ok-flow.flow c.in_ok-flow.ensures.gives ∙ c.loop-place.invariant.locked;
      goes = goes_then _ _ _ c.loop-place.invariant.goes c.for_turn.ensures.goes;
    }

pub for_turns-returns-in_err-item-clause-gives : goal.for_turns-returns-in_err-item-clause-gives
for_turns-returns-in_err-item-clause-gives g t c = λ items h. search rules

pub for_turns-returns-in_err-flow-clause-gives : goal.for_turns-returns-in_err-flow-clause-gives
for_turns-returns-in_err-flow-clause-gives g t c =
    let r : c.from_residual-in_err-flow.result ≡ Err c.in_err-flow.field-0.0 = search rules in
    rw r (λ items h. subst (λ o. Halts {A = Flow} o (Err c.in_err-flow.field-0.0) (world c.for_turn.new.run)) (c.loop-place.invariant.same items h)
    (turn_stops (next_at (fixed c.args.self.now.given) c.args.self.now.depth c.args.at c.args.targets.now) (body_of (setting (fixed c.args.self.now.given)) (callee (fixed c.args.self.now.given) c.args.self.now.depth) c.args.body.now) items c.loop-place.place c.in_ok-item.item (c.in_ok-item.ensures.value items (c.loop-place.invariant.held items h)) (world c.loop-place.run) (world c.for_turn.new.run) c.in_err-flow.field-0.0 c.in_err-flow.ensures.gives))

pub for_turns-returns-in-Some-clause-gives : goal.for_turns-returns-in-Some-clause-gives
for_turns-returns-in-Some-clause-gives g t c =
    λ items h. sym (c.loop-place.invariant.same items h)
    ∙ turn_ended (next_at (fixed c.args.self.now.given) c.args.self.now.depth c.args.at c.args.targets.now) (body_of (setting (fixed c.args.self.now.given)) (callee (fixed c.args.self.now.given) c.args.self.now.depth) c.args.body.now) items c.loop-place.place c.in_ok-item.item (c.in_ok-item.ensures.value items (c.loop-place.invariant.held items h)) (world c.loop-place.run) (world c.for_turn.new.run) c.in_ok-flow.flow c.in-Some.ended c.in_ok-flow.ensures.gives (sym c.in-Some.ensures)

pub for_turns-returns-in-Some-clause-locked : goal.for_turns-returns-in-Some-clause-locked
for_turns-returns-in-Some-clause-locked g t c = turn_locked (fixed c.args.self.now.given) c.args.self.now.depth c.args.at c.args.targets.now c.args.body.now c.in_ok-item.item c.loop-place.run c.for_turn.new.run c.in_ok-flow.flow c.in_ok-flow.ensures.gives ∙ c.loop-place.invariant.locked

pub for_turns-returns-in-Some-clause-fits : goal.for_turns-returns-in-Some-clause-fits
for_turns-returns-in-Some-clause-fits g t c = ended_fits c.for_turn.new.run.machine c.in_ok-flow.flow c.in-Some.ended (sym c.in-Some.ensures) c.in_ok-flow.ensures.fits

pub for_turns-returns-clause-gives : goal.for_turns-returns-clause-gives
for_turns-returns-clause-gives g t c =
    let all = counted_items (items_in c.args.run.now.machine.state c.args.of.now) c.args.count c.requires.count in
    λ items h. sym (c.loop-place.invariant.same items h) ∙ turns_end (next_at (fixed c.args.self.now.given) c.args.self.now.depth c.args.at c.args.targets.now) (body_of (setting (fixed c.args.self.now.given)) (callee (fixed c.args.self.now.given) c.args.self.now.depth) c.args.body.now) items c.loop-place.place _ (items_end (items_in c.args.run.now.machine.state c.args.of.now) items c.args.count c.loop-place.place c.requires.count h c.loop-place-test.false)

pub repeat-returns-in_err-of-clause-gives : goal.repeat-returns-in_err-of-clause-gives
repeat-returns-in_err-of-clause-gives g t c =
    let r : c.from_residual.result ≡ Err c.in_err-of.field-0.0 = search rules in
    rw r (repeat_stops (fixed c.args.self.now.given) c.args.self.now.depth c.args.at c.args.targets.now c.args.over.now c.args.body.now (world c.args.run.now) (world c.loop_operand.new.run) c.in_err-of.field-0.0 c.in_err-of.ensures.gives)

pub repeat-returns-in_err-count-clause-gives : goal.repeat-returns-in_err-count-clause-gives
repeat-returns-in_err-count-clause-gives g t c =
    let r : c.from_residual-in_err-count.result ≡ Err c.in_err-count.field-0.0 = search rules in
    rw (r, c.in_err-count.ensures.1) (repeat_nothing (fixed c.args.self.now.given) c.args.self.now.depth c.args.at c.args.targets.now c.args.over.now c.args.body.now c.in_ok-of.of (world c.args.run.now) (world c.loop_operand.new.run) c.in_ok-of.ensures.gives c.in_err-count.ensures.0)

pub repeat-for_turns-requires : goal.repeat-for_turns-requires
repeat-for_turns-requires g t c =
    let fits = c.lock.ensures.goes.fit c.in_ok-of.of c.in_ok-of.ensures.fits in
    let count = subst (λ (x : Running). option_map length (items_in x.machine.state c.in_ok-of.of) ≡ Some c.in_ok-count.count) (sym c.in_ok-lock.ensures.ok) c.in_ok-count.ensures in
    λ κs h. (search rules, (search rules, (c.requires, (fits, (count, (c.loop_operand.new.run.frame.locked, ap (λ (r : Running). r.frame.locked) c.in_ok-lock.ensures.ok))))))

pub repeat-returns-in_err-flow-clause-gives : goal.repeat-returns-in_err-flow-clause-gives
repeat-returns-in_err-flow-clause-gives g t c =
    let all = counted_items (items_in c.loop_operand.new.run.machine.state c.in_ok-of.of) c.in_ok-count.count c.in_ok-count.ensures in
    let r : c.from_residual-in_err-flow.result ≡ Err c.in_err-flow.field-0.0 = search rules in
    let has = subst (λ (x : Running). items_in x.machine.state c.in_ok-of.of ≡ Some all.0) (sym c.in_ok-lock.ensures.ok) all.1.0 in
    rw r (repeat_halts (fixed c.args.self.now.given) c.args.self.now.depth c.args.at c.args.targets.now c.args.over.now c.args.body.now c.in_ok-of.of all.0 (world c.args.run.now) c.loop_operand.new.run c.lock.new.self c.in_ok-of.ensures.gives all.1.0 c.in_ok-lock.ensures.ok (world c.for_turns.new.run) c.in_err-flow.field-0.0 (c.in_err-flow.ensures.gives all.0 has))

pub repeat-returns-clause-gives : goal.repeat-returns-clause-gives
repeat-returns-clause-gives g t c =
    let all = counted_items (items_in c.loop_operand.new.run.machine.state c.in_ok-of.of) c.in_ok-count.count c.in_ok-count.ensures in
    let has = subst (λ (x : Running). items_in x.machine.state c.in_ok-of.of ≡ Some all.0) (sym c.in_ok-lock.ensures.ok) all.1.0 in
    let locked : c.for_turns.new.run.frame.locked ≡ c.loop_operand.new.run.frame.locked ++ lock_of c.in_ok-of.of = c.in_ok-flow.ensures.locked ∙ ap (λ (r : Running). r.frame.locked) c.in_ok-lock.ensures.ok in
    repeat_went (fixed c.args.self.now.given) c.args.self.now.depth c.args.at c.args.targets.now c.args.over.now c.args.body.now c.in_ok-of.of all.0 (world c.args.run.now) c.loop_operand.new.run c.lock.new.self c.in_ok-of.ensures.gives all.1.0 c.in_ok-lock.ensures.ok c.for_turns.new.run c.unlock.new.self c.in_ok-flow.flow (c.in_ok-flow.ensures.gives all.0 has) (c.unlock.ensures.gives _ locked)

pub repeat-returns-clause-fits : goal.repeat-returns-clause-fits
repeat-returns-clause-fits g t c = flow_later c.for_turns.new.run c.unlock.new.self c.in_ok-flow.flow c.unlock.ensures.goes c.in_ok-flow.ensures.fits

pub block-returns-in-Indented-clause-gives : goal.block-returns-in-Indented-clause-gives
block-returns-in-Indented-clause-gives g t c = indented (setting (fixed c.args.self.now.given)) (callee (fixed c.args.self.now.given) c.args.self.now.depth) c.args.body.now c.in-Indented.all c.as_slice.result.now (world c.args.run.now) (world c.statements.new.run) c.statements.result c.in-Indented.is c.as_slice.ensures c.statements.ensures.gives

pub exec-returns-in-If-clause-gives : goal.exec-returns-in-If-clause-gives
exec-returns-in-If-clause-gives g t c =
    if_at (setting (fixed c.args.self.now.given)) (callee (fixed c.args.self.now.given) c.args.self.now.depth) c.args.statement.now c.in-If.at c.in-If.first c.in-If.more c.as_slice.result.now c.in-If.other c.args.last (world c.args.run.now) (world c.choice.new.run) c.choice.result c.in-If.is c.as_slice.ensures c.choice.ensures.gives

pub exec-returns-in-For-clause-gives : goal.exec-returns-in-For-clause-gives
exec-returns-in-For-clause-gives g t c =
    for_at (setting (fixed c.args.self.now.given)) (callee (fixed c.args.self.now.given) c.args.self.now.depth) c.args.statement.now c.in-For.at c.in-For.targets c.in-For.over c.as_slice-in-For.result.now c.as_slice-in-For-2.result.now c.in-For.body c.args.last (world c.args.run.now) (world c.repeat.new.run) c.repeat.result c.in-For.is c.as_slice-in-For.ensures c.as_slice-in-For-2.ensures c.repeat.ensures.gives
