use Rattle.std.proofs.Common.{◌≡◌, ◌++◌, length, refl, sym, ap, subst, ◌∙◌, arith, rules, false, Err, None, Some}
use Rattle.std.specs.Prelude.{option_map}
use Rattle.star_meaning.specs.declared.flow.Flow.{Flow}
use Rattle.star_meaning.specs.Statements.{body_of, small_of, statement_of}
use Rattle.star_meaning.specs.Values.{items_in}
use Rattle.star_meaning.specs.World.{lock_of}
use Rattle.star_run.specs.Bodies.{next_at}
use Rattle.star_run.specs.Fixed.{callee, fixed, setting}
use Rattle.star_run.specs.Halts.{Halts}
use Rattle.star_run.specs.Running.{Running, world}
use Rattle.star_run.proofs.CourseLemmas.{augmented_at, branch_passed, branch_stops, branch_taken, branches_end, ended_fits, flow_later, indented, items_end, kind_assigned, kind_augmented, kind_goes, kind_stops, last_is, place_within, repeat_halts, repeat_nothing, repeat_stops, repeat_went, sequence_ends, sequence_on, sequence_out, sequence_stops, turn_ended, turn_held, turn_locked, turn_passed, turn_stops, turns_end}
use Rattle.star_run.proofs.OverLemmas.{counted_items, no_items}
use Rattle.star_run.proofs.StatementCases.{for_at, if_at}
use Rattle.star_run.proofs.WaitLemmas.{fits_none, goes_same, goes_then}
use Rattle.star_run.proofs.level.Level.smalls.Goals as goal

pub loop-place-init : goal.loop-place-init
loop-place-init g c = record { same = refl; goes = goes_same _ }

pub loop-place-preserved : goal.loop-place-preserved
loop-place-preserved g c = record {
  same = sym (sequence_on (small_of (setting (fixed c.args.self.now.given)) (callee (fixed c.args.self.now.given) c.args.self.now.depth)) c.args.last c.args.all.now c.loop-place.place _ _ c.loop-place-test.true c.index-all-place.is (c.ends_cell-is_last.ensures ∙ last_is c.args.last c.args.all.now c.loop-place.place c.loop-place-test.true) _ _ _ c.in_ok-ended.ensures.gives c.in-On.is) ∙ c.loop-place.invariant.same;
  goes = goes_then _ _ _ c.loop-place.invariant.goes c.small.ensures.goes;
}

pub returns-in_default-clause-gives : goal.returns-in_default-clause-gives
returns-in_default-clause-gives g c = sym c.loop-place.invariant.same ∙ sequence_out (small_of (setting (fixed c.args.self.now.given)) (callee (fixed c.args.self.now.given) c.args.self.now.depth)) c.args.last c.args.all.now c.loop-place.place _ _ c.loop-place-test.true c.index-all-place.is (c.ends_cell-is_last.ensures ∙ last_is c.args.last c.args.all.now c.loop-place.place c.loop-place-test.true) _ _ _ c.in_ok-ended.ensures.gives c.in_default.not-On

pub returns-in_err-ended-clause-gives : goal.returns-in_err-ended-clause-gives
returns-in_err-ended-clause-gives g c =
    let r : c.from_residual.result ≡ Err c.in_err-ended.field-0.0 = search rules in
    rw r (subst (λ o. Halts {A = Flow} o (Err c.in_err-ended.field-0.0) (world c.small.new.run)) c.loop-place.invariant.same (sequence_stops (small_of (setting (fixed c.args.self.now.given)) (callee (fixed c.args.self.now.given) c.args.self.now.depth)) c.args.last c.args.all.now c.loop-place.place _ _ c.loop-place-test.true c.index-all-place.is (c.ends_cell-is_last.ensures ∙ last_is c.args.last c.args.all.now c.loop-place.place c.loop-place-test.true) (world c.loop-place.run) (world c.small.new.run) c.in_err-ended.field-0.0 c.in_err-ended.ensures.gives))

pub returns-clause-gives : goal.returns-clause-gives
returns-clause-gives g c = sym c.loop-place.invariant.same ∙ sequence_ends (small_of (setting (fixed c.args.self.now.given)) (callee (fixed c.args.self.now.given) c.args.self.now.depth)) c.args.last c.args.all.now c.loop-place.place _ c.loop-place-test.false
