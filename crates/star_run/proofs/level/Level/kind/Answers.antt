use Rattle.std.proofs.Common.{◌≡◌, ◌++◌, length, refl, sym, ap, subst, ◌∙◌, arith, rules, false, Err, None, Some}
use Rattle.std.specs.Prelude.{option_map}
use Rattle.star_meaning.specs.declared.flow.Flow.{Flow}
use Rattle.star_meaning.specs.Statements.{body_of, small_of, statement_of}
use Rattle.star_meaning.specs.Values.{items_in}
use Rattle.star_meaning.specs.World.{lock_of}
use Rattle.star_run.specs.Bodies.{next_at}
use Rattle.star_run.specs.Fixed.{callee, fixed, setting}
use Rattle.star_run.specs.Halts.{Halts}
use Rattle.star_run.specs.Running.{Running, world}
use Rattle.star_run.proofs.CourseLemmas.{augmented_at, branch_passed, branch_stops, branch_taken, branches_end, ended_fits, flow_later, indented, items_end, kind_assigned, kind_augmented, kind_goes, kind_stops, last_is, place_within, repeat_halts, repeat_nothing, repeat_stops, repeat_went, sequence_ends, sequence_on, sequence_out, sequence_stops, turn_ended, turn_held, turn_locked, turn_passed, turn_stops, turns_end}
use Rattle.star_run.proofs.OverLemmas.{counted_items, no_items}
use Rattle.star_run.proofs.StatementCases.{for_at, if_at}
use Rattle.star_run.proofs.WaitLemmas.{fits_none, goes_same, goes_then}
use Rattle.star_run.proofs.level.Level.kind.Goals as goal

pub returns-in_err-assign-in-Assign-clause-gives : goal.returns-in_err-assign-in-Assign-clause-gives
returns-in_err-assign-in-Assign-clause-gives g c =
    let r : c.from_residual.result ≡ Err c.in_err-assign-in-Assign.field-0.0 = search rules in
    rw r (kind_stops _ _ c.in_err-assign-in-Assign.field-0.0 _ (kind_assigned (fixed c.args.self.now.given) c.args.self.now.depth c.args.last c.args.kind.now c.in-Assign.targets c.in-Assign.tests _ _ (world c.args.run.now) c.in-Assign.is c.as_slice-in-Assign.ensures c.as_slice-in-Assign-2.ensures) c.in_err-assign-in-Assign.ensures.gives)

pub returns-in_err-augment-in-Augmented-clause-gives : goal.returns-in_err-augment-in-Augmented-clause-gives
returns-in_err-augment-in-Augmented-clause-gives g c =
    let r : c.from_residual-in_err-augment-in-Augmented.result ≡ Err c.in_err-augment-in-Augmented.field-0.0 = search rules in
    rw r (kind_stops _ _ c.in_err-augment-in-Augmented.field-0.0 _ (kind_augmented (fixed c.args.self.now.given) c.args.self.now.depth c.args.last c.args.kind.now c.in-Augmented.target c.in-Augmented.op c.in-Augmented.tests _ (world c.args.run.now) c.in-Augmented.is c.as_slice-in-Augmented.ensures) c.in_err-augment-in-Augmented.ensures.gives)

pub returns-in_ok-assign-in-Assign-clause-gives : goal.returns-in_ok-assign-in-Assign-clause-gives
returns-in_ok-assign-in-Assign-clause-gives g c = kind_goes _ _ _ (kind_assigned (fixed c.args.self.now.given) c.args.self.now.depth c.args.last c.args.kind.now c.in-Assign.targets c.in-Assign.tests _ _ (world c.args.run.now) c.in-Assign.is c.as_slice-in-Assign.ensures c.as_slice-in-Assign-2.ensures) c.in_ok-assign-in-Assign.ensures.gives

pub returns-in_ok-augment-in-Augmented-clause-gives : goal.returns-in_ok-augment-in-Augmented-clause-gives
returns-in_ok-augment-in-Augmented-clause-gives g c = kind_goes _ _ _ (kind_augmented (fixed c.args.self.now.given) c.args.self.now.depth c.args.last c.args.kind.now c.in-Augmented.target c.in-Augmented.op c.in-Augmented.tests _ (world c.args.run.now) c.in-Augmented.is c.as_slice-in-Augmented.ensures) c.in_ok-augment-in-Augmented.ensures.gives
