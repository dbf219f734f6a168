use Rattle.std.proofs.Common.{◌≡◌, ◌++◌, length, refl, sym, ap, subst, ◌∙◌, arith, rules, false, Err, None, Some}
use Rattle.std.specs.Prelude.{option_map}
use Rattle.star_meaning.specs.declared.flow.Flow.{Flow}
use Rattle.star_meaning.specs.Statements.{body_of, small_of, statement_of}
use Rattle.star_meaning.specs.Values.{items_in}
use Rattle.star_meaning.specs.World.{lock_of}
use Rattle.star_run.specs.Bodies.{next_at}
use Rattle.star_run.specs.Fixed.{callee, fixed, setting}
use Rattle.star_run.specs.Halts.{Halts}
use Rattle.star_run.specs.Running.{Running, world}
use Rattle.star_run.proofs.CourseLemmas.{augmented_at, branch_passed, branch_stops, branch_taken, branches_end, ended_fits, flow_later, indented, items_end, kind_assigned, kind_augmented, kind_goes, kind_stops, last_is, place_within, repeat_halts, repeat_nothing, repeat_stops, repeat_went, sequence_ends, sequence_on, sequence_out, sequence_stops, turn_ended, turn_held, turn_locked, turn_passed, turn_stops, turns_end}
use Rattle.star_run.proofs.OverLemmas.{counted_items, no_items}
use Rattle.star_run.proofs.StatementCases.{for_at, if_at}
use Rattle.star_run.proofs.WaitLemmas.{fits_none, goes_same, goes_then}
use Rattle.star_run.proofs.level.Level.augment.Goals as goal

pub returns-in-Primary-clause-gives : goal.returns-in-Primary-clause-gives
returns-in-Primary-clause-gives g c =
    augmented_at (fixed c.args.self.now.given) c.args.self.now.depth c.args.target.now c.in-Primary.head c.get.result.now c.in-Primary.all c.as_slice.result.now c.args.op c.args.tests.now (world c.args.run.now) (world c.augment_place.new.run) c.augment_place.result
    c.in-Primary.is c.get.ensures c.as_slice.ensures c.augment_place.ensures.gives
