use Rattle.std.proofs.Common.{◌≡◌, ◌++◌, length, refl, sym, ap, subst, ◌∙◌, arith, rules, false, Err, None, Some}
use Rattle.std.specs.Prelude.{option_map}
use Rattle.star_meaning.specs.declared.flow.Flow.{Flow}
use Rattle.star_meaning.specs.Statements.{body_of, small_of, statement_of}
use Rattle.star_meaning.specs.Values.{items_in}
use Rattle.star_meaning.specs.World.{lock_of}
use Rattle.star_run.specs.Bodies.{next_at}
use Rattle.star_run.specs.Fixed.{callee, fixed, setting}
use Rattle.star_run.specs.Halts.{Halts}
use Rattle.star_run.specs.Running.{Running, world}
use Rattle.star_run.proofs.CourseLemmas.{augmented_at, branch_passed, branch_stops, branch_taken, branches_end, ended_fits, flow_later, indented, items_end, kind_assigned, kind_augmented, kind_goes, kind_stops, last_is, place_within, repeat_halts, repeat_nothing, repeat_stops, repeat_went, sequence_ends, sequence_on, sequence_out, sequence_stops, turn_ended, turn_held, turn_locked, turn_passed, turn_stops, turns_end}
use Rattle.star_run.proofs.OverLemmas.{counted_items, no_items}
use Rattle.star_run.proofs.StatementCases.{for_at, if_at}
use Rattle.star_run.proofs.WaitLemmas.{fits_none, goes_same, goes_then}
use Rattle.star_run.proofs.level.Level.returned.Goals as goal

pub returns-in-empty-clause-fits : goal.returns-in-empty-clause-fits
returns-in-empty-clause-fits g c = fits_none _
