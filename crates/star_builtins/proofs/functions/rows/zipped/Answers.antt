use Rattle.std.proofs.Common.{◌≡◌, ◌<◌, ◌≤◌, length, map, arith, rules}
use Rattle.star_meaning.specs.Builtins as spec
use Rattle.star_builtins.specs.Walks.{given}
use Rattle.star_builtins.proofs.Columns.{has_row, row_get}
use Rattle.star_builtins.proofs.Rowed.{row_more, row_stops, rows_done, rows_empty}
use Rattle.star_builtins.proofs.Sequences.{none_fit}
use Rattle.star_builtins.proofs.TupleLemmas.{push_fits}
use Rattle.star_builtins.proofs.functions.rows.zipped.Goals as goal

pub loop-place-init : goal.loop-place-init
loop-place-init c = record { rest = rows_empty _ _ _ c.new-tuples.ensures.items; fit = none_fit c.args.machine.now _ c.new-tuples.ensures.items }

pub zipped_items-requires-clause-within : goal.zipped_items-requires-clause-within
zipped_items-requires-clause-within c =
    let below : c.loop-place.place < length (spec.rows_of (map (given c.args.machine.now.state) c.args.columns.now)) = omega (arith, c.requires.count) in
    has_row c.args.machine.now.state c.loop-place.place c.args.columns.now below

pub returns-in_err-tuple-clause-gives : goal.returns-in_err-tuple-clause-gives
returns-in_err-tuple-clause-gives c =
    let below : c.loop-place.place < length (spec.rows_of (map (given c.args.machine.now.state) c.args.columns.now)) = omega (arith, c.requires.count) in
    let stops = row_stops (spec.rows_of (map (given c.args.machine.now.state) c.args.columns.now)) c.loop-place.place _ (row_get c.args.machine.now.state c.loop-place.place c.args.columns.now below) _ _ _ _ c.loop-place.invariant.rest _ c.in_err-tuple.ensures.gives in
    search (rules, stops)

pub loop-place-preserved : goal.loop-place-preserved
loop-place-preserved c =
    let below : c.loop-place.place < length (spec.rows_of (map (given c.args.machine.now.state) c.args.columns.now)) = omega (arith, c.requires.count) in
    record {
      rest = rw c.in_ok-push.ensures.items (row_more (spec.rows_of (map (given c.args.machine.now.state) c.args.columns.now)) c.loop-place.place _ (row_get c.args.machine.now.state c.loop-place.place c.args.columns.now below) _ _ _ _ c.loop-place.invariant.rest _ c.in_ok-tuple.ensures.gives);
      fit = rw c.in_ok-push.ensures.items (push_fits c.args.machine.now _ _ c.loop-place.invariant.fit c.in_ok-tuple.ensures.fits);
    }

pub returns-clause-gives : goal.returns-clause-gives
returns-clause-gives c =
    let past : length (spec.rows_of (map (given c.args.machine.now.state) c.args.columns.now)) ≤ c.loop-place.place = omega (arith, c.requires.count) in
    rw c.from_vec.ensures (rows_done (spec.rows_of (map (given c.args.machine.now.state) c.args.columns.now)) c.loop-place.place _ _ _ past c.loop-place.invariant.rest)
