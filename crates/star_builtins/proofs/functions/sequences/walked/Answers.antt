use Rattle.std.proofs.Common.{◌≡◌, ◌<◌, true, false, length, arith, rules, sym}
use Rattle.std.specs.Prelude.{nat_lt}
use Rattle.heap_store.proofs.Tested.{all_push, and_both}
use Rattle.star_builtins.specs.Walks.{given}
use Rattle.star_builtins.proofs.FitLemmas.{inside, inside_tuple}
use Rattle.star_builtins.proofs.Sequences.{walk_more, walk_stops, walk_deep, item_inside}
use Rattle.star_builtins.proofs.WalkLemmas.{pushed}
use Rattle.star_builtins.proofs.functions.sequences.walked.Goals as goal

pub returns-in_err-item-clause-gives : goal.returns-in_err-item-clause-gives
returns-in_err-item-clause-gives c =
    let within : c.loop-place.place < length (given c.args.machine.now.state c.args.of.now) = omega arith in
    let stops = walk_stops (given c.args.machine.now.state c.args.of.now) c.loop-place.place c.args.machine.now.state c.loop-place.meter.left _ _ _ within c.in_err-item.ensures.gives c.loop-place.invariant.walks in
    search (rules, stops)

pub returns-then-nests_around-clause-gives : goal.returns-then-nests_around-clause-gives
returns-then-nests_around-clause-gives c =
    let paid = c.in_ok-item.ensures.gives in
    walk_deep (given c.args.machine.now.state c.args.of.now) c.loop-place.place c.args.machine.now.state c.loop-place.meter.left _ _ _ paid.0 paid.1 (sym c.if-nests_around.ensures) c.loop-place.invariant.walks

pub loop-place-preserved : goal.loop-place-preserved
loop-place-preserved c =
    let paid = c.in_ok-item.ensures.gives in
    let all = given c.args.machine.now.state c.args.of.now in
    record {
      walks = walk_more all c.loop-place.place c.args.machine.now.state c.loop-place.meter.left _ _ _ paid.0 paid.1 (sym c.if-nests_around.ensures) c.loop-place.invariant.walks;
      same = rw c.in_ok-push.ensures.items (pushed _ all c.loop-place.place _ paid.0 c.loop-place.invariant.same);
      inside = rw c.in_ok-push.ensures.items (all_push (inside c.args.machine.now.state.objects) _ _ c.loop-place.invariant.inside (item_inside c.args.machine.now _ c.in_ok-item.ensures.fits (sym c.if-nests_around.ensures)));
    }

pub returns-clause-fits : goal.returns-clause-fits
returns-clause-fits c = rw c.from_vec.ensures (inside_tuple c.args.machine.now _ c.loop-place.invariant.inside)
