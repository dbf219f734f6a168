use Rattle.std.proofs.Common.{◌<◌, length, arith, rules}
use Rattle.star_builtins.specs.Walks.{given}
use Rattle.star_builtins.proofs.Keyed.{pairs_stop, keyed_ends, pairs_more, pairs_put}
use Rattle.star_builtins.proofs.functions.pairing.pairs_from.Goals as goal

pub returns-in_err-item-clause-gives : goal.returns-in_err-item-clause-gives
returns-in_err-item-clause-gives c =
    let within : c.loop-place.place < length (given c.args.machine.now.state c.args.of.now) = omega (arith, c.requires.count) in
    let stops = pairs_stop (given c.args.machine.now.state c.args.of.now) c.loop-place.place c.args.machine.now.state c.loop-place.meter.left _ c.loop-place.pairs _ _ within c.in_err-item.ensures.gives c.loop-place.invariant.rest in
    search (rules, stops)

pub returns-in_err-key-clause-gives : goal.returns-in_err-key-clause-gives
returns-in_err-key-clause-gives c =
    let paid = c.in_ok-item.ensures.gives in
    let ends = keyed_ends (given c.args.machine.now.state c.args.of.now) c.loop-place.place c.args.machine.now.state c.loop-place.meter.left _ c.loop-place.pairs _ c.in_ok-item.item _ _ paid.0 paid.1 c.in_err-key.ensures.gives c.loop-place.invariant.rest in
    search (rules, ends)

pub loop-place-preserved : goal.loop-place-preserved
loop-place-preserved c =
    let paid = c.in_ok-item.ensures.gives in
    record {
      rest = rw c.in_ok-put.ensures.ok (pairs_more (given c.args.machine.now.state c.args.of.now) c.loop-place.place c.args.machine.now.state c.loop-place.meter.left _ c.loop-place.pairs _ c.in_ok-item.item c.in_ok-key.key c.in_ok-key.value _ paid.0 paid.1 c.in_ok-key.ensures.gives c.loop-place.invariant.rest);
      fit = rw c.in_ok-put.ensures.ok (pairs_put c.args.machine.now c.loop-place.pairs c.in_ok-key.key c.in_ok-key.value c.loop-place.invariant.fit c.in_ok-key.ensures.key c.in_ok-key.ensures.value);
    }
