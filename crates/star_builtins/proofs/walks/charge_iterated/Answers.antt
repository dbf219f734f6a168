use Rattle.std.proofs.Common.{◌<◌, arith, length, rules}
use Rattle.star_builtins.specs.Walks.{given}
use Rattle.star_builtins.proofs.WalkLemmas.{walk_more, walk_stop}
use Rattle.star_builtins.proofs.walks.charge_iterated.Goals as goal

pub returns-in_err-charge_at : goal.returns-in_err-charge_at
returns-in_err-charge_at c =
    let within : c.loop-place.place < length (given c.args.machine.now.state c.args.of.now) = omega arith in
    let stop = walk_stop (given c.args.machine.now.state c.args.of.now) c.loop-place.place c.loop-place.meter.left _ _ _ c.in_err-charge_at.ensures within c.loop-place.invariant in
    search (rules, stop)

pub loop-place-preserved : goal.loop-place-preserved
loop-place-preserved c =
    let within : c.loop-place.place < length (given c.args.machine.now.state c.args.of.now) = omega arith in
    walk_more (given c.args.machine.now.state c.args.of.now) c.loop-place.place c.loop-place.meter.left _ _ _ c.in_ok-charge_at.ensures within c.loop-place.invariant
