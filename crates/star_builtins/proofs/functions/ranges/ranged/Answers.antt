use Rattle.std.proofs.Common.{◌≡◌, rules, to_z, of_z}
use Rattle.std.specs.Int.{w128}
use Rattle.star_builtins.proofs.functions.ranges.ranged.Goals as goal

pub returns-clause-gives : goal.returns-clause-gives
returns-clause-gives c = λ s.
    let start : to_z w128 (of_z w128 c.in-Some.start) ≡ c.in-Some.start = search rules in
    let stop : to_z w128 (of_z w128 c.in-Some-stop.stop) ≡ c.in-Some-stop.stop = search rules in
    let step : to_z w128 (of_z w128 c.in-Some-step.step) ≡ c.in-Some-step.step = search rules in
    rw (c.in-Some.is, c.in-Some-stop.is, c.in-Some-step.is) (rw (start, stop, step) at (c.new_range.ensures.gives s))
