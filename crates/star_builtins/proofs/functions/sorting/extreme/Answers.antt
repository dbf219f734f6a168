use Rattle.std.proofs.Common.{◌≤◌, length, arith}
use Rattle.star_builtins.specs.Reached.{store}
use Rattle.star_builtins.specs.Sorting.{better}
use Rattle.star_builtins.proofs.RowLemmas.{same_gives}
use Rattle.star_builtins.proofs.SortRows.{extreme_none, extreme_one}
use Rattle.star_builtins.proofs.functions.sorting.extreme.Goals as goal

pub returns-in-Some-clause-gives : goal.returns-in-Some-clause-gives
returns-in-Some-clause-gives c =
    let few : length c.args.values ≤ 1 = omega arith in
    same_gives _ _ _ _ (extreme_one (better c.args.greatest) c.args.values _ c.in-Some.of (store c.args.machine.now c.args.meter.now.left) c.in-Some.ensures few) c.best_item.ensures.gives

pub returns-clause-gives : goal.returns-clause-gives
returns-clause-gives c = extreme_none (better c.args.greatest) c.args.values (store c.args.machine.now c.args.meter.now.left) c.in-None.ensures.0
