use Rattle.star_builtins.specs.Table.{one_row}
use Rattle.star_builtins.proofs.functions.at_one.Goals as goal

pub returns-in-Bool-clause-gives : goal.returns-in-Bool-clause-gives
unfolding one_row
returns-in-Bool-clause-gives c = rw c.in-Bool.is (c.truth.ensures.gives c.args.meter.now.left)
