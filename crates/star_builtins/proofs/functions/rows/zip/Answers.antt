use Rattle.std.proofs.Common.{rules}
use Rattle.star_builtins.proofs.Columns.{zip_failed, zip_ends, zip_gives}
use Rattle.star_builtins.proofs.functions.rows.zip.Goals as goal

pub returns-in_err-count-clause-gives : goal.returns-in_err-count-clause-gives
returns-in_err-count-clause-gives c =
    let none = zip_failed c.args.machine.now.state c.args.meter.now.left c.args.columns.now c.in_err-count.ensures.0 in
    let is = c.in_err-count.ensures.1 in
    search (rules, none, is)

pub returns-in_err-tuples-clause-gives : goal.returns-in_err-tuples-clause-gives
returns-in_err-tuples-clause-gives c =
    let ends = zip_ends c.args.machine.now.state c.args.meter.now.left c.args.columns.now c.in_ok-count.ensures.0 _ _ c.in_err-tuples.ensures.gives in
    search (rules, ends)

pub returns-clause-gives : goal.returns-clause-gives
returns-clause-gives c =
    zip_gives c.args.machine.now.state c.args.meter.now.left c.args.columns.now c.in_ok-count.ensures.0 _ _ _ _ c.in_ok-tuples.ensures.gives (c.new_list.ensures.gives _)
