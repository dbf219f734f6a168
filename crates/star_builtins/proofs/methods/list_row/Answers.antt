use Rattle.star_builtins.proofs.methods.list_row.Goals as goal

pub returns-in-Clear-clause-gives : goal.returns-in-Clear-clause-gives
returns-in-Clear-clause-gives c = rw c.in-Clear.is (c.clear.ensures.gives c.args.meter.now.left)

pub returns-in-Index-clause-gives : goal.returns-in-Index-clause-gives
returns-in-Index-clause-gives c = rw c.in-Index.is (c.index.ensures.gives c.args.locked.now)
