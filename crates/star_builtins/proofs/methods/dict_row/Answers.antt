use Rattle.star_builtins.proofs.methods.dict_row.Goals as goal

pub returns-in-Get-clause-gives : goal.returns-in-Get-clause-gives
returns-in-Get-clause-gives c = rw c.in-Get.is (c.get.ensures.gives c.args.locked.now)

pub returns-in-Keys-clause-gives : goal.returns-in-Keys-clause-gives
returns-in-Keys-clause-gives c = rw c.in-Keys.is (c.keys.ensures.gives c.args.locked.now)

pub returns-in-Values-clause-gives : goal.returns-in-Values-clause-gives
returns-in-Values-clause-gives c = rw c.in-Values.is (c.values.ensures.gives c.args.locked.now)

pub returns-in-Items-clause-gives : goal.returns-in-Items-clause-gives
returns-in-Items-clause-gives c = rw c.in-Items.is (c.items.ensures.gives c.args.locked.now)

pub returns-in-Clear-clause-gives : goal.returns-in-Clear-clause-gives
returns-in-Clear-clause-gives c = rw c.in-Clear.is (c.clear.ensures.gives c.args.meter.now.left)
