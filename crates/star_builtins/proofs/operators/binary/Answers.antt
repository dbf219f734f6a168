use Rattle.star_meaning.specs.Operators.{binary}
use Rattle.star_builtins.specs.Reached.{store}
use Rattle.star_builtins.proofs.WeighedLemmas.{gives_weighed}
use Rattle.star_builtins.proofs.operators.binary.Goals as goal

pub returns-in-Sub-clause-gives : goal.returns-in-Sub-clause-gives
unfolding binary
returns-in-Sub-clause-gives c =
    rw c.in-Sub.is (gives_weighed _ _ _ (c.subtract.ensures.gives (store c.args.machine.now c.args.meter.now.left)))

pub returns-in-Floor-clause-gives : goal.returns-in-Floor-clause-gives
unfolding binary
returns-in-Floor-clause-gives c =
    rw c.in-Floor.is (gives_weighed _ _ _ (c.floor.ensures.gives (store c.args.machine.now c.args.meter.now.left)))

pub returns-in-And-clause-gives : goal.returns-in-And-clause-gives
unfolding binary
returns-in-And-clause-gives c =
    rw c.in-And.is (gives_weighed _ _ _ (c.and.ensures.gives (store c.args.machine.now c.args.meter.now.left)))

pub returns-in-Or-clause-gives : goal.returns-in-Or-clause-gives
unfolding binary
returns-in-Or-clause-gives c =
    rw c.in-Or.is (gives_weighed _ _ _ (c.or.ensures.gives (store c.args.machine.now c.args.meter.now.left)))

pub returns-in-Xor-clause-gives : goal.returns-in-Xor-clause-gives
unfolding binary
returns-in-Xor-clause-gives c =
    rw c.in-Xor.is (gives_weighed _ _ _ (c.xor.ensures.gives (store c.args.machine.now c.args.meter.now.left)))
