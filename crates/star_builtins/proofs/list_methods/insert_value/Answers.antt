use Rattle.std.proofs.Common.{rules}
use Rattle.std.specs.Int.{w128}
use Rattle.std.specs.Prelude.{FitsSigned}
use Rattle.star_builtins.specs.Reached.{store}
use Rattle.star_builtins.proofs.MethodLemmas.{insert_given}
use Rattle.star_builtins.proofs.list_methods.insert_value.Goals as goal

pub returns-clause-gives : goal.returns-clause-gives
returns-clause-gives c =
    let fit : FitsSigned w128 c.in_ok-number.number = search rules in
    λ left. insert_given c.args.locked.now c.args.id c.in_ok-number.number (store c.args.machine.now left) _ _ fit c.args.at.now c.args.item c.in_ok-number.ensures (c.insert_number.ensures.gives left)
