use Rattle.std.proofs.Common.{ℕ, rules}
use Rattle.std.specs.Prelude.{FitsSigned}
use Rattle.std.specs.Int.{w128}
use Rattle.star_value.specs.declared.value.Value.{out-Value}
use Rattle.star_meaning.specs.Operators.{add_at}
use Rattle.star_builtins.specs.Reached.{store}
use Rattle.star_builtins.proofs.OperandLemmas.{left_int_gives}
use Rattle.star_builtins.proofs.adding.add.Goals as goal

pub returns-in-Int-clause-gives : goal.returns-in-Int-clause-gives
returns-in-Int-clause-gives c =
    let fit : FitsSigned w128 c.in-Int.number = search rules in
    let s = store c.args.machine.now c.args.meter.now.left in
    left_int_gives (λ o. add_at {C = ℕ} o (out-Value c.args.right)) c.args.left c.in-Int.number c.add_int.result s c.in-Int.is fit (c.add_int.ensures.gives s)
