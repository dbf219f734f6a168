use Rattle.std.proofs.Common.{ℕ, rules}
use Rattle.std.specs.Prelude.{FitsSigned}
use Rattle.std.specs.Int.{w128}
use Rattle.star_meaning.specs.Operators.{divided}
use Rattle.star_meaning.specs.Values.{rest_of}
use Rattle.star_builtins.proofs.OperandLemmas.{on_ints_gives}
use Rattle.star_builtins.proofs.arithmetic.modulo.Goals as goal

pub returns-in-Int-Int-clause-gives : goal.returns-in-Int-Int-clause-gives
returns-in-Int-Int-clause-gives c = λ s.
    let left : FitsSigned w128 c.in-Int-Int.left = search rules in
    let right : FitsSigned w128 c.in-Int-Int.right = search rules in
    on_ints_gives (divided {C = ℕ} rest_of) _ _ _ _ _ s c.in-Int-Int.is-0 c.in-Int-Int.is-1 left right (c.divided_rest.ensures.gives s)
