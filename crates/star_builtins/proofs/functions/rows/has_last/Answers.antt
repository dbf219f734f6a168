use Rattle.std.proofs.Common.{◌≡◌, ◌∙◌, arith, rules}
use Rattle.std.specs.Prelude.{FitsSigned}
use Rattle.std.specs.Int.{w128}
use Rattle.std.proofs.lemmas.Bool.Decides.{nat_tests}
use Rattle.star_builtins.proofs.Rowed.{none_last, some_last}
use Rattle.star_builtins.proofs.functions.rows.has_last.Goals as goal

pub returns-then-count-eq0 : goal.returns-then-count-eq0
returns-then-count-eq0 c =
    let none : c.args.count ≡ 0 = grind (arith, nat_tests) in
    none_last c.args.start.now c.args.count none

pub returns : goal.returns
returns c =
    let fit : FitsSigned w128 c.args.start.now = search rules in
    let some : c.args.count ≡ 0 → ⊥ = λ none. grind (arith, nat_tests) in
    c.is_some.ensures ∙ some_last c.args.start.now c.args.count _ fit some c.checked_add_unsigned.ensures
