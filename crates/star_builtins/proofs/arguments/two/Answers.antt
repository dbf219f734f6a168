use Rattle.std.proofs.Common.{rules, arith, ◌≡◌, ◌∙◌, length, Err}
use Rattle.star_builtins.proofs.CallLemmas.{two_given}
use Rattle.star_builtins.proofs.arguments.two.Goals as goal

pub returns-in_err-first-in-Some-clause-value : goal.returns-in_err-first-in-Some-clause-value
returns-in_err-first-in-Some-clause-value c =
    let r : c.from_residual.result ≡ Err c.in_err-first-in-Some.field-0.0 = search rules in
    let both : length c.args.values ≡ 2 = omega arith in
    λ f. rw r (two_given f c.args.values _ c.in-Some.second c.in-Some.ensures both ∙ c.in_err-first-in-Some.ensures.value (λ x. f x c.in-Some.second))

pub returns-in_ok-first-in-Some-clause-value : goal.returns-in_ok-first-in-Some-clause-value
returns-in_ok-first-in-Some-clause-value c =
    let both : length c.args.values ≡ 2 = omega arith in
    λ f. two_given f c.args.values _ c.in-Some.second c.in-Some.ensures both ∙ c.in_ok-first-in-Some.ensures.value (λ x. f x c.in-Some.second)
