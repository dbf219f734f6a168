use Rattle.std.proofs.Common.{◌≡◌, ◌++◌, replicate}
use Rattle.star_lexer.specs.Layout.{spanned}
use Rattle.star_syntax.specs.declared.token.Token.TheVariants as t
use Rattle.star_lexer.proofs.layout.push_some.Given as goal

abbrev pub invariant-loop-turn : goal.invariant-loop-turn
invariant-loop-turn l = l.out.items ≡ l.initial.out.items ++ replicate l._turn (spanned t.Dedent l.line)
