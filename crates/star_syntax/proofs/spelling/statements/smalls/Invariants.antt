use Rattle.std.proofs.Common.{◌≡◌, ◌++◌, map, take}
use Rattle.star_syntax.specs.declared.token.Mark.TheVariants as m
use Rattle.star_syntax.specs.Spelling.{separated, small_spelling}
use Rattle.star_syntax.proofs.spelling.statements.smalls.Given as goal

abbrev pub invariant-loop-place : goal.invariant-loop-place
invariant-loop-place l = l.out.items ≡ l.fn.out.items ++ separated m.Semicolon (map small_spelling (take l.place l.all))
