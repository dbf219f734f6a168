use Rattle.std.proofs.Common.{◌≡◌, ◌++◌, length}
use Rattle.star_lexer.specs.Chars.{passed_over}
use Rattle.star_lexer.proofs.source.passed_over.Given as goal

-- what is written and what is left of the rest are what is left of the whole
abbrev pub invariant-loop-left : goal.invariant-loop-left
invariant-loop-left l = l.text.items ++ passed_over l.left ≡ passed_over l.source

abbrev pub decreases-loop-left : goal.decreases-loop-left
decreases-loop-left l = length l.left
