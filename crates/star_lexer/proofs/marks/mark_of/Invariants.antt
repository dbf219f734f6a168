use Rattle.std.proofs.Common.{◌≡◌, length}
use Rattle.star_lexer.specs.Words.{lookup, mark_text}
use Rattle.star_lexer.proofs.marks.mark_of.Given as goal

abbrev pub invariant-loop-table : goal.invariant-loop-table
invariant-loop-table l = lookup mark_text l.table l.word ≡ lookup mark_text l.initial.table l.word

abbrev pub decreases-loop-table : goal.decreases-loop-table
decreases-loop-table l = length l.table
