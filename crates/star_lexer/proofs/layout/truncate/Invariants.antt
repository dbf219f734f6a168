use Rattle.std.proofs.Common.{◌≡◌, ◌-◌, length, take}
use Rattle.star_lexer.proofs.layout.truncate.Given as goal

abbrev pub invariant-loop-turn : goal.invariant-loop-turn
invariant-loop-turn l = l.items ≡ take (length l.fn.items - (l._turn - l.count)) l.fn.items
