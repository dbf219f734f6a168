use Rattle.std.proofs.Common.{◌≡◌, ◌-◌, length, []}
use Rattle.star_parser.specs.Tables.{signs_from}
use Rattle.star_parser.proofs.grammar.operators.signs.Given as goal

-- what is read from here in the turns that are left is what all is from the start
abbrev pub invariant-loop-turn : goal.invariant-loop-turn
invariant-loop-turn l = signs_from (length l.fn.tokens.rest.now) [] l.fn.tokens.rest.now ≡ signs_from (l._turn-end - l._turn) l.found l.tokens.rest.now
