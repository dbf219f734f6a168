use Rattle.std.proofs.Common.{◌≡◌, ◌-◌, length, []}
use Rattle.star_parser.specs.Readers.{expr, arguments_from}
use Rattle.star_parser.proofs.grammar.Grammar.arguments_from.Given as goal

-- what is read from here in the turns that are left is what all is from the start
abbrev pub invariant-loop-turn : goal.invariant-loop-turn
invariant-loop-turn g l = arguments_from (expr l.self.depth) (length l.fn.tokens.rest.now) [] l.fn.tokens.rest.now ≡ arguments_from (expr l.self.depth) (l.turns - l.turn) l.found l.tokens.rest.now
