use Rattle.std.proofs.Common.{◌≡◌, ◌-◌, length, []}
use Rattle.star_parser.specs.Readers.{expr}
use Rattle.star_parser.specs.StatementReaders.{parameters_from}
use Rattle.star_parser.proofs.terms.Terms.parameters_from.Given as goal

-- what is read from here in the turns that are left is what all is from the start
abbrev pub invariant-loop-turn : goal.invariant-loop-turn
invariant-loop-turn l = parameters_from (expr l.self.depth) (length l.fn.tokens.rest.now) [] l.fn.tokens.rest.now ≡ parameters_from (expr l.self.depth) (l._turn-end - l._turn) l.found l.tokens.rest.now
