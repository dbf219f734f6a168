use Rattle.std.proofs.Common.{◌≡◌, ◌-◌, length, []}
use Rattle.star_parser.specs.Readers.{expr, clauses_from}
use Rattle.star_parser.proofs.grammar.Grammar.clauses.Given as goal

-- what is read from here in the turns that are left is what all is from the start
abbrev pub invariant-loop-turn : goal.invariant-loop-turn
invariant-loop-turn g l = clauses_from (expr l.self.depth) (length l.fn.tokens.rest.now) [] l.fn.tokens.rest.now ≡ clauses_from (expr l.self.depth) (l._turn-end - l._turn) l.found l.tokens.rest.now
