use Rattle.std.proofs.Common.{◌≡◌, ◌-◌, length, []}
use Rattle.star_parser.specs.Readers.{expr}
use Rattle.star_parser.specs.StatementReaders.{statement, statements_from}
use Rattle.star_parser.proofs.compound.Blocks.statements.Given as goal

-- what is read from here in the turns that are left is what all is from the start
abbrev pub invariant-loop-turn : goal.invariant-loop-turn
invariant-loop-turn g l = statements_from (expr l.self.terms.depth) (statement (expr l.self.terms.depth) l.self.depth) (length l.fn.tokens.rest.now) [] l.fn.tokens.rest.now ≡ statements_from (expr l.self.terms.depth) (statement (expr l.self.terms.depth) l.self.depth) (l._turn-end - l._turn) l.found l.tokens.rest.now
