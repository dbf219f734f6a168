use Rattle.std.proofs.Common.{◌≡◌, ◌-◌, length, []}
use Rattle.star_parser.specs.Readers.{expr}
use Rattle.star_parser.specs.StatementReaders.{smalls_from}
use Rattle.star_parser.proofs.terms.Terms.line.Given as goal

-- what is read from here in the turns that are left is what all is from the start
abbrev pub invariant-loop-turn : goal.invariant-loop-turn
invariant-loop-turn l = smalls_from (expr l.self.depth) (length l.fn.tokens.rest.now) [] l.fn.tokens.rest.now ≡ smalls_from (expr l.self.depth) (l._turn-end - l._turn) l.smalls l.tokens.rest.now
