use Rattle.std.proofs.Common.{◌≡◌, ◌-◌, length, []}
use Rattle.star_parser.specs.Readers.{expr, arms_from}
use Rattle.star_parser.proofs.grammar.Grammar.arms.Given as goal

-- what is read from here in the turns that are left is what all is from the start
abbrev pub invariant-loop-turn : goal.invariant-loop-turn
invariant-loop-turn g l = arms_from (expr l.self.depth) (length l.fn.tokens.rest.now) [] l.fn.first l.fn.tokens.rest.now ≡ arms_from (expr l.self.depth) (l._turn-end - l._turn) l.found l.value l.tokens.rest.now
