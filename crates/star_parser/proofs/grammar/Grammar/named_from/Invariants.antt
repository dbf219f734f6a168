use Rattle.std.proofs.Common.{◌≡◌, ◌-◌, []}
use Rattle.star_parser.specs.Readers.{expr, named_from}
use Rattle.star_parser.proofs.grammar.Grammar.named_from.Given as goal

-- what is read from here in the turns that are left is what all is from the start
abbrev pub invariant-loop-turn : goal.invariant-loop-turn
invariant-loop-turn g l = named_from (expr l.self.depth) l.turns l.fn.positional [] l.fn.name l.fn.tokens.rest.now ≡ named_from (expr l.self.depth) (l.turns - l._turn) l.positional l.named l.name l.tokens.rest.now
