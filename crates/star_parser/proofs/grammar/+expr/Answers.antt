use Rattle.std.proofs.Common.{◌≡◌, ap, arith}
use Rattle.star_parser.specs.Readers.{expr}
use Rattle.star_parser.proofs.Turns.{deeper}
use Rattle.star_parser.proofs.grammar.+expr.Goals as goal

pub returns-then-depth-eq0 : goal.returns-then-depth-eq0
unfolding expr
returns-then-depth-eq0 t c _ = let none : c.args.depth ≡ 0 = omega arith in ap (λ n. expr n c.args.level c.args.tokens.now.rest.now) none

pub returns : goal.returns
unfolding expr
returns t c = rw (deeper (λ n. expr n c.args.level c.args.tokens.now.rest.now) c.args.depth (omega arith)) c.at.ensures
