use Rattle.std.proofs.Common.{◌≡◌, ap, arith}
use Rattle.star_parser.specs.Readers.{expr}
use Rattle.star_parser.specs.StatementReaders.{statement}
use Rattle.star_parser.proofs.Turns.{deeper}
use Rattle.star_parser.proofs.compound.+statement.Goals as goal

pub returns-then-depth-eq0 : goal.returns-then-depth-eq0
unfolding statement
returns-then-depth-eq0 t c _ = let none : c.args.depth ≡ 0 = omega arith in ap (λ n. statement (expr c.args.terms) n c.args.tokens.now.rest.now) none

pub returns : goal.returns
unfolding statement
returns t c = rw (deeper (λ n. statement (expr c.args.terms) n c.args.tokens.now.rest.now) c.args.depth (omega arith)) c.one.ensures
