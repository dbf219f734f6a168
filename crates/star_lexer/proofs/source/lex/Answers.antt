use Rattle.std.specs.Str.{chars}
use Rattle.star_lexer.proofs.Once.{is_so, answers, refuses, nests, balances, closes}
use Rattle.star_lexer.proofs.source.lex.Goals as goal

pub returns-clause-found : goal.returns-clause-found
returns-clause-found c = is_so (chars c.args.source.now) _ c.lex_source.ensures

pub returns-clause-tokens : goal.returns-clause-tokens
returns-clause-tokens c = answers (chars c.args.source.now) _ c.lex_source.ensures

pub returns-clause-fault : goal.returns-clause-fault
returns-clause-fault c = refuses (chars c.args.source.now) _ c.lex_source.ensures

pub returns-clause-nested : goal.returns-clause-nested
returns-clause-nested c = nests (chars c.args.source.now) _ (is_so (chars c.args.source.now) _ c.lex_source.ensures)

pub returns-clause-ended : goal.returns-clause-ended
returns-clause-ended c = closes (chars c.args.source.now) _ (is_so (chars c.args.source.now) _ c.lex_source.ensures)

pub returns-clause-balanced : goal.returns-clause-balanced
returns-clause-balanced c = balances (chars c.args.source.now) _ (is_so (chars c.args.source.now) _ c.lex_source.ensures)
