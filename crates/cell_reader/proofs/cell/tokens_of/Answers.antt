use Rattle.std.proofs.Common.{subst}
use Rattle.star_lexer.specs.Tokens.{Tokens, FirstFault}
use Rattle.cell_reader.proofs.CellLemmas.{points}
use Rattle.cell_reader.proofs.cell.tokens_of.Goals as goal

pub returns-in-Ok-clause-tokens : goal.returns-in-Ok-clause-tokens
returns-in-Ok-clause-tokens c =
    subst (λ text. Tokens text c.in-Ok.tokens) (points c.args.source.now c.as_str.result.now c.as_str.ensures.bytes c.as_str.ensures.scalars) c.in-Ok.ensures.found

pub returns-in-Err-Bad-clause-fault : goal.returns-in-Err-Bad-clause-fault
returns-in-Err-Bad-clause-fault c =
    subst (λ text. FirstFault text c.in-Err-Bad.kind c.in-Err-Bad.line) (points c.args.source.now c.as_str.result.now c.as_str.ensures.bytes c.as_str.ensures.scalars)
    (rw c.in-Err-Bad.field-0-is at c.in-Err-Bad.ensures.found)
