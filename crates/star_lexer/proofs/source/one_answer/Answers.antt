use Rattle.star_lexer.proofs.Once.{some_answer, never_both, one_list, one_fault}
use Rattle.star_lexer.proofs.Lined.{tokens_written}
use Rattle.star_lexer.proofs.Passed.{passed_lines}
use Rattle.star_lexer.proofs.source.one_answer.Goals as goal

pub returns-clause-some : goal.returns-clause-some
returns-clause-some c = some_answer

pub returns-clause-apart : goal.returns-clause-apart
returns-clause-apart c = never_both

pub returns-clause-one_list : goal.returns-clause-one_list
returns-clause-one_list c = one_list

pub returns-clause-one_fault : goal.returns-clause-one_fault
returns-clause-one_fault c = one_fault

pub returns-clause-written : goal.returns-clause-written
returns-clause-written c = tokens_written

pub returns-clause-lines : goal.returns-clause-lines
returns-clause-lines c = passed_lines
