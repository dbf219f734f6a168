use Rattle.cell_reader.proofs.CellLemmas.{cell_apart, cell_once}
use Rattle.cell_reader.proofs.laws.one_answer.Goals as goal

pub returns-clause-cell : goal.returns-clause-cell
returns-clause-cell c = cell_once

pub returns-clause-apart : goal.returns-clause-apart
returns-clause-apart c = cell_apart
