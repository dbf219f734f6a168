use Rattle.star_syntax.proofs.PlacementLemmas.{placed-nothing, names-nothing}
use Rattle.language_tests.proofs.trees.empty_cell.Goals as goal

pub new-requires-4-clause-placed : goal.new-requires-4-clause-placed
new-requires-4-clause-placed c = rw (c.in_ok-new.ensures, c.new.ensures) placed-nothing

pub new-requires-4-clause-names : goal.new-requires-4-clause-names
new-requires-4-clause-names c = rw (c.in_ok-new.ensures, c.new.ensures, c.from_vec-names.ensures, c.new-3.ensures.items) names-nothing
