use Rattle.std.proofs.Common.{◌≡◌, ◌*◌, ◌++◌}
use Rattle.tree_maker.specs.Generator.{word_after, fresh_cells}
use Rattle.tree_maker.proofs.cells.add_fresh.Given as goal

abbrev pub invariant-loop-place : goal.invariant-loop-place
invariant-loop-place l = record {
  sources : l.sources ≡ l.fn.sources ++ fresh_cells l.fn.word l.first l.place;
  word : l.word ≡ word_after l.fn.word (2 * l.place);
}
