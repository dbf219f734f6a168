use Rattle.std.proofs.Common.{◌≡◌, ◌≤◌, ◌*◌, length}
use Rattle.tree_maker.specs.Generator.{word_before, fresh_before, made}
use Rattle.tree_maker.proofs.maker.make.Given as goal

abbrev pub invariant-loop-number : goal.invariant-loop-number
invariant-loop-number l = record {
  all : l.all ≡ made l.seed l.cells l.number;
  many : length l.all ≡ l.number;
  fresh : l.maker.fresh ≡ fresh_before l.seed l.cells l.number;
  small : l.maker.fresh ≤ l.number * l.cells;
  word : l.maker.word ≡ word_before l.seed l.number l.maker.fresh;
}
