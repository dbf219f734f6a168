use Rattle.std.proofs.Common.{sym, ap, ◌∙◌, ◌+◌}
use Rattle.tree_maker.specs.Generator.{next, fresh_cell}
use Rattle.tree_maker.proofs.Words.{two_more, no_draw, no_cell, cell_more}
use Rattle.tree_maker.proofs.cells.add_fresh.Goals as goal

pub loop-place-init : goal.loop-place-init
loop-place-init c = record {
  sources = no_cell c.args.word.now c.args.first c.args.sources.now;
  word = sym (no_draw c.args.word.now);
}

pub loop-place-preserved : goal.loop-place-preserved
loop-place-preserved c = record {
  sources = cell_more c.args.word.now c.args.first c.loop-place.place c.loop-place.sources c.add.new.self c.args.sources.now c.in_ok-source.source
      c.in_ok-add.ensures.ok c.loop-place.invariant.sources
      (c.in_ok-source.ensures.text ∙ ap (λ x. fresh_cell x (c.args.first + c.loop-place.place)) c.loop-place.invariant.word);
  word = c.fresh_cell.ensures.word ∙ ap (λ x. next (next x)) c.loop-place.invariant.word ∙ two_more c.args.word.now c.loop-place.place;
}
