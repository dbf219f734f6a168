use Rattle.star_builtins.proofs.TextLemmas.{piece_moved, piece_fits}
use Rattle.star_builtins.proofs.text_methods.into_values.Goals as goal

pub loop-part-preserved : goal.loop-part-preserved
loop-part-preserved c = record {
  all = rw c.in_ok-push.ensures.items (piece_moved c.loop-part.parts c.loop-part.pieces.items c.pop.new.self c.in-Some.part c.value_of.result _ c.in-Some.ensures c.value_of.ensures.is c.loop-part.invariant.all);
  fit = λ m. rw c.in_ok-push.ensures.items (piece_fits c.loop-part.parts c.loop-part.pieces.items m c.value_of.result (c.loop-part.invariant.fit m) (c.value_of.ensures.fits m));
}

pub returns-clause-fits : goal.returns-clause-fits
returns-clause-fits c = λ m. rw (c.from_vec.ensures, c.reverse.ensures.items) (c.loop-part.invariant.fit m)
