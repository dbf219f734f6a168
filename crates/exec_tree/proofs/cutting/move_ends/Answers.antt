use Rattle.std.proofs.Common.{◌≤◌, length, sym, ap, ◌∙◌, arith}
use Rattle.std.proofs.lemmas.List.Elements.{All-set}
use Rattle.exec_tree.specs.Forests.{moved, parents_of}
use Rattle.exec_tree.proofs.CutLemmas.{one_moved}
use Rattle.exec_tree.proofs.cutting.move_ends.Goals as goal

pub loop-end-preserved : goal.loop-end-preserved
loop-end-preserved c = (
  one_moved (moved (parents_of c.args.nodes.now) c.args.failed.now) c.args.ends.now c.loop-end.ends c.loop-end.end-index c.end-item.result c.end_in.result c.loop-end.invariant.0 (omega arith) c.end-item.is
      (c.end_in.ensures.end ∙ ap (moved (parents_of c.args.nodes.now) c.args.failed.now) (sym c.end-item.is)),
  All-set (λ end. end ≤ length c.args.nodes.now) c.loop-end.ends c.loop-end.end-index c.end_in.result
      (omega (arith, c.end_in.ensures.within, c.end-item.is, c.loop-end.invariant.1 c.loop-end.end-index c.end-item.result (omega arith))) c.loop-end.invariant.1,
)
