use Rattle.std.proofs.Common.{sym, ◌∙◌}
use Rattle.star_meaning.specs.Comparing.{ordered_as}
use Rattle.star_builtins.specs.Weighing.{verdict_of}
use Rattle.star_builtins.proofs.Ordered.{order_went}
use Rattle.star_builtins.proofs.order.in_order.Goals as goal

pub returns : goal.returns
returns c =
    rw (order_went (ordered_as c.args.holds.before c.args.holds.same c.args.holds.after) c.args.left.now c.args.right.now _ _ (verdict_of c.in_ok-order.order) (sym c.are_ordered.ensures ∙ c.if-not-are_ordered.false) c.in_ok-order.ensures) (c.answer.ensures _)
