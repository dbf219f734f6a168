use Rattle.std.proofs.Common.{◌≡◌, ◌∙◌, length, arith}
use Rattle.star_value.proofs.KeyOrders.{parts_end}
use Rattle.star_value.proofs.key_order.+order.Goals as goal

pub order_of_parts-returns : goal.order_of_parts-returns
order_of_parts-returns t c =
    let all : c.loop-at.at ≡ length c.args.keys.now = omega arith in
    c.cmp.ensures ∙ parts_end _ _ c.loop-at.at all c.loop-at.invariant.0 ∙ c.loop-at.invariant.1
