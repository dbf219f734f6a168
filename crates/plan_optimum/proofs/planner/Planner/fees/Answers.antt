use Rattle.std.proofs.Common.{arith, ◌∙◌, sym, refl}
use Rattle.plan_optimum.proofs.SiteLemmas.{site_of, can_blocks, fees_is}
use Rattle.plan_optimum.proofs.planner.Planner.fees.Goals as goal

pub price-requires-clause-blocks : goal.price-requires-clause-blocks
price-requires-clause-blocks c on =
    let r = can_blocks c.args.costs.now c.args.self.now c.args.at.now (sym c.may_hold-can.ensures ∙ on) in
    let b = c.blocks-blocks.ensures ∙ (site_of c.args.costs.now _ c.args.at.now.node c.args.self.now c.requires.ready c.requires.stands.node).blocks in
    let f = c.requires.ready.budget.few in omega (arith, r, b, f)

pub price-requires-2-clause-blocks : goal.price-requires-2-clause-blocks
price-requires-2-clause-blocks c on =
    let r = can_blocks c.args.costs.now c.args.self.now c.args.at.now (sym c.may_hold-can.ensures ∙ on) in
    let b = c.blocks-blocks.ensures ∙ (site_of c.args.costs.now _ c.args.at.now.node c.args.self.now c.requires.ready c.requires.stands.node).blocks in
    let f = c.requires.ready.budget.few in omega (arith, r, b, f)

pub returns : goal.returns
returns c =
    let b = c.blocks-blocks.ensures ∙ (site_of c.args.costs.now _ c.args.at.now.node c.args.self.now c.requires.ready c.requires.stands.node).blocks in
    fees_is c.args.costs.now c.args.self.now c.args.at.now c.way-way.result c.may_hold-can.result c.blocks-blocks.result _ _ _ c.way-way.ensures c.may_hold-can.ensures b refl c.price.ensures.value c.price-2.ensures.value
