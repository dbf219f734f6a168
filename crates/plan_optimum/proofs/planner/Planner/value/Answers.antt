use Rattle.std.proofs.Common.{◌∙◌}
use Rattle.plan_optimum.proofs.Lookups.{offered}
use Rattle.plan_optimum.proofs.planner.Planner.value.Goals as goal

pub local-requires-clause-frees : goal.local-requires-clause-frees
local-requires-clause-frees c = (offered c.args.costs.now _ c.args.self.now c.args.at.now c.fees-fees.result c.as_slice.result.now c.requires.sound c.requires.ready c.requires.stands c.fees-fees.ensures (c.as_slice.ensures.value ∙ c.in_ok-offer_all.ensures)).frees

pub local-requires-clause-helds : goal.local-requires-clause-helds
local-requires-clause-helds c = (offered c.args.costs.now _ c.args.self.now c.args.at.now c.fees-fees.result c.as_slice.result.now c.requires.sound c.requires.ready c.requires.stands c.fees-fees.ensures (c.as_slice.ensures.value ∙ c.in_ok-offer_all.ensures)).helds

pub returns : goal.returns
returns c = c.local.ensures ∙ (offered c.args.costs.now _ c.args.self.now c.args.at.now c.fees-fees.result c.as_slice.result.now c.requires.sound c.requires.ready c.requires.stands c.fees-fees.ensures (c.as_slice.ensures.value ∙ c.in_ok-offer_all.ensures)).value
