use Rattle.std.proofs.Common.{arith}
use Rattle.plan_type.proofs.WorkFits.{work_small}
use Rattle.plan_type.proofs.plan.Plan.work.Goals as goal

pub work_from-requires-clause-small : goal.work_from-requires-clause-small
work_from-requires-clause-small c = work_small c.args.costs.now c.requires.sound c.args.self.now c.requires.class.orders

pub work_from-requires-clause-class : goal.work_from-requires-clause-class
work_from-requires-clause-class c = record { node = 0; plan = c.requires.class.orders; low = omega arith }
