use Rattle.std.proofs.Common.{rules, ◌≡◌, sym, subst}
use Rattle.plan_type.specs.Operations.{CarriesOut, operations_of}
use Rattle.plan_type.proofs.Reached.{carries_out}
use Rattle.plan_type.proofs.plan.Plan.operations.Goals as goal

pub returns-clause-carries_out : goal.returns-clause-carries_out
returns-clause-carries_out c =
    let list : c.plan.new.self.operations ≡ operations_of c.args.costs.now c.args.budget.now c.args.self.now = search rules in
    subst (CarriesOut c.args.costs.now c.args.budget.now c.args.self.now) (sym list)
    (carries_out c.args.costs.now c.args.budget.now c.args.self.now c.requires.sound c.requires.class c.requires.fits)
