use Rattle.std.proofs.Common.{rules, ◌≡◌, ◌∙◌}
use Rattle.plan_optimum.specs.Entries.{entry_at}
use Rattle.plan_optimum.proofs.Lookups.{entry_is}
use Rattle.plan_optimum.proofs.planner.Planner.entry.Goals as goal

pub returns-in-Some-get : goal.returns-in-Some-get
returns-in-Some-get c =
    let found : c.in-Some-get.number.now ≡ entry_at c.args.costs.now c.args.self.now c.args.at.now = search rules in
    found ∙ entry_is c.args.costs.now c.args.self.now c.args.at.now c.requires.ready c.requires.stands

pub returns-in-None-get : goal.returns-in-None-get
returns-in-None-get c =
    let found : 0 ≡ entry_at c.args.costs.now c.args.self.now c.args.at.now = search rules in
    found ∙ entry_is c.args.costs.now c.args.self.now c.args.at.now c.requires.ready c.requires.stands

pub returns-in-None : goal.returns-in-None
returns-in-None c =
    let found : 0 ≡ entry_at c.args.costs.now c.args.self.now c.args.at.now = search rules in
    found ∙ entry_is c.args.costs.now c.args.self.now c.args.at.now c.requires.ready c.requires.stands
