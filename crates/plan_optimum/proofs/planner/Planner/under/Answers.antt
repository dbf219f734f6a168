use Rattle.std.proofs.Common.{arith, ◌+◌, ◌∙◌, sym, ap, subst, true, false}
use Rattle.plan_optimum.specs.Sites.{site_at}
use Rattle.plan_optimum.specs.Entries.{IsStanding}
use Rattle.plan_optimum.proofs.SiteLemmas.{site_of, can_blocks, stands_under, standing_of}
use Rattle.plan_optimum.proofs.planner.Planner.under.Goals as goal

pub overflow_add-result : goal.overflow_add-result
overflow_add-result c =
    let r = can_blocks c.args.costs.now c.args.self.now c.args.at.now (c.requires.hold c.if-hold.true) in
    let b = c.blocks-then-hold.ensures ∙ (site_of c.args.costs.now _ c.args.at.now.node c.args.self.now c.requires.ready c.requires.stands.node).blocks in
    let f = c.requires.ready.budget.few in omega (arith, r, b, f)

pub returns-then-hold-clause-stands : goal.returns-then-hold-clause-stands
returns-then-hold-clause-stands c =
    let s = stands_under c.args.costs.now _ c.args.self.now c.args.at.now c.args.child c.requires.sound c.requires.ready c.requires.stands c.requires.child true (λ _. c.requires.hold c.if-hold.true) in
    subst (IsStanding c.args.costs.now c.args.self.now) (ap (λ l. standing_of c.args.child l (c.args.at.now.used + (site_at c.args.self.now.sites c.args.at.now.node).blocks)) (sym c.levels.ensures) ∙ ap (λ b. standing_of c.args.child c.levels.result (c.args.at.now.used + b)) (sym c.blocks-then-hold.ensures)) s

pub returns-else-hold-clause-stands : goal.returns-else-hold-clause-stands
returns-else-hold-clause-stands c =
    stands_under c.args.costs.now _ c.args.self.now c.args.at.now c.args.child c.requires.sound c.requires.ready c.requires.stands c.requires.child false (λ on. absurd (cc))
