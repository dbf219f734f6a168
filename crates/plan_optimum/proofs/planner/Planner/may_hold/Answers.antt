use Rattle.std.proofs.Common.{arith, rules, ◌≡◌, ◌+◌, ◌<◌, ◌∙◌, nat_le}
use Rattle.std.proofs.lemmas.Bool.Decides.{nat_tests}
use Rattle.plan_optimum.proofs.SiteLemmas.{site_of, may_is}
use Rattle.plan_optimum.proofs.planner.Planner.may_hold.Goals as goal

pub returns-then-at-gt0 : goal.returns-then-at-gt0
returns-then-at-gt0 c =
    let some : 0 < c.args.at.now.node = grind (arith, nat_tests, c.if-at-gt0.true) in
    let fit : c.fits.result ≡ nat_le (c.args.at.now.used + c.blocks-then-at-gt0.result) c.args.self.now.budget.most = search rules in
    may_is c.args.costs.now c.args.self.now c.args.at.now c.fits.result c.blocks-then-at-gt0.result some (c.blocks-then-at-gt0.ensures ∙ (site_of c.args.costs.now _ c.args.at.now.node c.args.self.now c.requires.ready c.requires.stands.node).blocks) fit
