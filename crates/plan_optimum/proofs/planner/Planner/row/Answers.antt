use Rattle.std.proofs.Common.{arith, ◌<◌, ◌∙◌, ◌++◌, ap, sym, length}
use Rattle.plan_optimum.specs.Sites.{site_at, way_at}
use Rattle.plan_optimum.specs.Entries.{column_of}
use Rattle.plan_optimum.proofs.Lookups.{flat_more}
use Rattle.plan_optimum.proofs.SiteLemmas.{way_get}
use Rattle.plan_optimum.proofs.planner.Planner.row.Goals as goal

pub loop-level-preserved : goal.loop-level-preserved
loop-level-preserved c =
    let lt : c.loop-level.level < length (site_at c.args.self.now.sites c.args.node).ways = (let t = c.loop-level-test.true in let e = c.levels-level-end.ensures in omega (arith, t, e)) in
    let f = column_of c.args.costs.now c.args.self.now.budget c.args.node in
    c.in_ok-column.ensures ∙ ap (λ l. l ++ f (way_at c.args.self.now.sites c.args.node c.loop-level.level)) c.loop-level.invariant
    ∙ sym (flat_more f (site_at c.args.self.now.sites c.args.node).ways c.loop-level.level (way_at c.args.self.now.sites c.args.node c.loop-level.level) (way_get c.args.self.now.sites c.args.node c.loop-level.level lt))
