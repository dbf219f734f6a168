use Rattle.std.proofs.Common.{arith, ◌≤◌, ◌-◌, ◌∙◌, ap, length, length-append, [], ◌∷◌}
use Rattle.plan_optimum.specs.Sites.{site_at}
use Rattle.plan_optimum.specs.Entries.{row_of}
use Rattle.plan_optimum.proofs.Lookups.{table_push}
use Rattle.plan_optimum.proofs.planner.Planner.fill.Goals as goal

pub loop-done-preserved : goal.loop-done-preserved
loop-done-preserved c =
    let n = c.len-nodes.ensures in
    let le : c.loop-done.done ≤ length c.args.costs.now.rows = (let t = c.loop-done-test.true in omega (arith, t, n)) in
    let is = c.in_ok-row.ensures ∙ ap (λ n. row_of c.args.costs.now c.loop-done.self.budget (n - c.loop-done.done) (site_at c.loop-done.self.sites (n - c.loop-done.done)).ways) n in
    let long = ap length c.in_ok-push.ensures.ok in
    let more = length-append c.loop-done.self.table (c.in_ok-row.row ∷ []) in
    let count = c.loop-done.invariant.count in
    record {
      budget = c.loop-done.invariant.budget;
      count = omega (arith, long, more, count);
      ready = record {
        budget = c.loop-done.invariant.ready.budget;
        sites = c.loop-done.invariant.ready.sites;
        table = rw c.in_ok-push.ensures.ok (table_push c.args.costs.now c.loop-done.self.budget c.loop-done.self.sites c.loop-done.done c.loop-done.self.table c.in_ok-row.row count le c.loop-done.invariant.ready.table is);
      };
    }
