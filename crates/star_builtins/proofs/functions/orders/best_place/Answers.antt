use Rattle.std.proofs.Common.{◌≡◌, ◌<◌, ◌≤◌, length, arith, sym}
use Rattle.star_builtins.specs.Sorting.{better}
use Rattle.star_builtins.proofs.SortLemmas.{leads_take, leads_pass, leads_end}
use Rattle.star_builtins.proofs.functions.orders.best_place.Goals as goal
use Rattle.star_builtins.proofs.functions.orders.best_place.Goals.{then-is_better, else-is_better}

pub loop-place-preserved : goal.loop-place-preserved
loop-place-preserved c =
    let values = c.args.values.now in
    let within : c.loop-place.place < length values = omega arith in
    let leads = c.loop-place.invariant.leads in
    elim c.if-is_better.branch [
      | then-is_better w ↦ rw w.best-is (record {
        within = within;
        leads = leads_take (better c.args.greatest) values c.loop-place.best c.loop-place.place c.index-values-place.result c.index-values-best.result within c.index-values-place.is c.loop-place.invariant.within c.index-values-best.is leads (sym w.if-is_better.ensures);
      })
      | else-is_better w ↦ rw w.best-is (record {
        within = c.loop-place.invariant.within;
        leads = leads_pass (better c.args.greatest) values c.loop-place.best c.loop-place.place c.index-values-place.result c.index-values-best.result within c.index-values-place.is c.loop-place.invariant.within c.index-values-best.is leads (sym w.if-is_better.ensures);
      })
    ]

pub returns-clause-best : goal.returns-clause-best
returns-clause-best c =
    let past : length c.args.values.now ≤ c.loop-place.place = omega arith in
    leads_end (better c.args.greatest) c.args.values.now c.loop-place.best c.loop-place.place c.loop-place.invariant.within past c.loop-place.invariant.leads
