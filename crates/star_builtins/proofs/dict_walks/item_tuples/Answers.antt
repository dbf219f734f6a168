use Rattle.std.proofs.Common.{◌≡◌, ◌∙◌, sym, refl, arith, rules}
use Rattle.star_meaning.specs.Methods.{pair_rows}
use Rattle.star_builtins.proofs.PairWalks.{pair_over, pair_ends, pair_next, pairs_end, key_here, value_here}
use Rattle.star_builtins.proofs.TupleLemmas.{push_fits, rows_start}
use Rattle.star_builtins.proofs.dict_walks.item_tuples.Goals as goal

pub loop-place-init : goal.loop-place-init
loop-place-init c = rw c.new-tuples.ensures (record {
  same = λ s. rows_start (pair_rows c.args.pairs.now) (record { state = s; left = c.args.meter.now.left });
  fit = λ m fit. record { references = refl; proper = refl };
})

pub returns-in_err-charge_tuple-clause-gives : goal.returns-in_err-charge_tuple-clause-gives
returns-in_err-charge_tuple-clause-gives c =
    λ s. let stop = sym (c.loop-place.invariant.same s) ∙ pair_over c.args.pairs.now c.loop-place.place c.loop-place.tuples s _ _ c.loop-place.meter.left _ c.at.ensures _ c.in_err-charge_tuple.ensures in search (rules, stop)

pub returns-in_err-tuple-clause-gives : goal.returns-in_err-tuple-clause-gives
returns-in_err-tuple-clause-gives c =
    λ s. let ends = pair_ends c.args.pairs.now c.loop-place.place c.loop-place.tuples s _ _ c.loop-place.meter.left _ c.at.ensures _ _ _ c.in_ok-charge_tuple.ensures c.in_err-tuple.ensures.gives (c.loop-place.invariant.same s) in search (rules, ends)

pub loop-place-preserved : goal.loop-place-preserved
loop-place-preserved c = rw c.in_ok-push.ensures.ok (record {
  same = λ s. sym (pair_next c.args.pairs.now c.loop-place.place c.loop-place.tuples s _ _ c.loop-place.meter.left _ c.at.ensures _ _ c.in_ok-charge_tuple.ensures c.in_ok-tuple.ensures.gives) ∙ c.loop-place.invariant.same s;
  fit = λ m fit. push_fits m c.loop-place.tuples _ (c.loop-place.invariant.fit m fit)
      (c.in_ok-tuple.ensures.fits m (key_here m c.args.pairs.now fit c.loop-place.place _ _ c.at.ensures) (value_here m c.args.pairs.now fit c.loop-place.place _ _ c.at.ensures));
})

pub returns-clause-gives : goal.returns-clause-gives
returns-clause-gives c =
    λ s. sym (c.loop-place.invariant.same s) ∙ pairs_end c.args.pairs.now c.loop-place.place c.loop-place.tuples s c.loop-place.meter.left (omega arith)

pub returns-clause-fits : goal.returns-clause-fits
returns-clause-fits c = λ m fit. c.loop-place.invariant.fit m fit
