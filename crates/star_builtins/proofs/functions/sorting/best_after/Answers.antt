use Rattle.std.proofs.Common.{◌≡◌, ◌∙◌, ◌<◌, ◌≤◌, length, true, sym, rules, arith, Err}
use Rattle.star_meaning.specs.Builtins.{are_alike}
use Rattle.star_builtins.specs.Walks.{given}
use Rattle.star_builtins.proofs.SortLemmas.{alike_through, best_differs, best_end, best_kept, best_stopped, best_taken}
use Rattle.star_builtins.proofs.functions.sorting.best_after.Goals as goal
use Rattle.star_builtins.proofs.functions.sorting.best_after.Goals.{then-is_better, else-is_better+in-Text-1, else-is_better+in-Tuple-1, else-is_better+in-None-1}

pub returns-in_err-item-clause-gives : goal.returns-in_err-item-clause-gives
returns-in_err-item-clause-gives c =
    let items = given c.args.machine.now.state c.args.of.now in
    let r : c.from_residual.result ≡ Err c.in_err-item.field-0.0 = search rules in
    let within : c.loop-place.place < length items = omega arith in
    rw (← c.loop-place.invariant.same, r)
    (best_stopped c.args.greatest c.args.first items c.loop-place.place c.args.machine.now.state c.loop-place.meter.left _ c.loop-place.best _ within c.in_err-item.ensures.gives)

pub returns-then-not-are_alike-clause-gives : goal.returns-then-not-are_alike-clause-gives
returns-then-not-are_alike-clause-gives c =
    let items = given c.args.machine.now.state c.args.of.now in
    sym c.loop-place.invariant.same
    ∙ best_differs c.args.greatest c.args.first items c.loop-place.place c.args.machine.now.state c.loop-place.meter.left _ c.loop-place.best c.in_ok-item.item c.in_ok-item.ensures.gives c.loop-place.invariant.alike (sym c.if-not-are_alike.ensures)

pub loop-place-preserved : goal.loop-place-preserved
loop-place-preserved c =
    let items = given c.args.machine.now.state c.args.of.now in
    let like : are_alike c.loop-place.best c.in_ok-item.item ≡ true = sym c.if-not-are_alike.ensures in
    let taken = best_taken c.args.greatest c.args.first items c.loop-place.place c.args.machine.now.state c.loop-place.meter.left _ c.loop-place.best c.in_ok-item.item c.in_ok-item.ensures.gives c.loop-place.invariant.alike like in
    let kept = best_kept c.args.greatest c.args.first items c.loop-place.place c.args.machine.now.state c.loop-place.meter.left _ c.loop-place.best c.in_ok-item.item c.in_ok-item.ensures.gives c.loop-place.invariant.alike like in
    elim c.if-is_better.branch [
      | then-is_better w ↦ rw w.best-is (record {
        same = taken (sym w.if-is_better.ensures) ∙ c.loop-place.invariant.same;
        alike = alike_through c.args.first c.loop-place.best c.in_ok-item.item c.loop-place.invariant.alike ∙ like;
        fit = c.in_ok-item.ensures.fits;
      })
      | else-is_better+in-Text-1 w ↦ rw w.best-is (record { same = kept (sym w.if-is_better.ensures) ∙ c.loop-place.invariant.same; alike = c.loop-place.invariant.alike; fit = c.loop-place.invariant.fit })
      | else-is_better+in-Tuple-1 w ↦ rw w.best-is (record { same = kept (sym w.if-is_better.ensures) ∙ c.loop-place.invariant.same; alike = c.loop-place.invariant.alike; fit = c.loop-place.invariant.fit })
      | else-is_better+in-None-1 w ↦ rw w.best-is (record { same = kept (sym w.if-is_better.ensures) ∙ c.loop-place.invariant.same; alike = c.loop-place.invariant.alike; fit = c.loop-place.invariant.fit })
    ]

pub returns-clause-gives : goal.returns-clause-gives
returns-clause-gives c =
    let items = given c.args.machine.now.state c.args.of.now in
    let past : length items ≤ c.loop-place.place = omega arith in
    sym c.loop-place.invariant.same ∙ best_end c.args.greatest c.args.first items c.loop-place.place c.args.machine.now.state c.loop-place.meter.left c.loop-place.best _ past
