use Rattle.std.proofs.Math.Facts.{to_z-of_z}
use Rattle.star_value.specs.declared.value.Value.TheVariants as value
use Rattle.std.proofs.Common.{◌∙◌, ◌∷◌, [], ap, sym, Some, ◌≡◌, ◌<◌, ◌≤◌, length, arith, rules}
use Rattle.std.specs.Prelude.{FitsSigned}
use Rattle.std.specs.Int.{w128}
use Rattle.star_meaning.specs.Builtins as spec
use Rattle.star_builtins.specs.Walks.{given}
use Rattle.star_builtins.proofs.Rowed.{numbered_length, numbered_row, row_more, row_stops, rows_done, rows_empty}
use Rattle.star_builtins.proofs.Sequences.{none_fit}
use Rattle.star_builtins.proofs.TupleLemmas.{push_fits}
use Rattle.star_builtins.proofs.WalkLemmas.{some_at}
use Rattle.star_builtins.proofs.functions.rows.numbered.Goals as goal

pub loop-place-init : goal.loop-place-init
loop-place-init c = record { rest = rows_empty _ _ _ c.new-tuples.ensures.items; fit = none_fit c.args.machine.now _ c.new-tuples.ensures.items }

pub returns-in_err-tuple-clause-gives : goal.returns-in_err-tuple-clause-gives
returns-in_err-tuple-clause-gives c =
    let fit : FitsSigned w128 c.args.start.now = search rules in
    let nfit : FitsSigned w128 c.saturating_add_unsigned-number.result = search rules in
    let below : c.loop-place.place < c.args.count = omega arith in
    let within : c.loop-place.place < length (given c.args.machine.now.state c.args.of.now) = omega (arith, c.requires.count) in
    let x = some_at (given c.args.machine.now.state c.args.of.now) c.loop-place.place within in
    let at = numbered_row c.args.start.now (given c.args.machine.now.state c.args.of.now) c.loop-place.place c.args.count _ x.0 fit c.requires.last below c.saturating_add_unsigned-number.ensures x.1 in
    let stops = row_stops (spec.numbered c.args.start.now (given c.args.machine.now.state c.args.of.now)) c.loop-place.place _ (at ∙ ap (λ k. Some (value.Int k ∷ x.0 ∷ [])) (sym (to_z-of_z nfit))) _ _ _ _ c.loop-place.invariant.rest _ (c.in_err-tuple.ensures.gives x.0 x.1) in
    search (rules, stops)

pub loop-place-preserved : goal.loop-place-preserved
loop-place-preserved c =
    let fit : FitsSigned w128 c.args.start.now = search rules in
    let nfit : FitsSigned w128 c.saturating_add_unsigned-number.result = search rules in
    let below : c.loop-place.place < c.args.count = omega arith in
    let within : c.loop-place.place < length (given c.args.machine.now.state c.args.of.now) = omega (arith, c.requires.count) in
    let x = some_at (given c.args.machine.now.state c.args.of.now) c.loop-place.place within in
    let at = numbered_row c.args.start.now (given c.args.machine.now.state c.args.of.now) c.loop-place.place c.args.count _ x.0 fit c.requires.last below c.saturating_add_unsigned-number.ensures x.1 in
    record {
      rest = rw c.in_ok-push.ensures.items (row_more (spec.numbered c.args.start.now (given c.args.machine.now.state c.args.of.now)) c.loop-place.place _ (at ∙ ap (λ k. Some (value.Int k ∷ x.0 ∷ [])) (sym (to_z-of_z nfit))) _ _ _ _ c.loop-place.invariant.rest _ (c.in_ok-tuple.ensures.gives x.0 x.1));
      fit = rw c.in_ok-push.ensures.items (push_fits c.args.machine.now _ _ c.loop-place.invariant.fit c.in_ok-tuple.ensures.fits);
    }

pub returns-clause-gives : goal.returns-clause-gives
returns-clause-gives c =
    let past : length (spec.numbered c.args.start.now (given c.args.machine.now.state c.args.of.now)) ≤ c.loop-place.place = omega (arith, numbered_length c.args.start.now (given c.args.machine.now.state c.args.of.now)) in
    rw c.from_vec.ensures (rows_done (spec.numbered c.args.start.now (given c.args.machine.now.state c.args.of.now)) c.loop-place.place _ _ _ past c.loop-place.invariant.rest)
