use Rattle.std.proofs.Common.{◌≡◌, ◌∙◌, sym, rules, Err}
use Rattle.star_meaning.specs.Showing.{shown}
use Rattle.star_builtins.specs.Reached.{names}
use Rattle.star_builtins.proofs.Quoted.{drop_here}
use Rattle.star_builtins.proofs.PrintLemmas.{pieces_step, pieces_failed_first, pieces_failed_second, pieces_end}
use Rattle.star_builtins.proofs.functions.printing.show_all.Goals as goal

pub returns-in_err-write_before : goal.returns-in_err-write_before
returns-in_err-write_before c =
    let f = shown (names c.args.program.now) in
    let r : c.from_residual.result ≡ Err c.in_err-write_before.field-0.0 = search rules in
    rw (← c.loop-place.invariant, r) (pieces_failed_first c.args.by.now f c.args.values.now _ _ _ _ (drop_here _ _ _ c.loop-place-test.true c.index-values-place.is) _ _ _ _ (c.in_err-write_before.ensures _))

pub returns-in_err-show : goal.returns-in_err-show
returns-in_err-show c =
    let f = shown (names c.args.program.now) in
    let r : c.from_residual-in_err-show.result ≡ Err c.in_err-show.field-0.0 = search rules in
    rw (← c.loop-place.invariant, r) (pieces_failed_second c.args.by.now f c.args.values.now _ _ _ _ (drop_here _ _ _ c.loop-place-test.true c.index-values-place.is) _ _ _ _ _ _ (c.in_ok-write_before.ensures _) c.in_err-show.ensures.gives)

pub loop-place-preserved : goal.loop-place-preserved
loop-place-preserved c =
    let f = shown (names c.args.program.now) in
    pieces_step c.args.by.now f c.args.values.now _ _ _ _ (drop_here _ _ _ c.loop-place-test.true c.index-values-place.is) _ _ _ _ (c.in_ok-write_before.ensures _) c.in_ok-show.ensures.gives ∙ c.loop-place.invariant

pub returns : goal.returns
returns c =
    let f = shown (names c.args.program.now) in
    sym c.loop-place.invariant ∙ pieces_end c.args.by.now f c.args.values.now _ _ _ c.loop-place-test.false
