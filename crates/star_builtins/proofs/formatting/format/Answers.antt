use Rattle.std.proofs.Common.{◌≡◌, ◌∙◌, sym, Some}
use Rattle.star_value.specs.Format.{parts_of}
use Rattle.star_builtins.proofs.FilledLemmas.{formatted_gives}
use Rattle.star_builtins.specs.Reached.{names, store}
use Rattle.star_builtins.proofs.formatting.format.Goals as goal

pub returns-clause-gives : goal.returns-clause-gives
returns-clause-gives c =
    let cut : parts_of c.args.text.now ≡ Some c.in-Some.parts = sym c.in_ok-parts.ensures ∙ c.in-Some.is in
    formatted_gives (names c.args.program.now) c.args.text.now c.args.value.now c.in-Some.parts c.values_for-values.result.now (store c.args.machine.now c.args.meter.now.left) _ c.formatted.result cut c.values_for-values.ensures.values
    (rw c.as_slice.ensures at c.formatted.ensures.gives)
