use Rattle.std.proofs.Common.{◌≡◌, Err, map, refl, rules}
use Rattle.star_value.specs.declared.stop.Stop.TheVariants as stop
use Rattle.star_value.specs.declared.value.Value.TheVariants as value
use Rattle.star_value.specs.Texts as texts
use Rattle.star_meaning.specs.Methods as methods
use Rattle.star_meaning.specs.Operators.{charged_list}
use Rattle.star_builtins.proofs.TextLemmas.{row_stops, row_goes, pieces_give}
use Rattle.star_builtins.proofs.text_methods.split_at.Goals as goal

pub returns-in_err-charge-clause-gives : goal.returns-in_err-charge-clause-gives
returns-in_err-charge-clause-gives c =
    let r : c.from_residual.result ≡ Err (stop.Failure c.in_err-charge.field-0.0) = search rules in
    rw r (row_stops c.args.machine.now.state c.args.meter.now.left _ _ _ (methods.pieces c.args.text.now (texts.split c.args.text.now c.args.by.now)) (charged_list (map value.Text (texts.split c.args.text.now c.args.by.now))) refl c.len.ensures.len _ c.in_err-charge.ensures)

pub returns-clause-gives : goal.returns-clause-gives
returns-clause-gives c =
    pieces_give c.in_ok-parts.parts (texts.split c.args.text.now c.args.by.now) _ _ _ _
    (row_goes c.args.machine.now.state c.args.meter.now.left _ _ _ (methods.pieces c.args.text.now (texts.split c.args.text.now c.args.by.now)) (charged_list (map value.Text (texts.split c.args.text.now c.args.by.now))) refl c.len.ensures.len c.in_ok-charge.ensures)
    c.in_ok-parts.ensures.pieces c.new_pieces.ensures.gives
