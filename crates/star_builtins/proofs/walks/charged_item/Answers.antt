use Rattle.std.proofs.Common.{◌≡◌, ◌∙◌, ap, sym}
use Rattle.star_value.specs.Charge.{charged}
use Rattle.star_builtins.specs.Walks.{given}
use Rattle.star_builtins.proofs.WalkLemmas.{at_some}
use Rattle.star_builtins.proofs.walks.charged_item.Goals as goal

pub returns-clause-gives : goal.returns-clause-gives
returns-clause-gives c =
    let items = given c.args.machine.now.state c.args.of.now in
    (c.in_ok-item.ensures.value, ap (charged c.args.meter.now.left) (sym (at_some items c.args.place _ c.in_ok-item.ensures.value)) ∙ c.in_ok-charge_at.ensures)
