use Rattle.std.proofs.Common.{◌≡◌, ap, subst, ◌∙◌}
use Rattle.star_value.specs.declared.value.Value.{Value}
use Rattle.star_value.specs.declared.value.Value.TheVariants as value
use Rattle.star_meaning.specs.Steps.{Gives, pure}
use Rattle.star_meaning.specs.World.{operation}
use Rattle.star_run.specs.Running.{world}
use Rattle.star_run.proofs.plain.text_value.Goals as goal

pub constant-requires : goal.constant-requires
constant-requires c = c.text_value-value.ensures.fits _

pub returns-clause-gives : goal.returns-clause-gives
returns-clause-gives c =
    let is : c.text_value-value.result ≡ value.Text c.args.text.now = c.text_value-value.ensures.is ∙ ap value.Text c.in_ok-copy.ensures in
    subst (λ (v : Value). Gives (operation (pure v) (world c.args.run.now)) c.constant.result (world c.constant.new.self)) is c.constant.ensures.gives
