use Rattle.std.proofs.Common.{◌∙◌, ap}
use Rattle.std.specs.FinSet.{insert}
use Rattle.star_resolver.proofs.TextsLemmas.{insert-keys}
use Rattle.star_resolver.proofs.texts.Texts.insert.Goals as goal

pub returns : goal.returns
returns c =
    insert-keys c.self.inside.texts.keys c.insert.new.self.keys c.args.text c.in_ok-insert.ensures.updates.0
    ∙ ap (λ s. insert s c.args.text) c.self.view_is
