use Rattle.std.proofs.Common.{◌∙◌, ap, sym}
use Rattle.std.specs.FinSet.{contains}
use Rattle.star_resolver.proofs.TextsLemmas.{contains-keys}
use Rattle.star_resolver.proofs.texts.Texts.contains.Goals as goal

pub returns : goal.returns
returns c =
    c.contains.ensures ∙ sym (contains-keys c.self.inside.texts.keys c.args.text.now)
    ∙ ap (λ s. contains s c.args.text.now) c.self.view_is
