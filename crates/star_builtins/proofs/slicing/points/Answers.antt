use Rattle.std.proofs.Common.{◌≡◌, ◌∙◌, rules}
use Rattle.std.specs.Str.{chars}
use Rattle.std.proofs.lemmas.Str.{chars_from_encodes}
use Rattle.star_value.proofs.Places.{spells}
use Rattle.star_builtins.proofs.slicing.points.Goals as goal

pub returns : goal.returns
returns c =
    let e : c.in_ok-collect.field-0.items ≡ chars c.as_str.result.now = search (rules, chars_from_encodes) in
    e ∙ spells _ _ c.as_str.ensures.bytes c.as_str.ensures.scalars
