use Rattle.std.proofs.Common.{◌∙◌, ap}
use Rattle.std.specs.Prelude.{slice_get}
use Rattle.star_value.proofs.Places.{spells}
use Rattle.star_builtins.proofs.indexing.nth_point.Goals as goal

pub returns : goal.returns
returns c = c.nth_char.ensures ∙ ap (λ points. slice_get points c.args.place) (spells _ _ c.as_str.ensures.bytes c.as_str.ensures.scalars)
