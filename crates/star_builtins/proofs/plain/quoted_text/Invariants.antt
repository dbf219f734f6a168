use Rattle.std.proofs.Common.{◌≡◌, ◌∷◌}
use Rattle.std.specs.List.{flat_map}
use Rattle.star_meaning.specs.Showing.{escaped}
use Rattle.star_builtins.proofs.plain.quoted_text.Given as goal

abbrev pub invariant-loop-c : goal.invariant-loop-c
invariant-loop-c l = l.points.items ≡ 34 ∷ flat_map escaped l.yielded
