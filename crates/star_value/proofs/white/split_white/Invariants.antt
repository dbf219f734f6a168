use Rattle.std.proofs.Common.{◌≡◌, ◌++◌, length}
use Rattle.std.specs.List.{filter}
use Rattle.std.specs.Str.{chars}
use denote.Text.{Utf8}
use denote.Shadow.{shadow}
use Rattle.star_value.proofs.Words.{between_white}
use Rattle.star_value.specs.Texts.{is_some_text, split_white}
use Rattle.star_value.proofs.white.split_white.Given as goal

abbrev pub invariant-loop-word : goal.invariant-loop-word
invariant-loop-word l = shadow (Utf8 l.rest) × (l.words ++ filter is_some_text (between_white (chars l.rest)) ≡ split_white l.of)

abbrev pub decreases-loop-word : goal.decreases-loop-word
decreases-loop-word l = length (chars l.rest)
