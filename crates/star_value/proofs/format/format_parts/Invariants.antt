use Rattle.std.proofs.Common.{◌≡◌, length}
use Rattle.std.specs.Str.{chars}
use denote.Text.{Utf8}
use denote.Shadow.{shadow}
use Rattle.star_value.specs.Format.{parts_of}
use Rattle.star_value.proofs.FormatLemmas.{whole}
use Rattle.star_value.proofs.format.format_parts.Given as goal

abbrev pub invariant-loop-before : goal.invariant-loop-before
invariant-loop-before l = shadow (Utf8 l.rest) × (whole l.parts l.plain (chars l.rest) ≡ parts_of l.format)

abbrev pub decreases-loop-before : goal.decreases-loop-before
decreases-loop-before l = length (chars l.rest)
