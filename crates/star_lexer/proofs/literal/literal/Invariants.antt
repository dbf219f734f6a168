use Rattle.std.proofs.Common.{◌≡◌, ◌-◌, ◌<◌, ◌≤◌, length, drop}
use Rattle.star_lexer.specs.Texts.{far, literal, content, before, blamed}
use Rattle.star_lexer.proofs.literal.literal.Given as goal

-- what is left from here, behind what is read, is the whole text
abbrev pub invariant-loop-at : goal.invariant-loop-at
invariant-loop-at l = record {
  same : literal l.text ≡ blamed (before l.points.items (far l.at (content l.style 0 (drop l.at l.text))));
  within : l.at ≤ length l.text;
  some : 0 < l.at;
}

abbrev pub decreases-loop-at : goal.decreases-loop-at
decreases-loop-at l = length l.text - l.at
