use Rattle.std.proofs.Common.{◌≡◌, ◌+◌, ◌-◌, ◌≤◌, length, drop}
use Rattle.star_lexer.specs.Layout.{start, IsNested}
use Rattle.star_lexer.specs.Scan.{scan, with_prefix}
use Rattle.star_lexer.proofs.source.lex_chars.Given as goal

-- what is written and the tokens of the rest are the tokens of the text
abbrev pub invariant-loop-place : goal.invariant-loop-place
invariant-loop-place l = record {
  same : scan start 0 l.text ≡ with_prefix l.out.items (scan l.layout 0 (drop l.place l.text));
  within : l.place ≤ length l.text;
  lines : l.layout.line ≤ l.place + 1;
  columns : l.layout.column ≤ l.place;
  nested : IsNested l.layout;
}

abbrev pub decreases-loop-place : goal.decreases-loop-place
decreases-loop-place l = length l.text - l.place
