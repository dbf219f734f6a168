use Rattle.std.proofs.Common.{◌≡◌, ◌++◌, map, take}
use Rattle.star_syntax.specs.Spelling.{listed}
use Rattle.star_syntax.specs.SpellingOfParts.{name_token}
use Rattle.star_syntax.proofs.spelling.pieces.names.Given as goal

abbrev pub invariant-loop-place : goal.invariant-loop-place
invariant-loop-place l = l.out.items ≡ l.fn.out.items ++ listed (map name_token (take l.place l.all))
