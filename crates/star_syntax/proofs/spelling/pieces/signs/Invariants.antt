use Rattle.std.proofs.Common.{◌≡◌, ◌++◌, map, take}
use Rattle.star_syntax.specs.Spelling.{sign_token}
use Rattle.star_syntax.proofs.spelling.pieces.signs.Given as goal

abbrev pub invariant-loop-sign : goal.invariant-loop-sign
invariant-loop-sign l = l.out.items ≡ l.fn.out.items ++ map sign_token (take l.sign-index l.signs)
