-- Texts, which are lists of code points, in the order of their UTF-8.
use Rattle.std.specs.Prelude.{ℕ, List}
use Rattle.std.specs.Cmp.Lexicographic.{slice_cmp}
use Rattle.std.specs.Ordering.{nat_cmp}
use Rattle.std.specs.declared.cmp.Ordering.{Ordering}

-- the order of two texts: the first code point that differs decides, and a text stands before those
-- that it begins; the bytes of their UTF-8 have the same order
abbrev pub text_cmp : List ℕ → List ℕ → Ordering
text_cmp a b = slice_cmp nat_cmp a b
