-- The line before a version's output.
use Rattle.std.specs.Prelude.{ℕ, List, [], ◌∷◌, ◌++◌, codes}

-- two equals signs at each side of the name, and a newline (10)
abbrev pub header_of : List ℕ → List ℕ
header_of name = codes "== " ++ name ++ codes " ==" ++ 10 ∷ []
