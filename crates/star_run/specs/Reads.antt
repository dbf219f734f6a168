-- What `input(TEXT)` reads.
use Rattle.std.specs.Prelude.{ℕ, Bool, List, Option, None, if◌then◌else◌}
use Rattle.star_syntax.specs.declared.expression.Expr.{Expr}
use Rattle.star_syntax.specs.declared.expression.Suffix.{Suffix}
use Rattle.star_syntax.specs.Placement.{first_literal, seen}

-- whether a tree is the name `input` alone
unfoldable pub names_input : Expr → Bool
names_input x = (seen x).names_input

-- the text literal that a tree is
unfoldable pub literal : Expr → Option (List ℕ)
literal x = (seen x).literal

-- the name that `input(TEXT)` reads, where an operand and its first suffix are that
abbrev pub name_read : Expr → List (Suffix Expr) → Option (List ℕ)
name_read head suffixes = if names_input head then first_literal literal suffixes else None
