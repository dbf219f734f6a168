-- What the answer to the tokens of a cell says.
use Rattle.std.specs.Prelude.{ℕ, Result, Ok, Err}
use Rattle.star_syntax.specs.declared.statement.Module.{Module}
use Rattle.star_parser.specs.declared.fault.ParseFault.{ParseFault}
use Rattle.star_parser.specs.declared.fault.ParseFault.TheVariants.{Unexpected, NoMemory}

-- where a token is refused, its place is so
abbrev pub IfUnexpected : Result Module ParseFault → (ℕ → Type 0) → Type 0
IfUnexpected (Ok cell) P = Unit {0}
IfUnexpected (Err NoMemory) P = Unit {0}
IfUnexpected (Err (Unexpected place)) P = P place

-- no token is refused
abbrev pub IsUnrefused : Result Module ParseFault → Type 0
IsUnrefused (Ok cell) = Unit {0}
IsUnrefused (Err NoMemory) = Unit {0}
IsUnrefused (Err (Unexpected place)) = ⊥
