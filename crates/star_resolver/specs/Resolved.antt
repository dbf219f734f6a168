-- What is said where there is no cell.
use Rattle.std.specs.Prelude.{◌≡◌, Some}
use Rattle.std.specs.List.{slice_get}
use Rattle.star_syntax.specs.declared.statement.Module.{Module}
use Rattle.star_syntax.specs.Placement.{breaches}
use Rattle.star_resolver.specs.declared.error.ResolveFault.{ResolveFault}
use Rattle.star_resolver.specs.declared.error.ResolveFault.TheVariants.{Bad, NoMemory}
use Rattle.star_resolver.specs.Outcomes.{breach_of}

-- the first of the breaches of a tree, with its line; nothing is said where memory is wanting
abbrev pub IsFirstBreach : Module → ResolveFault → Type 0
IsFirstBreach tree (Bad kind line) = slice_get (breaches tree) 0 ≡ Some (breach_of kind, line)
IsFirstBreach tree NoMemory = Unit {0}
