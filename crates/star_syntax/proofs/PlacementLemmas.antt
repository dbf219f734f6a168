-- What follows from the rules of placement.
use Rattle.std.proofs.Common.{[], refl}
use Rattle.std.specs.List.Sorted.{IsStrictlySortedBy}
use Rattle.star_syntax.specs.Placement.{IsPlaced, AreInputNames, findings, breaches, names_read}

-- a cell without statements breaks no rule
pub placed-nothing : IsPlaced (record { statements = [] })
unfolding breaches findings
placed-nothing = refl

-- and reads no input
pub names-nothing : AreInputNames (record { statements = [] }) []
unfolding names_read findings IsStrictlySortedBy
names-nothing = record { rising = tt; same = refl }
