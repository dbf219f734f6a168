use Rattle.std.proofs.Common.{◌≡◌, drop}
use Rattle.star_resolver.specs.Outcomes.{each, stands}
use Rattle.star_resolver.specs.Scans.{scan_small}
use Rattle.star_resolver.proofs.statement.smalls.Given as goal

abbrev pub invariant-loop-one : goal.invariant-loop-one
invariant-loop-one l = each (scan_small (stands l.place)) (drop l.one-index l.one-items) l.found ≡ each (scan_small (stands l.place)) l.tree.smalls l.fn.found
