use Rattle.std.proofs.Common.{◌≡◌, ◌++◌, drop, map}
use Rattle.std.specs.FinSet as set
use Rattle.star_syntax.specs.Placement.{parameters, required_parameter, default_parameter}
use Rattle.star_resolver.specs.Scans.{scan_parameters}
use Rattle.star_resolver.proofs.parameters.header.Given as goal

abbrev pub invariant-loop-name : goal.invariant-loop-name
invariant-loop-name l =
    scan_parameters l.line (map required_parameter (drop l.name-index l.name-items) ++ map default_parameter l.def.defaults) l.before l.found
    ≡ scan_parameters l.line (parameters l.def.required l.def.defaults) set.empty l.fn.found

abbrev pub invariant-loop-named : goal.invariant-loop-named
invariant-loop-named l =
    scan_parameters l.line (map default_parameter (drop l.named-index l.named-items)) l.before l.found
    ≡ scan_parameters l.line (parameters l.def.required l.def.defaults) set.empty l.fn.found
