use Rattle.std.proofs.Common.{◌≡◌, map, take}
use Rattle.chex_report.specs.Headers.{header_of}
use Rattle.chex_top.proofs.saying.headers_of.Given as goal

abbrev pub invariant-loop-version : goal.invariant-loop-version
invariant-loop-version l = l.headers ≡ map (λ version. header_of version.name) (take l.version-index l.versions)
