use Rattle.std.proofs.Common.{◌≡◌, length}
use Rattle.std.specs.List.{All}
use Rattle.shared_tests.specs.Versions.{IsFit}
use Rattle.shared_tests.proofs.versions.checked_versions.Given as goal

abbrev pub invariant-loop-version : goal.invariant-loop-version
invariant-loop-version l = record {
  many : length l.all.items ≡ l.version-index;
  fit : All IsFit l.all.items;
}
