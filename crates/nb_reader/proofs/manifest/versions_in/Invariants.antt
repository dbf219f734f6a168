use Rattle.std.proofs.Common.{◌≡◌, ◌+◌, drop}
use Rattle.serde_json.specs.View.{items_view}
use Rattle.nb_reader.specs.Manifest.{versions_before, versions_of}
use Rattle.nb_reader.proofs.manifest.versions_in.Given as goal

abbrev pub invariant-loop-place : goal.invariant-loop-place
invariant-loop-place l =
    versions_before l.versions (versions_of (l.place + 1) (items_view (drop l.place l.elements))) ≡ versions_of 1 (items_view l.elements)
