-- The count of a manifest's versions.
use Rattle.std.proofs.Common.{◌≡◌, ℕ, ◌<◌, ◌≤◌, List, Err, arith}
use Rattle.std.proofs.lemmas.Grind.{common_steps}
use Rattle.serde_json.specs.View.{items_view}
use Rattle.serde_json.specs.Events.{items_len}
use Rattle.serde_json.specs.declared.value.Value.{Value}
use Rattle.nb_reader.specs.Manifest.{distinct, limited_versions, versions_of}
use Rattle.nb_reader.specs.declared.fault.NbFault.TheVariants.{TooMany}
use Rattle.nb_reader.specs.declared.fault.Counted.TheVariants.{Versions}

pub too_many : (elements : List Value) (count : ℕ) → items_len (items_view elements) ≡ count → 64 < count
    → limited_versions (items_view elements) ≡ Err (TooMany Versions count)
too_many elements count is more = rw is (grind (arith, common_steps))

pub not_too_many : (elements : List Value) (count : ℕ) → items_len (items_view elements) ≡ count → count ≤ 64
    → limited_versions (items_view elements) ≡ distinct (versions_of 1 (items_view elements))
not_too_many elements count is few = rw is (grind (arith, common_steps))
