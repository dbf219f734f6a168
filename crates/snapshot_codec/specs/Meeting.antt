-- The order in which the objects that the globals of a machine reach are met.
use Rattle.std.specs.Prelude.{◌≡◌, ◌<◌, ℕ, List, [], ◌∷◌, ◌++◌, length, take, Option, Some, None, if◌then◌else◌, slice_get}
use Rattle.std.specs.List.{flat_map}
use Rattle.star_meaning.specs.Snapshot.{object_references, references}
use Rattle.star_meaning.specs.State.{Object}
use Rattle.star_meaning.specs.Validity.{MachineState}
use Rattle.star_meaning.specs.Values.{has}

-- numbers that were met before, and then each of these that is new, where it stands first
abbrev pub met_with : List ℕ → List ℕ → List ℕ
met_with met [] = met
met_with met (id ∷ ids) = met_with (if has met id then met else met ++ id ∷ []) ids

-- what the globals refer to
abbrev pub first_references : MachineState → List ℕ
first_references m = flat_map (λ entry. references entry.1) m.state.globals

-- what an object refers to, if there is one
abbrev pub references_of : Option (Object ℕ) → List ℕ
references_of None = []
references_of (Some o) = object_references o

abbrev pub leads : MachineState → ℕ → List ℕ
leads m id = references_of (slice_get m.state.objects id)

-- what the globals and these objects refer to, each where it stands first
abbrev pub met_by : MachineState → List ℕ → List ℕ
met_by m ids = met_with [] (first_references m ++ flat_map (leads m) ids)

-- All objects that the globals reach, in the order in which they are met: what the globals and these objects refer to, where each is
-- met by the globals or by objects that stand before it.
pub record IsOrder (m : MachineState) (order : List ℕ) : Type 0 where
  pub whole : met_by m order ≡ order
  pub early : (k : ℕ) → k < length order → k < length (met_by m (take k order))
