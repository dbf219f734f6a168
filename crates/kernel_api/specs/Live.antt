-- The live state of a kernel, and its snapshot.
use Rattle.std.specs.Prelude.{◌≡◌, ℕ, ◌-◌, ◌^◌, min, List, length, Option, Some, None}
use Rattle.star_meaning.specs.Snapshot.{IsBytesOf}
use Rattle.star_meaning.specs.Validity.{MachineState}
use Rattle.kernel_api.specs.Stock.{Stock, Passes, with_put}

-- how many cells have run in the live state; none where there is none
abbrev pub depth_of : Option MachineState → ℕ
depth_of None = 0
depth_of (Some m) = length m.ran

-- the length of a state's snapshot, or the greatest `u64` where it is longer
abbrev pub IsSizeOf : MachineState → ℕ → Type 0
IsSizeOf m size = (bytes : List ℕ) → IsBytesOf m bytes → size ≡ min (length bytes) (2 ^ 64 - 1)

-- a state's snapshot was put at a node
abbrev pub PutsSnapshot : MachineState → ℕ → Stock → Stock → Type 0
PutsSnapshot m node before now = (bytes : List ℕ) × IsBytesOf m bytes × (now ≡ with_put node bytes before)

-- a state's snapshot and what is held take more than the most
abbrev pub SnapshotPasses : MachineState → Stock → Type 0
SnapshotPasses m s = (bytes : List ℕ) × IsBytesOf m bytes × Passes s bytes
