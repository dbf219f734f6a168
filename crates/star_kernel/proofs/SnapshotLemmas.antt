-- Snapshots of states, and of which states bytes are none.
use Rattle.std.proofs.Common.{◌≡◌, ℕ, ◌<◌, ◌^◌, List, length, Ok, IsTrue, ap, subst, arith}
use Rattle.star_syntax.specs.declared.cell.Program.{Program}
use Rattle.star_meaning.specs.Snapshot.{IsBytesOf, IsCanon, IsSnapshot, is_canonical, state_bytes}
use Rattle.star_meaning.specs.Validity.{IsMachine, IsValid, MachineState}
use Rattle.star_meaning.proofs.AlikeTurned.{machine_itself}
use Rattle.star_meaning.proofs.Canonical.{one_canon, one_snapshot}
use Rattle.star_meaning.proofs.WalkedStates.{each_canon}
use Rattle.kernel_api.specs.declared.fault.RestoreFault.TheVariants as restore
use Rattle.kernel_api.specs.Live.{IsSizeOf, SnapshotPasses}
use Rattle.kernel_api.specs.Stock.{Passes, Stock}
use Rattle.snapshot_codec.specs.declared.fault.SnapFault.{SnapFault}
use Rattle.snapshot_codec.specs.declared.fault.SnapFault.TheVariants as snap
use Rattle.snapshot_codec.specs.Decoding.{Refuses}
use Rattle.star_kernel.specs.Restoring.{fault_of}

-- the bytes of a state are those of no other list
pub same_bytes : (m : MachineState) (one other : List ℕ) → IsMachine m → IsBytesOf m one → IsBytesOf m other → one ≡ other
same_bytes m one other kept told told_other = one_snapshot m m one other (machine_itself m kept) told told_other

-- a state whose objects are numbered as they are met has its own bytes
pub own_bytes : (m : MachineState) (bytes : List ℕ) → IsMachine m → IsTrue (is_canonical m) → bytes ≡ state_bytes m → IsBytesOf m bytes
own_bytes m bytes kept canonical is = (m, record { alike = machine_itself m kept; canonical = canonical }, is)

-- a snapshot's length is the state's size
pub size_of_bytes : (m : MachineState) (bytes : List ℕ) (size : ℕ) → IsMachine m → IsBytesOf m bytes → size ≡ length bytes → size < 2 ^ 64 → IsSizeOf m size
size_of_bytes m bytes size kept told is small other told_other =
    let same : length bytes ≡ length other = ap length (same_bytes m bytes other kept told told_other) in omega (arith, same)

-- where one list of a state's bytes passes, each does
pub passes_as_well : (m : MachineState) (s : Stock) (one : List ℕ) → IsMachine m → IsBytesOf m one → SnapshotPasses m s → Passes s one
passes_as_well m s one kept told passes = subst (Passes s) (same_bytes m passes.0 one kept passes.1 told) passes.2

-- ---- no snapshot

-- the state whose bytes a valid state has is valid
pub canon_valid : (program : Program) (m canon : MachineState) → IsValid program m → IsCanon m canon → IsValid program canon
canon_valid program m canon valid is =
    let one = each_canon m valid.kept in
    subst (IsValid program) (one_canon m m one.canon canon (machine_itself m valid.kept) one.is_canon is) (one.valid program valid)

-- what is refused for a fault is not read
refused : (fault : SnapFault) (m : MachineState) → fault_of fault ≡ restore.Damaged → Refuses fault (Ok m) → ⊥
refused snap.Short m is never = cc
refused snap.BadTag m is never = cc
refused snap.BadText m is never = cc
refused snap.BadRule m is never = cc
refused snap.LeftOver m is never = cc
refused snap.BadReference m is never = cc
refused snap.BadOrder m is never = cc
refused snap.NoMemory m is never = cc

-- want of memory and damage alone are answered
pub no_failure : (fault : SnapFault) → fault_of fault ≡ restore.KernelFailed → ⊥
no_failure snap.Short is = cc
no_failure snap.BadTag is = cc
no_failure snap.BadText is = cc
no_failure snap.BadRule is = cc
no_failure snap.LeftOver is = cc
no_failure snap.BadReference is = cc
no_failure snap.BadOrder is = cc
no_failure snap.NoMemory is = cc

-- bytes that are damaged are no snapshot, where each state is answered for its bytes
pub no_snapshot : (program : Program) (bytes : List ℕ) (fault : SnapFault)
    → ((m : MachineState) → IsValid program m → IsTrue (is_canonical m) → bytes ≡ state_bytes m → Refuses fault (Ok m))
    → fault_of fault ≡ restore.Damaged → IsSnapshot program bytes → ⊥
no_snapshot program bytes fault only is (m, valid, (canon, canon_is, told)) =
    refused fault canon is (only canon (canon_valid program m canon valid canon_is) canon_is.canonical told)
