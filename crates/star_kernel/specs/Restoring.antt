-- Why a kernel does not restore bytes.
use Rattle.kernel_api.specs.declared.fault.RestoreFault.{RestoreFault}
use Rattle.kernel_api.specs.declared.fault.RestoreFault.TheVariants as restore
use Rattle.snapshot_codec.specs.declared.fault.SnapFault.{SnapFault}
use Rattle.snapshot_codec.specs.declared.fault.SnapFault.TheVariants as snap

-- every fault of a snapshot is damage, and want of memory is none
abbrev pub fault_of : SnapFault → RestoreFault
fault_of snap.NoMemory = restore.NoMemory
fault_of _ = restore.Damaged
