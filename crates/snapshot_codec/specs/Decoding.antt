-- What the answer of reading a whole snapshot says.
use Rattle.std.specs.Prelude.{◌≡◌, Result, Ok, Err}
use Rattle.star_meaning.specs.Validity.{MachineState}
use Rattle.snapshot_codec.specs.declared.fault.SnapFault.{SnapFault}
use Rattle.snapshot_codec.specs.declared.fault.SnapFault.TheVariants.{NoMemory}
use Rattle.snapshot_codec.specs.declared.stop.Stop.{Stop}
use Rattle.snapshot_codec.specs.declared.stop.Stop.TheVariants as stop

abbrev pub fault_of : Stop → SnapFault
fault_of (stop.Fault fault) = fault
fault_of stop.NoMemory = NoMemory

-- the fault is the one of reading, unless memory was wanting
abbrev pub Refuses : SnapFault → Result MachineState SnapFault → Type 0
Refuses NoMemory read = Unit {0}
Refuses fault read = read ≡ Err fault

-- the answer is that of reading, unless memory was wanting
abbrev pub Decodes : Result MachineState SnapFault → Result MachineState SnapFault → Type 0
Decodes (Ok m) read = read ≡ Ok m
Decodes (Err fault) read = Refuses fault read
