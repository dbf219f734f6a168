-- What is restored from a snapshot.
use Rattle.std.proofs.Common.{◌<◌, ◌^◌, ℕ, List, length, refl}
use Rattle.star_syntax.specs.declared.cell.Program.{Program}
use Rattle.star_meaning.specs.Alike.{AlikeMachines}
use Rattle.star_meaning.specs.Snapshot.{IsBytesOf}
use Rattle.star_meaning.specs.Validity.{IsValid, MachineState}
use Rattle.star_meaning.proofs.ToldMachines.{snapshots_tell}

-- valid states with one snapshot are alike
pub restored_alike : (program : Program) (saved restored : MachineState) (bytes : List ℕ) → IsValid program saved → IsValid program restored → length bytes < 2 ^ 64
    → IsBytesOf saved bytes → IsBytesOf restored bytes → AlikeMachines saved restored
restored_alike program saved restored bytes valid valid_restored small told told_restored =
    (snapshots_tell saved restored bytes bytes valid.kept valid.values valid_restored.kept valid_restored.values small told told_restored).0 refl
