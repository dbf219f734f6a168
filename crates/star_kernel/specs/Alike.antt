-- What is restored from a snapshot.
use Rattle.std.specs.Prelude.{◌<◌, ◌^◌, ℕ, List, length}
use Rattle.star_syntax.specs.declared.cell.Program.{Program}
use Rattle.star_meaning.specs.Alike.{AlikeMachines}
use Rattle.star_meaning.specs.Snapshot.{IsBytesOf}
use Rattle.star_meaning.specs.Validity.{IsValid, MachineState}

-- A valid state that has the snapshot of another is alike to it, where the snapshot has fewer than 2 ^ 64 bytes.
abbrev pub RestoredStatesAreAlike : Type 0
RestoredStatesAreAlike = (program : Program) (saved restored : MachineState) (bytes : List ℕ) → IsValid program saved → IsValid program restored → length bytes < 2 ^ 64
    → IsBytesOf saved bytes → IsBytesOf restored bytes → AlikeMachines saved restored
