-- The two laws of reading, for the calls that read.
use Rattle.std.proofs.Common.{◌≡◌, ◌<◌, ◌^◌, ℕ, List, length, get_or, Result, Ok, Err, IfOk, IsTrue, sym, ap, subst, ◌∙◌}
use Rattle.star_syntax.specs.declared.cell.Program.{Program}
use Rattle.star_meaning.specs.Snapshot.{is_canonical, state_bytes}
use Rattle.star_meaning.specs.Validity.{IsValid, MachineState}
use Rattle.snapshot_codec.specs.declared.fault.SnapFault.{SnapFault}
use Rattle.snapshot_codec.specs.declared.fault.SnapFault.TheVariants.{Short, BadTag, BadText, BadRule, LeftOver, BadReference, NoMemory, BadOrder}
use Rattle.snapshot_codec.specs.declared.parts.Parts.{Parts}
use Rattle.snapshot_codec.specs.declared.stop.Stop.{Stop}
use Rattle.snapshot_codec.specs.declared.stop.Stop.TheVariants as stop
use Rattle.snapshot_codec.specs.Contents.{state_of}
use Rattle.snapshot_codec.specs.Decoding.{Refuses, fault_of}
use Rattle.snapshot_codec.specs.Reading.{Fails, Gives, state_at}
use Rattle.snapshot_codec.proofs.FieldLaws.{Few}
use Rattle.snapshot_codec.proofs.States.{state_again, state_sound}

abbrev pub IsRead : Program → List ℕ → MachineState → Type 0
IsRead program bytes m = IsValid program m × IsTrue (is_canonical m) × (bytes ≡ state_bytes m)

module _ (program : Program) (bytes : List ℕ) where
  pub is_found : (r : Result Parts Stop) → ((i : ℕ) → get_or bytes i 0 < 256) → Gives state_of r (state_at program bytes) → IfOk r (λ parts. IsRead program bytes (state_of parts))
  is_found (Ok parts) fits given = state_sound program bytes (state_of parts) fits given
  is_found (Err e) fits given = tt

  pub is_only : (r : Result Parts Stop) → length bytes < 2 ^ 64 → Gives state_of r (state_at program bytes) → (m : MachineState) → IsValid program m → IsTrue (is_canonical m) → bytes ≡ state_bytes m → Gives state_of r (Ok m)
  is_only r few given m valid canonical e =
      subst (λ (x : Result MachineState SnapFault). Gives state_of r x) (ap (state_at program) e ∙ state_again program m valid canonical (subst Few e few)) given

-- the machine that was made of the parts that were read
pub made_found : (program : Program) (bytes : List ℕ) (parts : Parts) (m : MachineState) → m ≡ state_of parts → IsRead program bytes (state_of parts) → IsRead program bytes m
made_found program bytes parts m is h = subst (λ (x : MachineState). IsRead program bytes x) (sym is) h

pub made_gives : (read : Result MachineState SnapFault) (parts : Parts) (m : MachineState) → m ≡ state_of parts → read ≡ Ok (state_of parts) → read ≡ Ok m
made_gives read parts m is h = h ∙ ap (λ (x : MachineState). Ok x) (sym is)

-- what stopped reading is the fault
pub refuses : (s : Stop) (f : SnapFault) (read : Result MachineState SnapFault) → f ≡ fault_of s → Fails s read → Refuses f read
refuses s f read is h = subst (λ (x : SnapFault). Refuses x read) (sym is) (by s h)
  where
    kept : (fault : SnapFault) → read ≡ Err fault → Refuses fault read
    kept Short k = k
    kept BadTag k = k
    kept BadText k = k
    kept BadRule k = k
    kept LeftOver k = k
    kept BadReference k = k
    kept NoMemory k = tt
    kept BadOrder k = k

    by : (s : Stop) → Fails s read → Refuses (fault_of s) read
    by (stop.Fault fault) k = kept fault k
    by stop.NoMemory k = tt
