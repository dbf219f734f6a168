-- The two laws: what is read is a valid state, numbered as its objects are met, whose bytes these are; and such a state is read.
use Rattle.std.proofs.Common.{◌≡◌, ℕ, Bool, List, Ok, Err, IsTrue, ap, subst, ◌∙◌}
use Rattle.std.specs.Prelude.{if◌then◌else◌}
use Rattle.star_syntax.specs.declared.cell.Program.{Program}
use Rattle.star_meaning.specs.Snapshot.{is_canonical, state_bytes}
use Rattle.star_meaning.specs.Validity.{IsValid, MachineState}
use Rattle.snapshot_codec.specs.declared.fault.SnapFault.TheVariants.{BadReference}
use Rattle.snapshot_codec.specs.Reading.{◌>>=◌, parts_at, refers, state_at}
use Rattle.snapshot_codec.proofs.FieldLaws.{Few, IsBytes, bind_ok, ok_is, wanted_ok}
use Rattle.snapshot_codec.proofs.ReadStates.{parts_sound}
use Rattle.snapshot_codec.proofs.ReadValid.{read_valid}
use Rattle.snapshot_codec.proofs.StatesAgain.{parts_again}
use Rattle.snapshot_codec.proofs.ValidRead.{valid_read, valid_refers}

-- what is read
pub state_sound : (program : Program) (bytes : List ℕ) (m : MachineState) → IsBytes bytes → state_at program bytes ≡ Ok m → IsValid program m × IsTrue (is_canonical m) × (bytes ≡ state_bytes m)
unfolding state_at
state_sound program bytes m fits e =
    let a = bind_ok (parts_at bytes) (λ m. if refers program m then Ok m else Err BadReference) m e in
    let w = wanted_ok (refers program a.0) BadReference (Ok a.0) m a.2 in
    let read = parts_sound bytes a.0 fits a.1 in
    let both = read_valid program bytes a.0 read w.0 in
    subst (λ (x : MachineState). IsValid program x × IsTrue (is_canonical x) × (bytes ≡ state_bytes x)) (ok_is a.0 m w.1) (both.0, both.1, read.bytes_are)

-- and what is read again
pub state_again : (program : Program) (m : MachineState) → IsValid program m → IsTrue (is_canonical m) → Few (state_bytes m) → state_at program (state_bytes m) ≡ Ok m
unfolding state_at
state_again program m valid canonical few =
    ap (λ r. r >>= λ x. if refers program x then Ok x else Err BadReference) (parts_again m (valid_read program m valid canonical) few)
    ∙ ap (λ (t : Bool). if t then Ok m else Err BadReference) (valid_refers program m valid)
