-- A state that was restored.
use Rattle.std.proofs.Common.{◌≡◌, ◌≢◌, ℕ, ◌^◌, ◌<◌, List, length, Option, Some, None, refl, sym, ap, ◌∙◌, subst, inl, inr}
use Rattle.std.specs.Prelude.{IfSome}
use Rattle.star_syntax.specs.declared.cell.Program.{Program}
use Rattle.star_meaning.specs.Snapshot.{IsBytesOf, IsSnapshot}
use Rattle.star_meaning.specs.Validity.{IsValid, MachineState}
use Rattle.kernel_api.specs.Live.{PutsSnapshot, SnapshotPasses, depth_of}
use Rattle.kernel_api.specs.Stock.{Stock, at}
use Rattle.replayer.specs.Machines.{IsDamaged}
use Rattle.replayer.proofs.TellLemmas.{Got, Hurt}

-- the live state has as many cells as it must
pub deep_enough : (program : Program) (now : Option MachineState) (bytes : List ℕ) (depth due : ℕ) → (s : MachineState) × (now ≡ Some s) × IsValid program s × IsBytesOf s bytes → depth ≡ depth_of now → depth ≡ due
    → (s : MachineState) × (now ≡ Some s) × (length s.ran ≡ due)
deep_enough program now bytes depth due (s, is, valid, told) counts same = (s, is, sym (counts ∙ ap depth_of is) ∙ same)

pub got : (program : Program) (now : Option MachineState) (v : ℕ) (slice items : List ℕ) (told : Option (List (ℕ × List ℕ))) → IfSome told (λ files. at v files ≡ Some items) → slice ≡ items → length items < 2 ^ 64
    → (s : MachineState) × (now ≡ Some s) × IsValid program s × IsBytesOf s slice → IfSome told (Got program now v)
got program now v slice items None found same small h = tt
got program now v slice items (Some files) found same small (s, is, valid, told) = (s, items, is, valid, subst (IsBytesOf s) same told, small, found)

pub hurt_deep : (program : Program) (now : Option MachineState) (v : ℕ) (slice items : List ℕ) (depth due : ℕ) (told : Option (List (ℕ × List ℕ))) → IfSome told (λ files. at v files ≡ Some items) → slice ≡ items → length items < 2 ^ 64
    → (s : MachineState) × (now ≡ Some s) × IsValid program s × IsBytesOf s slice → depth ≡ depth_of now → depth ≢ due → IfSome told (Hurt program due v)
hurt_deep program now v slice items depth due None found same small h counts other = tt
hurt_deep program now v slice items depth due (Some files) found same small (s, is, valid, told) counts other =
    (items, found, inr (s, valid, subst (IsBytesOf s) same told, small, λ deep. other (counts ∙ ap depth_of is ∙ deep)))

pub hurt : (program : Program) (v : ℕ) (slice items : List ℕ) (due : ℕ) (told : Option (List (ℕ × List ℕ))) → IfSome told (λ files. at v files ≡ Some items) → slice ≡ items → (IsSnapshot program slice → ⊥) → IfSome told (Hurt program due v)
hurt program v slice items due None found same none = tt
hurt program v slice items due (Some files) found same none = (items, found, inl (subst (λ b. IsSnapshot program b → ⊥) same none))

-- ---- a state that was stored

pub was_put : (live : Option MachineState) (v : ℕ) (before now : Stock) → IfSome live (λ m. PutsSnapshot m v before now) → (s : MachineState) → live ≡ Some s → PutsSnapshot s v before now
was_put live v before now put s is = subst (λ o. IfSome o (λ m. PutsSnapshot m v before now)) is put

pub never_full : (live : Option MachineState) (stock : Stock) → (s : MachineState) × (live ≡ Some s) × (SnapshotPasses s stock → ⊥) → IfSome live (λ m. SnapshotPasses m stock) → ⊥
never_full live stock (s, is, never) full = never (subst (λ o. IfSome o (λ m. SnapshotPasses m stock)) is full)
