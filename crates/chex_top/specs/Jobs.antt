-- The versions with their cells, and the first cell that is refused.
use Rattle.std.specs.Prelude.{◌≡◌, ◌≤◌, ◌+◌, ℕ, List, ◌∷◌, ◌++◌, length, Ok, Err}
use Rattle.std.specs.List.{AllByRecursion, AllZip}
use Rattle.nb_reader.specs.Notebook.{AreShort}
use Rattle.cell_reader.specs.declared.cell.Reason.{Reason}
use Rattle.chex_top.specs.declared.version.Version.{Version}
use Rattle.chex_top.specs.declared.bad_cell.BadCell.{BadCell}
use Rattle.exec_tree.specs.declared.checked.Checked.{Checked}
use Rattle.chex_top.specs.declared.refusal.Refusal.{Refusal}
use Rattle.chex_top.specs.declared.refusal.Refusal.TheVariants as refusal
use Rattle.chex_top.specs.Stages.{Stage}
use Rattle.cell_reader.specs.Cells.{IsCellOf, IsWrong}

-- at most 64 sources, each of at most 65,536 bytes
abbrev pub AreSources : List (List ℕ) → Type 0
AreSources sources = AreShort sources × (length sources ≤ 64)

abbrev pub IsSmall : Version → Type 0
IsSmall version = AreSources version.sources

abbrev pub AreSmall : List Version → Type 0
AreSmall versions = AllByRecursion IsSmall versions

-- ---- all is well

-- the version's name and inputs, and the cells of its sources in order
abbrev pub IsChecked : Version → Checked → Type 0
IsChecked version checked = (checked.name ≡ version.name) × (checked.inputs ≡ version.inputs) × AllZip IsCellOf version.sources checked.cells

abbrev pub AreChecked : List Version → List Checked → Type 0
AreChecked = AllZip IsChecked

-- ---- the first that is wrong

-- The items of a list before one are made something of, and with that one, which has this number from 1, this is wrong.
pub record IsFirst {A B C : Type 0} (Makes : A → B → Type 0) (Wrong : A → C → Type 0) (items : List A) (number : ℕ) (why : C) : Type 0 where
  pub before : List A
  pub made : List B
  pub item : A
  pub after : List A
  pub whole : items ≡ before ++ item ∷ after
  pub fine : AllZip Makes before made
  pub numbered : number ≡ length before + 1
  pub wrong : Wrong item why

-- the first of sources that gives no cell, and what is wrong with it on which line
abbrev pub IsFirstSource : List (List ℕ) → ℕ → Reason → ℕ → Type 0
IsFirstSource sources cell why line = IsFirst {C = Reason × ℕ} IsCellOf (λ source p. IsWrong source p.0 p.1) sources cell (why, line)

-- the version of this name has this first source that gives no cell
abbrev pub IsBadIn : Version → BadCell → Type 0
IsBadIn version bad = (bad.name ≡ version.name) × IsFirstSource version.sources bad.cell bad.reason bad.line

-- the first version with such a source, and the first there
abbrev pub IsFirstBad : List Version → BadCell → Type 0
IsFirstBad versions bad = (number : ℕ) × IsFirst IsChecked IsBadIn versions number bad

-- ---- the stage

-- the refusal of a cell of which this holds, or want of memory
abbrev pub IsCellRefusal : (BadCell → Type 0) → Refusal → Type 0
IsCellRefusal Holds (refusal.BadCell bad) = Holds bad
IsCellRefusal Holds refusal.NoMemory = Unit {0}
IsCellRefusal Holds refusal.Usage = ⊥
IsCellRefusal Holds (refusal.Absent file) = ⊥
IsCellRefusal Holds (refusal.ReadFailed file) = ⊥
IsCellRefusal Holds (refusal.BadFile file fault) = ⊥
IsCellRefusal Holds (refusal.TooManyNodes count) = ⊥
IsCellRefusal Holds (refusal.TooManyBlocks count) = ⊥

-- a version with its cells, or its first cell that is refused
abbrev pub checked_one : Version → Stage Checked
checked_one version (Ok one) = IsChecked version one
checked_one version (Err why) = IsCellRefusal (IsBadIn version) why

-- all versions with their cells, or the first cell that is refused
abbrev pub checked : List Version → Stage (List Checked)
checked versions (Ok all) = AreChecked versions all
checked versions (Err why) = IsCellRefusal (IsFirstBad versions) why
