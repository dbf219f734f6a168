-- Versions run or have a first cell that is refused, never both.
use Rattle.std.proofs.Common.{◌≡◌, ℕ, List, [], ◌∷◌, ◌++◌, sym, ◌∙◌, ap, refl}
use Rattle.std.specs.List.{AllZip}
use Rattle.chex_base.specs.declared.input.Input.{Input}
use Rattle.star_syntax.specs.CellParts.{CellParts}
use Rattle.cell_reader.specs.declared.cell.Reason.{Reason}
use Rattle.chex_top.specs.declared.version.Version.{Version}
use Rattle.chex_top.specs.declared.bad_cell.BadCell.{BadCell}
use Rattle.exec_tree.specs.declared.checked.Checked.{Checked}
use Rattle.cell_reader.specs.Cells.{IsCellOf, IsWrong}
use Rattle.cell_reader.proofs.CellLemmas.{cell_apart, cell_once}
use Rattle.chex_top.specs.Jobs.{IsChecked, AreChecked, IsBadIn, IsFirstBad, IsSmall, AreSmall}
use Rattle.chex_top.proofs.FirstLemmas.{first_apart}

pub version_apart : (bad : BadCell) (version : Version) (run : Checked) → IsChecked version run → IsBadIn version bad → ⊥
version_apart bad version run is wrong =
    first_apart {C = Reason × ℕ} IsCellOf (λ source p. IsWrong source p.0 p.1) version.sources run.cells bad.cell (bad.reason, bad.line) (λ source cell. cell_apart source cell bad.reason bad.line) is.2 wrong.1

-- where some source gives no cell, the versions do not all run
pub bad_apart : (versions : List Version) (made : List Checked) (bad : BadCell) → AreChecked versions made → IsFirstBad versions bad → ⊥
bad_apart versions made bad are first = first_apart IsChecked IsBadIn versions made first.0 bad (λ version run. version_apart bad version run) are first.1

cells_once : (sources : List (List ℕ)) (a b : List CellParts) → AllZip IsCellOf sources a → AllZip IsCellOf sources b → a ≡ b
cells_once [] [] [] h k = refl
cells_once [] [] (y ∷ ys) h k = absurd k
cells_once [] (x ∷ xs) b h k = absurd h
cells_once (s ∷ ss) [] b h k = absurd h
cells_once (s ∷ ss) (x ∷ xs) [] h k = absurd k
cells_once (s ∷ ss) (x ∷ xs) (y ∷ ys) h k = ap (λ z. z ∷ xs) (cell_once s x y h.0 k.0) ∙ ap (λ zs. y ∷ zs) (cells_once ss xs ys h.1 k.1)

abbrev checked_with : List ℕ → List CellParts → List (List ℕ × Input) → Checked
checked_with name cells inputs = record { name = name; cells = cells; inputs = inputs }

pub checked_once : (version : Version) (a b : Checked) → IsChecked version a → IsChecked version b → a ≡ b
checked_once version a b h k =
    ap (λ x. checked_with x a.cells a.inputs) (h.0 ∙ sym k.0) ∙ ap (λ x. checked_with b.name x a.inputs) (cells_once version.sources a.cells b.cells h.2 k.2)
    ∙ ap (checked_with b.name b.cells) (h.1 ∙ sym k.1)

pub all_checked_once : (versions : List Version) (a b : List Checked) → AreChecked versions a → AreChecked versions b → a ≡ b
all_checked_once [] [] [] h k = refl
all_checked_once [] [] (y ∷ ys) h k = absurd k
all_checked_once [] (x ∷ xs) b h k = absurd h
all_checked_once (v ∷ vs) [] b h k = absurd h
all_checked_once (v ∷ vs) (x ∷ xs) [] h k = absurd k
all_checked_once (v ∷ vs) (x ∷ xs) (y ∷ ys) h k = ap (λ z. z ∷ xs) (checked_once v x y h.0 k.0) ∙ ap (λ zs. y ∷ zs) (all_checked_once vs xs ys h.1 k.1)

-- ---- small versions

pub one_more_small : (versions : List Version) (version : Version) → AreSmall versions → IsSmall version → AreSmall (versions ++ version ∷ [])
one_more_small [] version h k = (k, tt)
one_more_small (v ∷ vs) version h k = (h.0, one_more_small vs version h.1 k)
