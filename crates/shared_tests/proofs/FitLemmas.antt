-- Versions whose cells were each read from their source meet what a shared run asks of its versions.
use Rattle.std.proofs.Common.{◌≤◌, List, [], ◌∷◌, ◌++◌, length}
use Rattle.std.specs.List.{All}
use Rattle.std.proofs.lemmas.List.Elements.{All-append, All-cons, All-nil}
use Rattle.exec_tree.specs.declared.checked.Checked.{Checked}
use Rattle.audit_run.specs.Sources.{HaveTheirNames, HaveTheirSources}
use Rattle.cell_reader.proofs.ReadLemmas.{all_by_source, all_names}
use Rattle.shared_tests.specs.Versions.{IsFit}

pub one_more : {X : Type 0} (P : X → Type 0) (xs : List X) (x : X) → All P xs → P x → All P (xs ++ x ∷ [])
one_more P xs x before last = All-append P xs (x ∷ []) before (All-cons P x [] last (All-nil P))

pub few_cells : (versions : List Checked) → All IsFit versions → All (λ v. length v.cells ≤ 64) versions
few_cells versions fit = λ k d low. (fit k d low).few

pub have_sources : (versions : List Checked) → All IsFit versions → HaveTheirSources versions
have_sources versions fit = all_by_source (λ (v : Checked). v.cells) versions (λ k d low. (fit k d low).read)

pub have_names : (versions : List Checked) → All IsFit versions → HaveTheirNames versions
have_names versions fit = all_names (λ (v : Checked). v.cells) versions (λ k d low. (fit k d low).read)
