-- Cells that were read from their sources.
use Rattle.std.proofs.Common.{◌≡◌, ℕ, List, sym, subst}
use Rattle.std.specs.List.{All, Contains}
use Rattle.std.proofs.lemmas.List.Elements.{All-contains}
use Rattle.star_syntax.specs.CellParts.{CellParts}
use Rattle.star_syntax.specs.Placement.{AreInputNames}
use Rattle.cell_reader.specs.Cells.{IsCellOf, IsRead}
use Rattle.cell_reader.specs.Laws.{AreOneBySource, HaveTheirNames}
use Rattle.cell_reader.proofs.CellLemmas.{cell_once}

-- the cell of a source is the one of its own source
pub is_read : (source : List ℕ) (cell : CellParts) → IsCellOf source cell → IsRead cell
is_read source cell is = subst (λ s. IsCellOf s cell) (sym is.kept) is

pub one_by_source : AreOneBySource
one_by_source one other h k same = cell_once other.source one other (subst (λ s. IsCellOf s one) same h) k

pub have_their_names : HaveTheirNames
have_their_names cell is = is.names

-- the same for all cells of a list of things that have cells, such as versions
module _ {V : Type 0} (cells : V → List CellParts) (all : List V) (read : All (λ v. All IsRead (cells v)) all) where
  read_in : (v : V) (c : CellParts) → Contains all v → Contains (cells v) c → IsRead c
  read_in v c there is_its = All-contains IsRead (cells v) c (All-contains (λ w. All IsRead (cells w)) all v read there) is_its

  pub all_by_source : (v w : V) (c d : CellParts) → Contains all v → Contains all w → Contains (cells v) c → Contains (cells w) d → c.source ≡ d.source → c ≡ d
  all_by_source v w c d there_v there_w in_v in_w same = one_by_source c d (read_in v c there_v in_v) (read_in w d there_w in_w) same

  pub all_names : (v : V) (c : CellParts) → Contains all v → Contains (cells v) c → AreInputNames c.module c.inputs
  all_names v c there is_its = have_their_names c (read_in v c there is_its)
