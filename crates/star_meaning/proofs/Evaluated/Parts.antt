-- The rows hold by evaluation.
use Rattle.star_meaning.specs.Rows.Parts.{Parts}
use Rattle.star_meaning.proofs.Equations.{layers}
use Rattle.star_meaning.proofs.OneCell.{one_cell}
use Rattle.star_meaning.proofs.Opened.{evaluation}

pub parts_hold : Parts
unfolding evaluation
parts_hold = record {
  index_from_end = one_cell (λ st call. simp layers);
  index_text = one_cell (λ st call. simp layers);
  index_range = one_cell (λ st call. simp layers);
  index_dict = one_cell (λ st call. simp layers);
  slice_list = one_cell (λ st call. simp layers);
  slice_text_down = one_cell (λ st call. simp layers);
  slice_tuple = one_cell (λ st call. simp layers);
}
