-- The rows hold by evaluation.
use Rattle.star_meaning.specs.Rows.Comparisons.{Comparisons}
use Rattle.star_meaning.proofs.Equations.{layers}
use Rattle.star_meaning.proofs.OneCell.{one_cell}
use Rattle.star_meaning.proofs.Opened.{evaluation}

pub comparisons_hold : Comparisons
unfolding evaluation
comparisons_hold = record {
  equal_ints = one_cell (λ st call. simp layers);
  equal_texts = one_cell (λ st call. simp layers);
  unequal_lengths = one_cell (λ st call. simp layers);
  unequal_items = one_cell (λ st call. simp layers);
  equal_dicts = one_cell (λ st call. simp layers);
  less = one_cell (λ st call. simp layers);
  at_least_lists = one_cell (λ st call. simp layers);
  greater_texts = one_cell (λ st call. simp layers);
  at_most_tuples = one_cell (λ st call. simp layers);
  in_list = one_cell (λ st call. simp layers);
  in_dict = one_cell (λ st call. simp layers);
  in_range_of_ints = one_cell (λ st call. simp layers);
  not_in_text = one_cell (λ st call. simp layers);
}
