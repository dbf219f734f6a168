-- The rows hold by evaluation.
use Rattle.star_meaning.specs.Rows.ListMethods.{ListMethods}
use Rattle.star_meaning.proofs.Equations.{layers}
use Rattle.star_meaning.proofs.OneCell.{one_cell}
use Rattle.star_meaning.proofs.Opened.{evaluation}

pub list_methods_hold : ListMethods
unfolding evaluation
list_methods_hold = record {
  append = one_cell (λ st call. simp layers);
  clear = one_cell (λ st call. simp layers);
  extend = one_cell (λ st call. simp layers);
  insert = one_cell (λ st call. simp layers);
  pop_last = one_cell (λ st call. simp layers);
  pop_first = one_cell (λ st call. simp layers);
  remove = one_cell (λ st call. simp layers);
  index = one_cell (λ st call. simp layers);
}
