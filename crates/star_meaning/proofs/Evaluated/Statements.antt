-- The rows hold by evaluation.
use Rattle.star_meaning.specs.Rows.Statements.{Statements}
use Rattle.star_meaning.proofs.Equations.{layers}
use Rattle.star_meaning.proofs.OneCell.{one_cell}
use Rattle.star_meaning.proofs.Opened.{evaluation}

pub statements_hold : Statements
unfolding evaluation
statements_hold = record {
  unpacking = one_cell (λ st call. simp layers);
  extended_in_place = one_cell (λ st call. simp layers);
  store_in_dict = one_cell (λ st call. simp layers);
  call_by_name = record { hold = simp layers };
  default_used = record { hold = simp layers };
  input_of_int = simp layers;
  input_of_text = simp layers;
  input_of_array = simp layers;
}
