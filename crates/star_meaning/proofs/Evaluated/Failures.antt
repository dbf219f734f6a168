-- The rows hold by evaluation.
use Rattle.star_meaning.specs.Rows.Failures.{Failures}
use Rattle.star_meaning.proofs.Equations.{layers}
use Rattle.star_meaning.proofs.OneCell.{one_cell}
use Rattle.star_meaning.proofs.Opened.{evaluation}

pub failures_hold : Failures
unfolding evaluation
failures_hold = record {
  no_method = one_cell (λ st call. simp layers);
  wrong_arguments = one_cell (λ st call. simp layers);
  wrong_type = one_cell (λ st call. simp layers);
  unhashable = one_cell (λ st call. simp layers);
  changed_while_iterated = one_cell (λ st call. simp layers);
  unbound = one_cell (λ st call. simp layers);
  no_input = record { hold = simp layers };
  bad_unpack = one_cell (λ st call. simp layers);
  bad_index = one_cell (λ st call. simp layers);
  no_key = one_cell (λ st call. simp layers);
  no_element = one_cell (λ st call. simp layers);
  repeated_key = one_cell (λ st call. simp layers);
  zero_divisor = one_cell (λ st call. simp layers);
  integer_too_large = one_cell (λ st call. simp layers);
  bad_text = one_cell (λ st call. simp layers);
  wrong_item = one_cell (λ st call. simp layers);
  nothing_least = one_cell (λ st call. simp layers);
  no_number = one_cell (λ st call. simp layers);
}
