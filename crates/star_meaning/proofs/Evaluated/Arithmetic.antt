-- The rows hold by evaluation.
use Rattle.star_meaning.specs.Rows.Arithmetic.{Arithmetic}
use Rattle.star_meaning.proofs.Equations.{layers}
use Rattle.star_meaning.proofs.OneCell.{one_cell}
use Rattle.star_meaning.proofs.Opened.{evaluation}

pub arithmetic_hold : Arithmetic
unfolding evaluation
arithmetic_hold = record {
  add_ints = one_cell (λ st call. simp layers);
  add_texts = one_cell (λ st call. simp layers);
  add_tuples = one_cell (λ st call. simp layers);
  add_lists = one_cell (λ st call. simp layers);
  subtract = one_cell (λ st call. simp layers);
  bit_and = one_cell (λ st call. simp layers);
  bit_or = one_cell (λ st call. simp layers);
  bit_xor = one_cell (λ st call. simp layers);
  multiply = one_cell (λ st call. simp layers);
  repeat_text = one_cell (λ st call. simp layers);
  repeat_list = one_cell (λ st call. simp layers);
  repeat_tuple = one_cell (λ st call. simp layers);
  floor = one_cell (λ st call. simp layers);
  rest = one_cell (λ st call. simp layers);
  rest_of_negative = one_cell (λ st call. simp layers);
  format_decimal = one_cell (λ st call. simp layers);
  format_quoted = one_cell (λ st call. simp layers);
  plus = one_cell (λ st call. simp layers);
  minus_twice = one_cell (λ st call. simp layers);
  invert = one_cell (λ st call. simp layers);
}
