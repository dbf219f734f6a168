-- The rows hold by evaluation.
use Rattle.star_meaning.specs.Rows.BuiltinFunctions.{BuiltinFunctions}
use Rattle.star_meaning.proofs.Equations.{layers}
use Rattle.star_meaning.proofs.OneCell.{one_cell}
use Rattle.star_meaning.proofs.Opened.{evaluation}

pub builtin_functions_hold : BuiltinFunctions
unfolding evaluation
builtin_functions_hold = record {
  call_abs = one_cell (λ st call. simp layers);
  call_all = one_cell (λ st call. simp layers);
  call_any = one_cell (λ st call. simp layers);
  call_bool = one_cell (λ st call. simp layers);
  call_dict = one_cell (λ st call. simp layers);
  call_enumerate = one_cell (λ st call. simp layers);
  call_int = one_cell (λ st call. simp layers);
  call_len = one_cell (λ st call. simp layers);
  call_list = one_cell (λ st call. simp layers);
  call_max = one_cell (λ st call. simp layers);
  call_min = one_cell (λ st call. simp layers);
  call_print = one_cell (λ st call. simp layers);
  call_range = one_cell (λ st call. simp layers);
  call_repr = one_cell (λ st call. simp layers);
  call_reversed = one_cell (λ st call. simp layers);
  call_sorted_down = one_cell (λ st call. simp layers);
  call_sorted_texts = one_cell (λ st call. simp layers);
  call_str = one_cell (λ st call. simp layers);
  call_tuple = one_cell (λ st call. simp layers);
  call_type = one_cell (λ st call. simp layers);
  call_zip = one_cell (λ st call. simp layers);
}
