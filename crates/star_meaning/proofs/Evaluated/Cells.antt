-- The rows hold by evaluation.
use Rattle.star_meaning.specs.Rows.Cells.{Cells}
use Rattle.star_meaning.proofs.Equations.{layers}
use Rattle.star_meaning.proofs.OneCell.{one_cell}
use Rattle.star_meaning.proofs.Opened.{evaluation}

pub cells_hold : Cells
unfolding evaluation
cells_hold = record {
  three = one_cell (λ st call. simp layers);
  two_cells = record { hold = simp layers };
  shared_list_a = record { hold = simp layers };
  shared_list_b = record { hold = simp layers };
  itself_a = record { hold = simp layers };
  itself_b = record { hold = simp layers };
  inputs_1 = simp layers;
  inputs_2 = simp layers;
  division = record { hold = simp layers };
  largest = one_cell (λ st call. simp layers);
  recursion = record { hold = simp layers };
  nine_steps = simp layers;
  eight_steps = simp layers;
  function_call = record { hold = simp layers };
  function_call_stopped = simp layers;
  stored_key = one_cell (λ st call. simp layers);
  appended_to_itself = one_cell (λ st call. simp layers);
  three_printed = one_cell (λ st call. simp layers);
  one_order = record { hold = simp layers };
  other_order = record { hold = simp layers };
  two_lists = record { hold = simp layers };
}
