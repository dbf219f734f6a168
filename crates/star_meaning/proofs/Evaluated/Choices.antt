-- The rows hold by evaluation.
use Rattle.star_meaning.specs.Rows.Choices.{Choices}
use Rattle.star_meaning.proofs.Equations.{layers}
use Rattle.star_meaning.proofs.OneCell.{one_cell}
use Rattle.star_meaning.proofs.Opened.{evaluation}

pub choices_hold : Choices
unfolding evaluation
choices_hold = record {
  conditional = one_cell (λ st call. simp layers);
  second_arm = one_cell (λ st call. simp layers);
  no_arm = one_cell (λ st call. simp layers);
  or_second = one_cell (λ st call. simp layers);
  and_first = one_cell (λ st call. simp layers);
  and_third = one_cell (λ st call. simp layers);
  not_twice = one_cell (λ st call. simp layers);
}
