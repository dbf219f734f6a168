-- The rows hold by evaluation.
use Rattle.star_meaning.specs.Rows.TextMethods.{TextMethods}
use Rattle.star_meaning.proofs.Equations.{layers}
use Rattle.star_meaning.proofs.OneCell.{one_cell}
use Rattle.star_meaning.proofs.Opened.{evaluation}

pub text_methods_hold : TextMethods
unfolding evaluation
text_methods_hold = record {
  find = one_cell (λ st call. simp layers);
  split = one_cell (λ st call. simp layers);
  split_white = one_cell (λ st call. simp layers);
  join = one_cell (λ st call. simp layers);
  replace = one_cell (λ st call. simp layers);
  strip = one_cell (λ st call. simp layers);
  lstrip = one_cell (λ st call. simp layers);
  rstrip = one_cell (λ st call. simp layers);
  startswith = one_cell (λ st call. simp layers);
  endswith = one_cell (λ st call. simp layers);
}
