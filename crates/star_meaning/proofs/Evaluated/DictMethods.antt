-- The rows hold by evaluation.
use Rattle.star_meaning.specs.Rows.DictMethods.{DictMethods}
use Rattle.star_meaning.proofs.Equations.{layers}
use Rattle.star_meaning.proofs.OneCell.{one_cell}
use Rattle.star_meaning.proofs.Opened.{evaluation}

pub dict_methods_hold : DictMethods
unfolding evaluation
dict_methods_hold = record {
  get = one_cell (λ st call. simp layers);
  pop = one_cell (λ st call. simp layers);
  setdefault = one_cell (λ st call. simp layers);
  keys = one_cell (λ st call. simp layers);
  values = one_cell (λ st call. simp layers);
  items = one_cell (λ st call. simp layers);
  update = one_cell (λ st call. simp layers);
  clear_dict = one_cell (λ st call. simp layers);
}
