-- An index, by the types of what it stands at and of what it is.
use Rattle.std.proofs.Common.{◌≡◌, ℕ, ℤ, List, subst}
use Rattle.std.proofs.Math.Facts.{to_z-of_z}
use Rattle.std.specs.Prelude.{Result, FitsSigned}
use Rattle.std.specs.Int.{w128}
use mir.Val.{of_z, to_z}
use Rattle.star_value.specs.declared.range.Range.{Range}
use Rattle.star_value.specs.declared.stop.Stop.{Stop}
use Rattle.star_value.specs.declared.value.Value.{Value}
use Rattle.star_value.specs.declared.value.Value.TheOpen.{Value-F}
use Rattle.star_value.specs.declared.value.Value.TheVariants as value
use Rattle.star_meaning.specs.State.{list}
use Rattle.star_meaning.specs.Steps.{Store, Gives}
use Rattle.star_meaning.specs.Operators.{index, index_at, item_at, range_item_at}
use Rattle.star_meaning.proofs.Equations.{out_int, out_list, out_tuple, out_text, out_range}

module _ (z : ℤ) (s : Store ℕ) (r : Result Value Stop) (fit : FitsSigned w128 z) where
  pub index_list : (of at : Value) (id : ℕ) → of ≡ value.List id → at ≡ value.Int z → Gives (item_at (list s.state id) (to_z w128 (of_z w128 z)) s) r s → Gives (index of at s) r s
  unfolding index
  index_list of at id is_list is_int h = rw (is_list, is_int, out_list id, out_int z) (subst (λ y. Gives (item_at (list s.state id) y s) r s) (to_z-of_z fit) h)

  pub index_tuple : (of at : Value) (items : List Value) → of ≡ value.Tuple items → at ≡ value.Int z → Gives (item_at items (to_z w128 (of_z w128 z)) s) r s → Gives (index of at s) r s
  unfolding index
  index_tuple of at items is_tuple is_int h = rw (is_tuple, is_int, out_tuple items, out_int z) (subst (λ y. Gives (item_at items y s) r s) (to_z-of_z fit) h)

  pub index_text : (of at : Value) (points : List ℕ) → of ≡ value.Text points → at ≡ value.Int z → Gives (index_at (Value-F.Text points) value.None (Value-F.Int (to_z w128 (of_z w128 z))) s) r s → Gives (index of at s) r s
  unfolding index
  index_text of at points is_text is_int h = rw (is_text, is_int, out_text points, out_int z) (subst (λ y. Gives (index_at (Value-F.Text points) value.None (Value-F.Int y) s) r s) (to_z-of_z fit) h)

  pub index_range : (of at : Value) (range : Range) → of ≡ value.Range range → at ≡ value.Int z → Gives (range_item_at range (to_z w128 (of_z w128 z)) s) r s → Gives (index of at s) r s
  unfolding index
  index_range of at range is_range is_int h = rw (is_range, is_int, out_range range, out_int z) (subst (λ y. Gives (range_item_at range y s) r s) (to_z-of_z fit) h)
