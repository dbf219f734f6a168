-- Cells by their sources: look-ups find cells of the source, and additions keep that.
use Rattle.std.proofs.Common.{◌≡◌, ℕ, List, [], ◌∷◌, Some, Ordering, Less, Equal, Greater, sym, subst, refl, cond}
use Rattle.std.specs.Map.{lookup}
use Rattle.std.specs.BTreeMap.{is_at, insert_entry}
use Rattle.std.specs.Ordering.{is_eq, match_ordering}
use Rattle.std.specs.FinMap.{nat_cmp-IsAntisymmetric, slice_cmp-IsAntisymmetric}
use Rattle.chex_base.specs.TextOrder.{text_cmp}
use Rattle.star_syntax.specs.CellParts.{CellParts}
use Rattle.cell_reader.specs.Cells.{IsCellOf}
use Rattle.chex_top.specs.Cells.{AreKnown}

same_text : (a b : List ℕ) → text_cmp a b ≡ Equal → a ≡ b
same_text a b is = slice_cmp-IsAntisymmetric nat_cmp-IsAntisymmetric a b is

pub found_known : (entries : List (List ℕ × CellParts)) (source : List ℕ) (cell : CellParts) → AreKnown entries
    → lookup (is_at (text_cmp source)) entries ≡ Some cell → IsCellOf source cell
found_known [] source cell known h = cc
found_known (e ∷ es) source cell known h = by (found_known es source cell known.1) (text_cmp source e.0) refl h
  where
    by : (lookup (is_at (text_cmp source)) es ≡ Some cell → IsCellOf source cell) → (o : Ordering) → text_cmp source e.0 ≡ o → cond (is_eq o) (Some e.1) (lookup (is_at (text_cmp source)) es) ≡ Some cell → IsCellOf source cell
    by rest Less is found = rest found
    by rest Greater is found = rest found
    by rest Equal is found =
        let same : e.1 ≡ cell = cc in
        subst (λ c. IsCellOf source c) same (subst (λ s. IsCellOf s e.1) (sym (same_text source e.0 is)) known.0)

pub added_known : (entries : List (List ℕ × CellParts)) (source : List ℕ) (cell : CellParts) → AreKnown entries → IsCellOf source cell
    → AreKnown (insert_entry text_cmp entries source cell)
added_known [] source cell known is = (is, tt)
added_known (e ∷ es) source cell known is = by (added_known es source cell known.1 is) (text_cmp source e.0) refl
  where
    by : AreKnown (insert_entry text_cmp es source cell) → (o : Ordering) → text_cmp source e.0 ≡ o → AreKnown (match_ordering o ((source, cell) ∷ e ∷ es) ((e.0, cell) ∷ es) (e ∷ insert_entry text_cmp es source cell))
    by rest Less at = (is, known)
    by rest Equal at = (subst (λ s. IsCellOf s cell) (same_text source e.0 at) is, known.1)
    by rest Greater at = (known.0, rest)
