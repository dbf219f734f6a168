-- The text of a cell, and the line of a failed cell in pieces.
use Rattle.std.proofs.Common.{◌≡◌, ℕ, List, [], ◌∷◌, ◌++◌, ◌∙◌, ap, refl, sym, append_assoc}
use Rattle.std.specs.Prelude.{codes}
use Rattle.std.specs.Str.{chars}
use Rattle.std.proofs.lemmas.List.{append-nil}
use Rattle.star_meaning.specs.declared.ran.End.TheVariants as end
use Rattle.star_meaning.specs.declared.ran.Ran.{Ran}
use Rattle.star_meaning.specs.Cells.{cell_text, end_text}

pub text_is : (number : ℕ) (r : Ran) → cell_text number r ≡ r.out ++ end_text number r.end
unfolding cell_text
text_is number r = refl

pieces : (before a b c d e f g : List ℕ) → ((((((before ++ a) ++ b) ++ c) ++ d) ++ e) ++ f) ++ g ≡ before ++ ((((((a ++ b) ++ c) ++ d) ++ e) ++ f) ++ g)
pieces before a b c d e f g =
    let two = append_assoc before a b in
    let three = ap (λ t. t ++ c) two ∙ append_assoc before (a ++ b) c in
    let four = ap (λ t. t ++ d) three ∙ append_assoc before ((a ++ b) ++ c) d in
    let five = ap (λ t. t ++ e) four ∙ append_assoc before (((a ++ b) ++ c) ++ d) e in
    let six = ap (λ t. t ++ f) five ∙ append_assoc before ((((a ++ b) ++ c) ++ d) ++ e) f in
    ap (λ t. t ++ g) six ∙ append_assoc before (((((a ++ b) ++ c) ++ d) ++ e) ++ f) g

pub failed_pieces : (before name cell line : List ℕ)
    → ((((((before ++ chars (codes "error: ")) ++ name) ++ chars (codes " at cell ")) ++ cell) ++ chars (codes " line ")) ++ line) ++ chars (codes "\n")
    ≡ before ++ (codes "error: " ++ name ++ codes " at cell " ++ cell ++ codes " line " ++ line ++ 10 ∷ [])
unfolding chars
failed_pieces before name cell line = pieces before (codes "error: ") name (codes " at cell ") cell (codes " line ") line (codes "\n")

-- a cell that ran to its end writes no line more
pub done_text : (number : ℕ) (r : Ran) → r.end ≡ end.Done → r.out ≡ cell_text number r
done_text number r is = sym (text_is number r ∙ ap (λ e. r.out ++ end_text number e) is ∙ append-nil r.out)
