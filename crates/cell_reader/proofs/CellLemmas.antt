-- A source gives a cell or is wrong, never both.
use Rattle.std.proofs.Common.{◌≡◌, ◌+◌, ℕ, true, List, [], drop, Some, sym, ◌∙◌, ap, subst}
use Rattle.std.specs.List.{slice_get}
use Rattle.std.specs.Str.{chars, encode_utf8_all, all_scalars}
use Rattle.std.proofs.lemmas.Str.{chars-encodes}
use Rattle.std.proofs.lemmas.List.{take-append-drop}
use Rattle.star_syntax.specs.declared.token.Spanned.{Spanned}
use Rattle.star_syntax.specs.declared.statement.Module.{Module}
use Rattle.star_syntax.specs.CellParts.{CellParts}
use Rattle.star_syntax.specs.Placement.{AreInputNames, breaches}
use Rattle.star_lexer.specs.Tokens.{Tokens}
use Rattle.star_lexer.proofs.Once.{one_list, never_both}
use Rattle.star_parser.specs.Reading.{kinds}
use Rattle.star_parser.specs.Trees.{IsTree, IsLeast}
use Rattle.star_parser.proofs.Texts.{tree_once, tree_kinds}
use Rattle.star_resolver.specs.Outcomes.{breach_of}
use Rattle.cell_reader.specs.declared.cell.Reason.{Reason}
use Rattle.cell_reader.specs.declared.cell.Reason.TheVariants as reason
use Rattle.cell_reader.specs.Cells.{IsCellOf, IsWrong}
use Rattle.cell_reader.proofs.NameLemmas.{names_once}

pub points : (source text : List ℕ) → text ≡ encode_utf8_all source → all_scalars source ≡ true → chars text ≡ source
points source text bytes scalars = ap chars bytes ∙ chars-encodes source scalars

-- the tree of the one is that of the other
pub moved_tree : (source : List ℕ) (a b : List Spanned) (tree : Module) → Tokens source a → Tokens source b → IsTree tree a → IsTree tree b
moved_tree source a b tree h k is = subst (λ list. IsTree tree list) (one_list source a b h k) is

-- where there is a tree, no token is the first with which none goes on
pub least_apart : (tree : Module) (list : List Spanned) (place : ℕ) → IsTree tree list → IsLeast place (kinds list) → ⊥
least_apart tree list place is least =
    least.dead (tree, drop (place + 1) (kinds list), is.0, tree_kinds tree list is ∙ sym (take-append-drop (place + 1) (kinds list)))

pub cell_apart : (source : List ℕ) (cell : CellParts) (why : Reason) (line : ℕ) → IsCellOf source cell → IsWrong source why line → ⊥
cell_apart source cell (reason.Token kind) line is wrong = never_both source (is.list, is.tokens) (kind, line, wrong)
cell_apart source cell reason.Unexpected line is wrong =
    least_apart cell.module wrong.0 wrong.2.place (moved_tree source is.list wrong.0 cell.module is.tokens wrong.1 is.tree) wrong.2.least
cell_apart source cell (reason.Placement kind) line is wrong =
    let same : cell.module ≡ wrong.1 = tree_once wrong.0 cell.module wrong.1 (moved_tree source is.list wrong.0 cell.module is.tokens wrong.2 is.tree) wrong.3 in
    let none : [] ≡ breaches wrong.1 = sym is.placed ∙ ap breaches same in
    let first : slice_get [] 0 ≡ Some (breach_of kind, line) = ap (λ xs. slice_get xs 0) none ∙ wrong.4 in
    cc

-- the cell of a source is the only one
abbrev cell_with : List ℕ → Module → List (List ℕ) → CellParts
cell_with source tree names = record { source = source; «module» = tree; inputs = names }

one_cell : (a b : CellParts) → a.source ≡ b.source → a.module ≡ b.module → a.inputs ≡ b.inputs → a ≡ b
one_cell a b source tree names =
    ap (λ x. cell_with x a.module a.inputs) source ∙ ap (λ x. cell_with b.source x a.inputs) tree ∙ ap (cell_with b.source b.module) names

pub cell_once : (source : List ℕ) (a b : CellParts) → IsCellOf source a → IsCellOf source b → a ≡ b
cell_once source a b h k =
    let tree : a.module ≡ b.module = tree_once k.list a.module b.module (moved_tree source h.list k.list a.module h.tokens k.tokens h.tree) k.tree in
    one_cell a b (h.kept ∙ sym k.kept) tree (names_once b.module a.inputs b.inputs (subst (λ t. AreInputNames t a.inputs) tree h.names) k.names)
