-- What follows `[` is read exactly.
use Rattle.std.proofs.Common.{ℕ, ◌<◌, List, [], ◌∷◌, refl, arith, length}
use Rattle.star_syntax.specs.declared.token.Mark.TheVariants as m
use Rattle.star_syntax.specs.declared.expression.Clause.{Clause}
use Rattle.star_syntax.specs.declared.expression.Expr.{Expr}
use Rattle.star_syntax.specs.declared.expression.Expr.TheVariants as e
use Rattle.star_syntax.specs.Spelling.{expr_spelling}
use Rattle.star_syntax.specs.Levels.{IsLevelled}
use Rattle.star_parser.specs.declared.level.Level.{Level}
use Rattle.star_parser.specs.declared.level.Level.TheVariants as level
use Rattle.star_parser.specs.Reading.{Input, Reader, next}
use Rattle.star_parser.specs.Readers.{items_from, listed_after, list_over, list_by, square}
use Rattle.star_parser.proofs.Exact.{Exact}
use Rattle.star_parser.proofs.Bracketed.{Any, Items, Listing, listing_exact, item_begins, some_item, Tests, item_exact, items_exact}
use Rattle.star_parser.proofs.Clauses.{Primaries, Operands}
use Rattle.star_parser.proofs.Displays.{closed_exact, DisplayTail, Display, display_tail_exact, display_exact}

abbrev pub list_of : Items Expr → Expr
list_of all = e.List all.0 all.1

abbrev pub list_for : Expr → List (Clause Expr) → Expr
list_for item clauses = e.ListOver item clauses

-- after `[`, an expression and what doesn't begin a clause
abbrev pub ListRest : Expr → Expr → Input → Type 0
ListRest = Listing IsLevelled expr_spelling m.CloseSquare list_of

-- after `[` and an expression
abbrev pub ListTail : Expr → Expr → Input → Type 0
ListTail = DisplayTail IsLevelled expr_spelling m.CloseSquare list_for list_of

-- after `[`
abbrev pub Square : Expr → Input → Type 0
Square = Display IsLevelled expr_spelling m.CloseSquare list_for list_of

module _ (expr : Level → Reader Expr) (bound : ℕ) (tests : Tests expr bound) (primaries : Primaries expr bound) (operands : Operands expr bound) where
  listed_after_exact : (first : Expr) (ts : Input) → length ts < bound → Exact (ListRest first) Any ts (listed_after expr first ts)
  unfolding listed_after
  listed_after_exact first ts few =
      listing_exact IsLevelled expr_spelling m.CloseSquare item_begins some_item refl refl (λ is. cc) list_of first (λ ts. items_from expr m.CloseSquare (length ts) (first ∷ []) ts) ts
      (λ left less. items_exact expr bound tests m.CloseSquare refl refl (λ is. cc) (length left) (first ∷ []) left (omega arith) (omega arith))

  list_tail_exact : (first : Expr) (ts : Input) → length ts < bound → Exact (ListTail first) Any ts (list_by expr first (next ts) ts)
  unfolding list_over
  list_tail_exact first ts few =
      display_tail_exact IsLevelled expr_spelling m.CloseSquare list_for list_of item_begins some_item refl refl first (list_over expr first) (listed_after expr first) ts
      (closed_exact expr bound primaries operands m.CloseSquare refl (list_for first) ts (omega arith))
      (listed_after_exact first ts few)

  pub square_exact : (ts : Input) → length ts < bound → Exact Square Any ts (square expr ts)
  unfolding square
  square_exact ts few =
      display_exact IsLevelled expr_spelling m.CloseSquare list_for list_of item_begins some_item refl refl (expr level.Test) (list_by expr) ts (item_exact expr bound tests ts few)
      (λ first left less. list_tail_exact first left (omega arith))
