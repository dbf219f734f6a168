-- A comprehension's clauses are read up to its closing bracket, and then it is made.
use Rattle.std.proofs.Common.{◌≡◌, List, [], length, Ok, Err, refl, sym}
use Rattle.star_syntax.specs.declared.token.Mark.TheVariants as m
use Rattle.star_syntax.specs.declared.expression.Clause.{Clause}
use Rattle.star_syntax.specs.declared.expression.Pair.{Pair}
use Rattle.star_syntax.specs.declared.expression.Expr.{Expr}
use Rattle.star_syntax.specs.declared.expression.Expr.TheVariants as e
use Rattle.star_parser.specs.declared.level.Level.{Level}
use Rattle.star_parser.specs.Reading.{Input, Outcome, Reader, and_then, ◌>>=◌, pure}
use Rattle.star_parser.specs.Tables.{expect}
use Rattle.star_parser.specs.Readers.{clauses_from, list_over, dict_over}
use Rattle.star_parser.specs.Parts.{closed_clauses}
use Rattle.star_parser.proofs.SliceSteps.{assoc}

module _ (expr : Level → Reader Expr) where
  list_closed : (item : Expr) (o : Outcome (List (Clause Expr))) →
      and_then o (λ clauses. expect m.CloseSquare >>= λ _. pure (e.ListOver item clauses))
      ≡ and_then (and_then o (λ clauses. expect m.CloseSquare >>= λ _. pure clauses)) (λ clauses. pure (e.ListOver item clauses))
  list_closed item (Ok p) = sym (assoc (expect m.CloseSquare p.1) (λ _. pure p.0) (λ clauses. pure (e.ListOver item clauses)))
  list_closed item (Err ts) = refl

  pub list_by_clauses : (item : Expr) (ts : Input) → list_over expr item ts ≡ and_then (closed_clauses expr m.CloseSquare ts) (λ clauses. pure (e.ListOver item clauses))
  unfolding list_over closed_clauses
  list_by_clauses item ts = list_closed item (clauses_from expr (length ts) [] ts)

  dict_closed : (first : Pair Expr) (o : Outcome (List (Clause Expr))) →
      and_then o (λ clauses. expect m.CloseCurly >>= λ _. pure (e.DictOver first.key first.value clauses))
      ≡ and_then (and_then o (λ clauses. expect m.CloseCurly >>= λ _. pure clauses)) (λ clauses. pure (e.DictOver first.key first.value clauses))
  dict_closed first (Ok p) = sym (assoc (expect m.CloseCurly p.1) (λ _. pure p.0) (λ clauses. pure (e.DictOver first.key first.value clauses)))
  dict_closed first (Err ts) = refl

  pub dict_by_clauses : (first : Pair Expr) (ts : Input) → dict_over expr first ts ≡ and_then (closed_clauses expr m.CloseCurly ts) (λ clauses. pure (e.DictOver first.key first.value clauses))
  unfolding dict_over closed_clauses
  dict_by_clauses first ts = dict_closed first (clauses_from expr (length ts) [] ts)
