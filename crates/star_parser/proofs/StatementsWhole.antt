-- Statements are read exactly, if the depths are enough.
use Rattle.std.proofs.Common.{◌≡◌, ◌≢◌, ◌∙◌, ℕ, zero, suc, ◌<◌, ◌++◌, Some, sym, arith, length}
use Rattle.std.specs.Prelude.{if◌then◌else◌}
use Rattle.star_syntax.specs.declared.token.Token.TheVariants as t
use Rattle.star_syntax.specs.declared.token.Keyword.TheVariants as w
use Rattle.star_syntax.specs.declared.expression.Expr.{Expr}
use Rattle.star_syntax.specs.declared.statement.Line.{Line}
use Rattle.star_syntax.specs.declared.statement.Statement.{Statement, roll-Statement}
use Rattle.star_syntax.specs.declared.statement.Statement.TheOpen.{Statement-F}
use Rattle.star_syntax.specs.declared.statement.Statement.TheVariants as tree
use Rattle.star_syntax.specs.Levels.{StatementFits}
use Rattle.star_parser.specs.declared.level.Level.{Level}
use Rattle.star_parser.specs.Reading.{Input, Reader, ◌>>=◌, pure, next}
use Rattle.star_parser.specs.Tables.{eat_word}
use Rattle.star_parser.specs.StatementTables.{first_line}
use Rattle.star_parser.specs.StatementReaders.{line, if_after, for_after, def_after, one, statement}
use Rattle.star_parser.proofs.Claims.{Matches}
use Rattle.star_parser.proofs.Exact.{Exact, Then, Just, exact_by}
use Rattle.star_parser.proofs.Steps.{exact_eat_word, exact_last}
use Rattle.star_parser.proofs.First.{last_there, last_back}
use Rattle.star_parser.proofs.Bracketed.{Any, Inside}
use Rattle.star_parser.proofs.LineRules.{IsLine, line_exact}
use Rattle.star_parser.proofs.ClaimLemmas.{parts_claims}
use Rattle.star_parser.proofs.Blocks.{IsSpelled, EndsStatement}
use Rattle.star_parser.proofs.Headers.{node_of, of_node}
use Rattle.star_parser.proofs.Branches.{IsIf, if_there, if_back, if_exact, header_next}
use Rattle.star_parser.proofs.Loops.{IsFor, for_there, for_back, for_exact, IsDef, def_there, def_back, def_exact}

-- ---- a statement that is a line

abbrev made_line : Line → Statement
made_line x = tree.Line x

-- a line, as a statement
abbrev IsLined : Statement → Input → Type 0
IsLined = Then IsLine (λ x. Just (made_line x))

lined_there : (x : Statement) (c : Input) → IsLined x c → IsSpelled x c
lined_there x c h =
    let (l, r, x_is) = last_there IsLine made_line x c h in
    of_node (Statement-F.Line l) x c (tree.rolls-Line l ∙ sym x_is) r.0 tt r.1

lined_by : (x : Statement) (c more : Input) (d : Statement-F Statement) → roll-Statement d ≡ x → StatementFits d → Matches c (parts_claims d)
    → next (c ++ more) ≢ Some (t.Word w.If) → next (c ++ more) ≢ Some (t.Word w.For) → next (c ++ more) ≢ Some (t.Word w.Def) → IsLined x c
lined_by x c more (Statement-F.Line l) is fits spelt no_if no_for no_def = last_back IsLine made_line x c l (fits, spelt) (sym is ∙ tree.rolls-Line l)
lined_by x c more (Statement-F.If at first others other) is fits spelt no_if no_for no_def = absurd (no_if (header_next c more at (t.Word w.If) _ spelt))
lined_by x c more (Statement-F.For at targets over body) is fits spelt no_if no_for no_def = absurd (no_for (header_next c more at (t.Word w.For) _ spelt))
lined_by x c more (Statement-F.Def at def) is fits spelt no_if no_for no_def = absurd (no_def (header_next c more at (t.Word w.Def) _ spelt))

lined_back : (x : Statement) (c more : Input) → IsSpelled x c → next (c ++ more) ≢ Some (t.Word w.If) → next (c ++ more) ≢ Some (t.Word w.For)
    → next (c ++ more) ≢ Some (t.Word w.Def) → IsLined x c
lined_back x c more h no_if no_for no_def = let n = node_of x c h in lined_by x c more n.layer n.whole n.fits n.spelt no_if no_for no_def

-- ---- one statement

module _ (expr : Level → Reader Expr) (bound : ℕ) (inside : Inside expr bound) where
  one_exact : (statement : Reader Statement) (ts : Input) → length ts < bound → ((ts' : Input) → length ts' < length ts → Exact IsSpelled EndsStatement ts' (statement ts'))
      → Exact IsSpelled EndsStatement ts (one expr statement ts)
  unfolding one
  one_exact statement ts few exact =
      let at : ℕ = first_line ts in
      let within : Inside expr (length ts) = (λ l ts' less. inside l ts' (omega arith)) in
      let lines : (ts' : Input) → length ts' < length ts → Exact IsLine Any ts' (line expr ts') = (λ ts' less. line_exact expr bound inside ts' (omega arith)) in
      let as_line : Reader Statement = (line expr >>= λ x. pure (made_line x)) in
      let as_def : Reader Statement = (eat_word w.Def >>= λ is_def. if is_def then def_after expr statement at else as_line) in
      let as_for : Reader Statement = (eat_word w.For >>= λ is_for. if is_for then for_after expr statement at else as_def) in
      exact_eat_word IsSpelled EndsStatement (if_after expr statement at) as_for ts w.If
      (λ here. exact_by IsIf IsSpelled EndsStatement ts if_there (λ x c more h _ look. if_back x c more h (look ∙ here))
      _ (if_exact expr statement (length ts) within lines exact ts (omega arith) here))
      (λ no_if. exact_eat_word IsSpelled EndsStatement (for_after expr statement at) as_def ts w.For
      (λ here. exact_by IsFor IsSpelled EndsStatement ts for_there (λ x c more h _ look. for_back x c more h (look ∙ here))
      _ (for_exact expr statement (length ts) within lines exact ts (omega arith) here))
      (λ no_for. exact_eat_word IsSpelled EndsStatement (def_after expr statement at) as_line ts w.Def
      (λ here. exact_by IsDef IsSpelled EndsStatement ts def_there (λ x c more h _ look. def_back x c more h (look ∙ here))
      _ (def_exact expr statement (length ts) within lines exact ts (omega arith) here))
      (λ no_def. exact_by IsLined IsSpelled EndsStatement ts lined_there
      (λ x c more h _ look. lined_back x c more h (λ e. no_if (sym look ∙ e)) (λ e. no_for (sym look ∙ e)) (λ e. no_def (sym look ∙ e)))
      _ (exact_last IsLine Any EndsStatement (λ _ _. tt) made_line ts (line expr ts) (line_exact expr bound inside ts few)))))

  -- with blocks nested no deeper than the number
  pub statement_exact : (depth : ℕ) (ts : Input) → length ts < bound → length ts < depth → Exact IsSpelled EndsStatement ts (statement expr depth ts)
  unfolding statement
  statement_exact zero ts few enough = absurd (omega arith)
  statement_exact (suc n) ts few enough = one_exact (statement expr n) ts few (λ ts' less. statement_exact n ts' (omega arith) (omega arith))
