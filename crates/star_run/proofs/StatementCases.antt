-- The meaning of each form of a statement, one equation a form.
use Rattle.std.proofs.Common.{◌≡◌, ℕ, List, [], ◌∷◌, map, Bool, Option, Some, None, refl, sym, ap, subst, ◌∙◌}
use Rattle.std.specs.Prelude.{if◌then◌else◌, option_map, Result}
use Rattle.star_syntax.specs.declared.expression.Expr.{Expr}
use Rattle.star_syntax.specs.declared.statement.Block.{Block}
use Rattle.star_syntax.specs.declared.statement.Branch.{Branch}
use Rattle.star_syntax.specs.declared.statement.Definition.{Definition}
use Rattle.star_syntax.specs.declared.statement.Line.{Line}
use Rattle.star_syntax.specs.declared.statement.Statement.{Statement}
use Rattle.star_syntax.specs.declared.statement.Statement.TheVariants as s
use Rattle.star_value.specs.declared.failure.Failure.{Failure}
use Rattle.star_meaning.specs.declared.flow.Flow.{Flow}
use Rattle.star_meaning.specs.declared.flow.Flow.TheVariants as flow
use Rattle.star_meaning.specs.Steps.{Outcome, Went, Failed, and_then, charge, pure, ◌>>=◌, ◌>>◌}
use Rattle.star_meaning.specs.World.{World, acting, located, located_at}
use Rattle.star_meaning.specs.Expressions.{Callee, Setting}
use Rattle.star_meaning.specs.Statements.{body_of, branches_of, condition_of, else_of, iterated, line_of, repeated, statement_of}
use Rattle.star_meaning.proofs.Equations.{statement_def, statement_line}
use Rattle.star_meaning.proofs.Forms.{block_done, block_is, branch_done, for_is, if_is}
use Rattle.star_run.specs.declared.halt.Halt.{Halt}
use Rattle.star_run.specs.Bodies.{branches_from, iterated_at, otherwise}
use Rattle.star_run.specs.Halts.{Halts}

module _ {C : Type 0} (setting : Setting C) (call : Callee C) where
  -- branches whose blocks are trees

  else_is : (other : Option (Block Statement)) → else_of setting call (option_map (block_done setting call) other) ≡ otherwise setting call other
  else_is None = refl
  else_is (Some body) = block_is setting call body

  branches_are : (at : ℕ) (more : List (Branch Statement)) (other : Option (Block Statement))
      → branches_of setting call at (map (branch_done setting call) more) (option_map (block_done setting call) other) ≡ branches_from setting call at more other
  branches_are at [] other = else_is other
  branches_are at (b ∷ more) other =
      ap (λ here. condition_of setting call at b.condition >>= (λ t. if t then here else branches_of setting call at (map (branch_done setting call) more) (option_map (block_done setting call) other))) (block_is setting call b.body)
      ∙ ap (λ rest. condition_of setting call at b.condition >>= (λ t. if t then body_of setting call b.body else rest)) (branches_are at more other)

  pub exec_line : (line : Line) (last : Bool) (number : Option ℕ) (w : World C) → statement_of setting call (s.Line line) last number w ≡ line_of setting call last line w
  exec_line line last number w = statement_line setting call line last number w

  pub exec_if : (at : ℕ) (first : Branch Statement) (more : List (Branch Statement)) (other : Option (Block Statement)) (last : Bool) (number : Option ℕ) (w : World C)
      → statement_of setting call (s.If at first more other) last number w ≡ and_then (located at (acting (charge 1)) w) (λ paid. branches_from setting call at (first ∷ more) other)
  exec_if at first more other last number w = if_is setting call at first more other last number w ∙ ap (λ rest. and_then (located at (acting (charge 1)) w) (λ paid. rest)) (branches_are at (first ∷ more) other)

  pub exec_for : (at : ℕ) (targets over : List Expr) (body : Block Statement) (last : Bool) (number : Option ℕ) (w : World C)
      → statement_of setting call (s.For at targets over body) last number w ≡ and_then (located at (acting (charge 1) >> iterated setting call over) w) (repeated setting call at targets (body_of setting call body))
  exec_for at targets over body last number w =
      for_is setting call at targets over body last number w ∙ ap (λ b. and_then (located at (acting (charge 1) >> iterated setting call over) w) (repeated setting call at targets b)) (block_is setting call body)

  located_on : (line : ℕ) (o : Outcome (World C) Failure (Unit {0})) → located_at line (and_then o (λ done. pure flow.On)) ≡ and_then (located_at line o) (λ done. pure flow.On)
  located_on line (Went done w) = refl
  located_on line (Failed e w) = refl

  pub exec_def : (at : ℕ) (def : Definition Statement) (last : Bool) (w : World C) → statement_of setting call (s.Def at def) last None w ≡ and_then (located at (acting (charge 1)) w) (λ paid. pure flow.On)
  unfolding located
  exec_def at def last w = statement_def setting call at def last None w ∙ located_on at (acting (charge 1) w)

  -- ---- the same of a tree that is of the form, with its lists as slices

  pub if_at : (tree : Statement) (at : ℕ) (first : Branch Statement) (more xs : List (Branch Statement)) (other : Option (Block Statement)) (last : Bool) (w v : World C) (r : Result Flow Halt) → tree ≡ s.If at first more other → xs ≡ more
      → Halts {A = Flow} (and_then (located at (acting (charge 1)) w) (λ paid. branches_from setting call at (first ∷ xs) other)) r v → Halts {A = Flow} (statement_of setting call tree last None w) r v
  if_at tree at first more xs other last w v r is same h =
      subst (λ o. Halts {A = Flow} o r v) (sym (ap (λ y. statement_of setting call y last None w) (is ∙ ap (λ ys. s.If at first ys other) (sym same)) ∙ exec_if at first xs other last None w)) h

  pub for_at : (tree : Statement) (at : ℕ) (targets over ts os : List Expr) (body : Block Statement) (last : Bool) (w v : World C) (r : Result Flow Halt) → tree ≡ s.For at targets over body → ts ≡ targets → os ≡ over
      → Halts {A = Flow} (and_then (iterated_at setting call at os w) (repeated setting call at ts (body_of setting call body))) r v → Halts {A = Flow} (statement_of setting call tree last None w) r v
  for_at tree at targets over ts os body last w v r is a b h =
      subst (λ o. Halts {A = Flow} o r v)
      (sym (ap (λ y. statement_of setting call y last None w) (is ∙ ap (λ ys. s.For at ys over body) (sym a) ∙ ap (λ ys. s.For at ts ys body) (sym b)) ∙ exec_for at ts os body last None w)) h

pub ruleset statements_of_forms = (exec_line, exec_if, exec_for, exec_def)
