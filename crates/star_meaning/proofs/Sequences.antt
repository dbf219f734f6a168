-- One after another: statements, turns and operands whose outcomes are known.
use Rattle.std.proofs.Common.{◌≡◌, ℕ, ◌+◌, List, [], ◌∷◌, ◌++◌, ap, ◌∙◌}
use Rattle.std.specs.Prelude.{Some}
use Rattle.star_syntax.specs.declared.statement.Statement.{Statement}
use Rattle.star_value.specs.declared.value.Value.{Value}
use Rattle.star_meaning.specs.declared.flow.Flow.{Flow}
use Rattle.star_meaning.specs.declared.flow.Flow.TheVariants as flow
use Rattle.star_meaning.specs.Steps.{Went, and_then}
use Rattle.star_meaning.specs.Values.{is_empty}
use Rattle.star_meaning.specs.World.{Course, World}
use Rattle.star_meaning.specs.Expressions.{Setting, Callee, Meant, values_from}
use Rattle.star_meaning.specs.Statements.{after_turn, for_turns, go_on, statement_of}
use Rattle.star_meaning.specs.Cells.{is_def, statements_from}

module _ {C : Type 0} (setting : Setting C) (call : Callee C) where
  pub next_statement : (n : ℕ) (s : Statement) (more : List Statement) (w v : World C) → statement_of setting call s (is_empty more) (Some n) w ≡ Went flow.On v
      → statements_from setting call n (s ∷ more) w ≡ statements_from setting call (n + is_def s) more v
  next_statement n s more w v h = ap (λ o. and_then o (go_on (statements_from setting call (n + is_def s) more))) h

pub next_turn : {C : Type 0} (next : Value → Course C (Unit {0})) (body : Course C Flow) (x : Value) (xs : List Value) (w v u : World C)
    → next x w ≡ Went tt v → body v ≡ Went flow.On u → for_turns next body (x ∷ xs) w ≡ for_turns next body xs u
next_turn next body x xs w v u h g =
    ap (λ o. and_then (and_then o (λ _. body)) (after_turn (for_turns next body xs))) h
    ∙ ap (λ o. and_then o (after_turn (for_turns next body xs))) g

pub next_value : {C : Type 0} (done : List Value) (m : Meant C) (ms : List (Meant C)) (w v : World C) (x : Value)
    → m.value w ≡ Went x v → values_from done (m ∷ ms) w ≡ values_from (done ++ x ∷ []) ms v
next_value done m ms w v x h = ap (λ o. and_then o (λ y. values_from (done ++ y ∷ []) ms)) h
