-- A slice is its first bound, and then its end.
use Rattle.std.proofs.Common.{◌≡◌, ◌∙◌, Bool, true, false, Option, Some, None, Ok, Err, refl, sym}
use Rattle.std.specs.Prelude.{if◌then◌else◌}
use Rattle.star_syntax.specs.declared.token.Mark.TheVariants as m
use Rattle.star_syntax.specs.declared.expression.Expr.{Expr}
use Rattle.star_syntax.specs.declared.expression.Suffix.TheVariants.{Slice}
use Rattle.star_parser.specs.declared.level.Level.{Level}
use Rattle.star_parser.specs.Reading.{Input, Outcome, Reader, and_then, ◌>>=◌, ◌>>◌, pure, skip, next, rest}
use Rattle.star_parser.specs.Tables.{is_mark, expect}
use Rattle.star_parser.specs.Readers.{bound, slice_after}
use Rattle.star_parser.specs.Parts.{last_bound, slice_step, slice_end}

pub assoc : {A B C : Type 0} (o : Outcome A) (f : A → Reader B) (g : B → Reader C) → and_then (and_then o f) g ≡ and_then o (λ a ts. and_then (f a ts) g)
assoc (Ok p) f g = refl
assoc (Err ts) f g = refl

module _ (expr : Level → Reader Expr) (start stop : Option Expr) where
  stepped : (o : Outcome (Option Expr)) →
      and_then o (λ step. expect m.CloseSquare >>= λ _. pure (Slice start stop (Some step)))
      ≡ and_then (and_then o (λ step. expect m.CloseSquare >>= λ _. pure (Some step))) (λ s. pure (Slice start stop s))
  stepped (Ok p) = sym (assoc (expect m.CloseSquare p.1) (λ _. pure (Some p.0)) (λ s. pure (Slice start stop s)))
  stepped (Err ts) = refl

  by_colon : (colon : Bool) (ts : Input) →
      and_then ((if colon then skip >> pure true else pure false) ts) (λ found. if found then
      (last_bound expr >>= λ step. expect m.CloseSquare >>= λ _. pure (Slice start stop (Some step)))
      else (expect m.CloseSquare >>= λ _. pure (Slice start stop None)))
      ≡ and_then (and_then ((if colon then skip >> pure true else pure false) ts) (λ found. if found then
      (last_bound expr >>= λ step. expect m.CloseSquare >>= λ _. pure (Some step))
      else (expect m.CloseSquare >>= λ _. pure None))) (λ s. pure (Slice start stop s))
  by_colon true ts = stepped (last_bound expr (rest ts))
  by_colon false ts = sym (assoc (expect m.CloseSquare ts) (λ _. pure None) (λ s. pure (Slice start stop s)))

module _ (expr : Level → Reader Expr) (start : Option Expr) where
  after_bound : (o : Outcome (Option Expr)) →
      and_then o (λ stop ts. and_then ((if is_mark m.Colon (next ts) then skip >> pure true else pure false) ts) (λ found. if found then
      (last_bound expr >>= λ step. expect m.CloseSquare >>= λ _. pure (Slice start stop (Some step)))
      else (expect m.CloseSquare >>= λ _. pure (Slice start stop None))))
      ≡ and_then o (λ stop. slice_step expr >>= λ s. pure (Slice start stop s))
  unfolding slice_step
  after_bound (Ok p) = by_colon expr start p.0 (is_mark m.Colon (next p.1)) p.1
  after_bound (Err ts) = refl

  slice_by_step : (ts : Input) → slice_after expr start ts ≡ and_then (bound expr ts) (λ stop. slice_step expr >>= λ s. pure (Slice start stop s))
  unfolding slice_after
  slice_by_step ts = after_bound (bound expr ts)

  ended : (o : Outcome (Option Expr)) →
      and_then o (λ stop. slice_step expr >>= λ s. pure (Slice start stop s))
      ≡ and_then {A = Option Expr × Option (Option Expr)} (and_then o (λ stop. slice_step expr >>= λ s. pure {A = Option Expr × Option (Option Expr)} (stop, s))) (λ p. pure (Slice start p.0 p.1))
  ended (Ok q) = sym (assoc {B = Option Expr × Option (Option Expr)} (slice_step expr q.1) (λ s. pure {A = Option Expr × Option (Option Expr)} (q.0, s)) (λ p. pure (Slice start p.0 p.1)))
  ended (Err ts) = refl

  pub slice_by_end : (ts : Input) → slice_after expr start ts ≡ and_then (slice_end expr ts) (λ p. pure (Slice start p.0 p.1))
  unfolding slice_end
  slice_by_end ts = slice_by_step ts ∙ ended (bound expr ts)
