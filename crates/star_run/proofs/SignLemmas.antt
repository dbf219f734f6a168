-- Signs before an operand, the last one first.
use Rattle.std.proofs.Common.{◌≡◌, ℕ, suc, ◌<◌, List, [], ◌∷◌, ◌++◌, get_or, length, take, take-suc, refl, sym, ap, ◌∙◌}
use Rattle.star_syntax.specs.declared.operator.UnaryOp.{UnaryOp}
use Rattle.star_value.specs.declared.failure.Failure.{Failure}
use Rattle.star_value.specs.declared.value.Value.{Value}
use Rattle.std.specs.Prelude.{Err}
use Rattle.star_value.specs.declared.stop.Stop.{Stop}
use Rattle.star_value.specs.declared.stop.Stop.TheVariants as stop
use Rattle.star_meaning.specs.Steps.{Outcome, Went, Failed, Gives, Steps, and_then}
use Rattle.star_meaning.specs.World.{World, operate}
use Rattle.star_meaning.specs.Operators.{unary}
use Rattle.star_meaning.specs.Expressions.{signed}

then_went : (o : Outcome (World ℕ) Failure Value) → and_then o (λ v w. Went v w) ≡ o
then_went (Went v w) = refl
then_went (Failed e w) = refl

then_again : (o : Outcome (World ℕ) Failure Value) (f g : Value → Steps (World ℕ) Failure Value) → and_then (and_then o f) g ≡ and_then o (λ v w. and_then (f v w) g)
then_again (Went v w) f g = refl
then_again (Failed e w) f g = refl

signed_push : (signs : List UnaryOp) (s : UnaryOp) (x : Value) (w : World ℕ) → signed (signs ++ s ∷ []) x w ≡ and_then (operate (unary s x) w) (signed signs)
signed_push [] s x w = sym (then_went (operate (unary s x) w))
signed_push (t ∷ signs) s x w = ap (λ o. and_then o (λ y. operate (unary t y))) (signed_push signs s x w) ∙ then_again (operate (unary s x) w) (signed signs) (λ y. operate (unary t y))

-- one sign less
pub next_sign : (signs : List UnaryOp) (left n : ℕ) (d : UnaryOp) (x : Value) (w : World ℕ) → left ≡ suc n → n < length signs
    → signed (take left signs) x w ≡ and_then (operate (unary (get_or signs n d) x) w) (signed (take n signs))
next_sign signs left n d x w is within =
    ap (λ k. signed (take k signs) x w) is ∙ ap (λ l. signed l x w) (take-suc signs n d within) ∙ signed_push (take n signs) (get_or signs n d) x w

-- a sign that fails
pub sign_stops : (signs : List UnaryOp) (left n : ℕ) (d : UnaryOp) (x : Value) (w v : World ℕ) (e : Stop) → left ≡ suc n → n < length signs
    → Gives (operate (unary (get_or signs n d) x) w) (Err e) v → Gives (signed (take left signs) x w) (Err e) v
sign_stops signs left n d x w v (stop.Failure e) is within h = next_sign signs left n d x w is within ∙ ap (λ o. and_then o (signed (take n signs))) h
sign_stops signs left n d x w v stop.NoMemory is within h = tt
