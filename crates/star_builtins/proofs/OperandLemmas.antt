-- An operator, once its integer operands are read as numbers of 128 bits.
use Rattle.std.proofs.Common.{◌≡◌, ℕ, ℤ, subst, ap}
use Rattle.std.proofs.Math.Facts.{to_z-of_z}
use Rattle.std.specs.Prelude.{Result, FitsSigned}
use Rattle.std.specs.Int.{w128}
use mir.Val.{of_z, to_z}
use Rattle.star_value.specs.declared.stop.Stop.{Stop}
use Rattle.star_value.specs.declared.value.Value.{Value, out-Value}
use Rattle.star_value.specs.declared.value.Value.TheOpen.{Value-F}
use Rattle.star_value.specs.declared.value.Value.TheVariants as value
use Rattle.star_meaning.specs.Steps.{Action, Store, Gives}
use Rattle.star_meaning.specs.Operators.{on_ints}
use Rattle.star_meaning.proofs.Equations.{out_int}

pub on_ints_gives : (f : ℤ → ℤ → Action ℕ Value) (left right : Value) (x y : ℤ) (r : Result Value Stop) (s : Store ℕ) → left ≡ value.Int x → right ≡ value.Int y → FitsSigned w128 x → FitsSigned w128 y
    → Gives (f (to_z w128 (of_z w128 x)) (to_z w128 (of_z w128 y)) s) r s → Gives (on_ints f (out-Value left) (out-Value right) s) r s
on_ints_gives f left right x y r s is_left is_right a b h =
    rw (is_left, is_right, out_int x, out_int y) (subst (λ z. Gives (f x z s) r s) (to_z-of_z b) (subst (λ z. Gives (f z (to_z w128 (of_z w128 y)) s) r s) (to_z-of_z a) h))

-- the same where only the left operand is looked at
pub left_int_gives : (f : Value-F Value → Action ℕ Value) (left : Value) (x : ℤ) (r : Result Value Stop) (s : Store ℕ) → left ≡ value.Int x → FitsSigned w128 x
    → Gives (f (Value-F.Int (to_z w128 (of_z w128 x))) s) r s → Gives (f (out-Value left) s) r s
left_int_gives f left x r s is_left a h =
    rw (is_left, out_int x) (subst (λ o. Gives (f o s) r s) (ap Value-F.Int (to_z-of_z a)) h)
