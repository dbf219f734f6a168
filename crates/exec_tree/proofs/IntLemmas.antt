-- Two integers of 128 bits are the same where their bits are.
use Rattle.std.proofs.Common.{◌≡◌, ℤ, Bool, true, false, refl, sym, ap, ◌∙◌}
use Rattle.std.specs.Ordering.{int_eq}
use Rattle.std.specs.Prelude.{nat_eq}
use Rattle.std.proofs.lemmas.Bool.Decides.{Decides-eqb, Decides-int_eq}
use Rattle.std.proofs.Math.Facts.{to_z-of_z}
use mir.Val.{SFits, of_z, to_z}
use mir.Syntax.{w128}

both_ways : (p q : Bool) → (p ≡ true → q ≡ true) → (q ≡ true → p ≡ true) → p ≡ q
both_ways true q f g = sym (f refl)
both_ways false true f g = g refl
both_ways false false f g = refl

pub ints_same : (a b : ℤ) → SFits w128 a → SFits w128 b → nat_eq (of_z w128 a) (of_z w128 b) ≡ int_eq a b
ints_same a b fits_a fits_b = both_ways (nat_eq (of_z w128 a) (of_z w128 b)) (int_eq a b)
    (λ h. (Decides-int_eq a b).1 (sym (to_z-of_z fits_a) ∙ ap (to_z w128) ((Decides-eqb (of_z w128 a) (of_z w128 b)).0 h) ∙ to_z-of_z fits_b))
    (λ h. (Decides-eqb (of_z w128 a) (of_z w128 b)).1 (ap (of_z w128) ((Decides-int_eq a b).0 h)))
