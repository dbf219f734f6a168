-- The test of two keys, by their forms.
use Rattle.std.proofs.Common.{◌≡◌, ℕ, ℤ, Bool, true, false, ◌&&◌, List, [], ◌∷◌, length, map, arith, refl, sym, ap, ◌∙◌}
use Rattle.std.specs.Prelude.{bytes_eq}
use Rattle.std.specs.Bool.{beq}
use Rattle.std.specs.Ordering.{int_eq}
use Rattle.std.specs.Prelude.{nat_eq}
use Rattle.std.proofs.lemmas.Bool.Decides.{Decides-eqb, Decides-int_eq}
use Rattle.std.proofs.Math.Facts.{to_z-of_z}
use mir.Val.{SFits, of_z, to_z}
use mir.Syntax.{w128}
use Rattle.star_value.specs.declared.key.Key.{Key, map-Key, out-Key, roll-out-Key}
use Rattle.star_value.specs.declared.key.Key.TheOpen.{Key-F}
use Rattle.star_value.specs.declared.key.Key.TheVariants as k
use Rattle.star_value.specs.KeyOrder.{all_hold, same_layer, same_key}
use Rattle.star_value.specs.KeyLaws.{both_ways, same_key-roll, same_rolled}

pub same_opened : (a b : Key) → same_key a b ≡ same_layer (map-Key Key (Key → Bool) same_key (out-Key a)) (out-Key b)
same_opened a b = ap (λ c. same_key c b) (sym (roll-out-Key a)) ∙ same_key-roll (out-Key a) b

pub same_bools : (a b : Bool) → same_key (k.Bool a) (k.Bool b) ≡ beq a b
same_bools a b = rw (← k.rolls-Bool a, ← k.rolls-Bool b) (same_rolled (Key-F.Bool a) (Key-F.Bool b))

pub same_ints : (a b : ℤ) → same_key (k.Int a) (k.Int b) ≡ int_eq a b
same_ints a b = rw (← k.rolls-Int a, ← k.rolls-Int b) (same_rolled (Key-F.Int a) (Key-F.Int b))

pub same_texts : (a b : List ℕ) → same_key (k.Text a) (k.Text b) ≡ bytes_eq a b
same_texts a b = rw (← k.rolls-Text a, ← k.rolls-Text b) (same_rolled (Key-F.Text a) (Key-F.Text b))

pub same_tuples : (a b : List Key) → same_key (k.Tuple a) (k.Tuple b) ≡ all_hold (map same_key a) b
same_tuples a b = rw (← k.rolls-Tuple a, ← k.rolls-Tuple b) (same_rolled (Key-F.Tuple a) (Key-F.Tuple b))

and_false : (t : Bool) → false ≡ (t && false)
and_false true = refl
and_false false = refl

pub other_length : (a b : List Key) → (length a ≡ length b → ⊥) → false ≡ all_hold (map same_key a) b
other_length [] [] other = absurd (other refl)
other_length [] (y ∷ b) other = refl
other_length (x ∷ a) [] other = refl
other_length (x ∷ a) (y ∷ b) other = and_false (same_key x y) ∙ ap (λ t. same_key x y && t) (other_length a b (λ same. other (omega arith)))

pub ruleset cases = (same_opened, same_bools, same_ints, same_texts, same_tuples, other_length)

-- two integers of 128 bits are the same where their bits are
pub ints_same : (a b : ℤ) → SFits w128 a → SFits w128 b → nat_eq (of_z w128 a) (of_z w128 b) ≡ int_eq a b
ints_same a b fits_a fits_b = both_ways (nat_eq (of_z w128 a) (of_z w128 b)) (int_eq a b)
    (λ h. (Decides-int_eq a b).1 (sym (to_z-of_z fits_a) ∙ ap (to_z w128) ((Decides-eqb (of_z w128 a) (of_z w128 b)).0 h) ∙ to_z-of_z fits_b))
    (λ h. (Decides-eqb (of_z w128 a) (of_z w128 b)).1 (ap (of_z w128) ((Decides-int_eq a b).0 h)))
