-- Texts put after one another.
use Rattle.std.proofs.Common.{◌≡◌, ℕ, zero, suc, List, [], ◌++◌, length, refl, sym, ap, ◌∙◌, append_assoc, append-nil, arith, ◌<◌}
use Rattle.std.specs.Prelude.{codes}
use Rattle.star_value.specs.declared.failure.Failure.{Failure}
use Rattle.star_meaning.specs.State.{State}
use Rattle.star_meaning.specs.Steps.{Outcome, Went, Failed, Action, Store, pure, charge, paid, and_then, ◌>>=◌}
use Rattle.star_meaning.specs.Showing.{made, ◌<+>◌}
use Rattle.star_value.specs.Charge.{charged}
use Rattle.star_builtins.specs.Shows.{Begins, onto}
use Rattle.star_builtins.proofs.Words.{chars_comma}
use Rattle.star_builtins.specs.Pieces.{separator}

pub begins_same : (a : List ℕ) → Begins a a
begins_same a = record { rest = []; is = sym (append-nil a) }

pub begins_more : (a b more : List ℕ) (front : List ℕ) → b ≡ a ++ more → Begins front a → Begins front b
begins_more a b more front is begins = record { rest = begins.rest ++ more; is = is ∙ ap (λ t. t ++ more) begins.is ∙ append_assoc front begins.rest more }

module _ {C : Type 0} where
  -- a text that is charged and put after another one
  pub onto_made : (before text : List ℕ) (s : Store C) → onto before (made text) s ≡ and_then (charge (length text) s) (λ _. pure (before ++ text))
  unfolding onto made
  onto_made before text s = elim (charge (length text) s) as (λ o. and_then (and_then o (λ _. pure text)) (λ t. pure (before ++ t)) ≡ and_then o (λ _. pure (before ++ text))) [ Went a w ↦ refl | Failed e w ↦ refl ]

  both_then : (before a : List ℕ) (o : Outcome (Store C) Failure (List ℕ)) → and_then (and_then o (λ b. pure (a ++ b))) (λ t. pure (before ++ t)) ≡ and_then o (λ b. pure (before ++ a ++ b))
  both_then before a (Went b w) = ap (λ t. Went t w) (sym (append_assoc before a b))
  both_then before a (Failed e w) = refl

  both_of : (before : List ℕ) (q : Action C (List ℕ)) (o : Outcome (Store C) Failure (List ℕ))
      → and_then (and_then o (λ a. q >>= (λ b. pure (a ++ b)))) (λ t. pure (before ++ t)) ≡ and_then (and_then o (λ t. pure (before ++ t))) (λ t. onto t q)
  unfolding onto
  both_of before q (Went a w) = both_then before a (q w)
  both_of before q (Failed e w) = refl

  pub charge_is : (s : State C) (left count : ℕ) → charge count (record { state = s; left = left }) ≡ paid s (charged left count)
  unfolding charge
  charge_is s left count = refl

  -- one text after another
  pub onto_both : (before : List ℕ) (p q : Action C (List ℕ)) (s : Store C) → onto before (p <+> q) s ≡ and_then (onto before p s) (λ t. onto t q)
  unfolding onto
  onto_both before p q s = both_of before q (p s)

  and_again : {A B D : Type 0} (o : Outcome (Store C) Failure A) (f : A → Action C B) (g : B → Action C D) → and_then (and_then o f) g ≡ and_then o (λ a. f a >>= g)
  and_again (Went a w) f g = refl
  and_again (Failed e w) f g = refl

  -- three texts after one another
  pub onto_three : (before : List ℕ) (p q r : Action C (List ℕ)) (s : Store C) → onto before (p <+> q <+> r) s ≡ and_then (onto before p s) (λ t. onto t q >>= (λ u. onto u r))
  onto_three before p q r s =
      onto_both before (p <+> q) r s ∙ ap (λ o. and_then o (λ u. onto u r)) (onto_both before p q s) ∙ and_again (onto before p s) (λ t. onto t q) (λ u. onto u r)

  pub onto_nothing : (before : List ℕ) (s : Store C) → onto before (pure []) s ≡ Went before s
  unfolding onto
  onto_nothing before s = ap (λ t. Went t s) (append-nil before)

  pub onto_separator_first : (before : List ℕ) (place : ℕ) (s : Store C) → place ≡ 0 → onto before (separator place) s ≡ Went before s
  unfolding separator
  onto_separator_first before zero s h = onto_nothing before s
  onto_separator_first before (suc place) s h = absurd (cc)

  pub separator_later : (place : ℕ) → 0 < place → separator {C = C} place ≡ made (codes ", ")
  unfolding separator
  separator_later zero h = absurd (omega arith)
  separator_later (suc place) h = refl

pub ruleset writing = (onto_made, charge_is, onto_nothing, onto_separator_first, separator_later, chars_comma, begins_more, begins_same)
