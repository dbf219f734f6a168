-- Rows whose arguments are taken out first.
use Rattle.std.proofs.Common.{◌≡◌, ℕ, sym, ap, ◌∙◌, subst}
use Rattle.std.specs.Prelude.{Result, Ok, Err}
use Rattle.star_value.specs.declared.failure.Failure.{Failure}
use Rattle.star_value.specs.declared.stop.Stop.{Stop}
use Rattle.star_value.specs.declared.value.Value.{Value}
use Rattle.star_meaning.specs.Steps.{Action, Failed, Gives, Outcome, Store}
use Rattle.star_builtins.specs.Calling.{chosen}
use Rattle.star_builtins.specs.Reached.{GivesWeighed}

module _ {A : Type 0} (p : Action ℕ Value) (f : A → Action ℕ Value) where
  pub given : (a : A) (s t : Store ℕ) (r : Result Value Stop) → p ≡ chosen (Ok a) f → Gives (f a s) r t → Gives (p s) r t
  given a s t r is h = subst (λ q. Gives (q s) r t) (sym is) h

  pub refused : (e : Failure) (s : Store ℕ) → p ≡ chosen (Err e) f → p s ≡ Failed e s
  refused e s is = ap (λ q. q s) is

  pub given_weighed : (o : Outcome (Store ℕ) Failure Value) (a : A) (s t : Store ℕ) (r : Result Value Stop) → o ≡ p s → p ≡ chosen (Ok a) f → GivesWeighed (f a s) r t → GivesWeighed o r t
  given_weighed o a s t r same is h = subst (λ q. GivesWeighed q r t) (sym (same ∙ ap (λ q. q s) is)) h
