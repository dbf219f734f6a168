-- Calls of functions that write nothing, and their arguments.
use Rattle.std.proofs.Common.{◌≡◌, ℕ, List, [], ◌∷◌, ◌++◌, refl, sym, ap, ◌∙◌, subst, append-nil}
use Rattle.std.specs.Prelude.{Result, Ok, Err}
use Rattle.star_value.specs.declared.failure.Failure.{Failure}
use Rattle.star_value.specs.declared.stop.Stop.{Stop}
use Rattle.star_value.specs.declared.stop.Stop.TheVariants as stop
use Rattle.star_value.specs.declared.value.Value.{Value}
use Rattle.star_meaning.specs.Builtins as spec
use Rattle.star_meaning.specs.Steps.{Outcome, Went, Failed, Action, Store, Gives, pure, and_then}
use Rattle.star_meaning.specs.Showing.{Naming}
use Rattle.star_builtins.specs.declared.functions.table.Row.TheVariants as calls
use Rattle.star_builtins.specs.declared.functions.table.Silent.{Silent}
use Rattle.star_builtins.specs.Calling.{GivesWritten, chosen}
use Rattle.star_builtins.specs.Table.{row, silent_row}

-- a call that writes nothing, as one that may write
pub silent_gives : (before : List ℕ) (p : Action ℕ Value) (s t : Store ℕ) (r : Result Value Stop) → Gives (p s) r t → GivesWritten before (spec.silent p s) r t before
silent_gives before p s t (Ok v) h = ([], ap (λ o. and_then o (λ v. pure (v, []))) h, sym (append-nil before))
silent_gives before p s t (Err (stop.Failure e)) h = (ap (λ o. and_then o (λ v. pure (v, []))) h, refl)
silent_gives before p s t (Err stop.NoMemory) h = tt

pub written_as : (before after : List ℕ) (p q : Action ℕ (Value × List ℕ)) (s t : Store ℕ) (r : Result Value Stop) → p ≡ q → GivesWritten before (q s) r t after → GivesWritten before (p s) r t after
written_as before after p q s t r same h = subst (λ f. GivesWritten before (f s) r t after) (sym same) h

module _ (naming : Naming ℕ) (vs : List Value) (named : spec.ByName) where
  pub row_print : row naming calls.Print vs named ≡ spec.writing (spec.printed naming vs named)
  unfolding row
  row_print = refl

pub row_silent : (naming : Naming ℕ) (which : Silent) (vs : List Value) (named : spec.ByName) → row naming (calls.Silent which) vs named ≡ spec.silent (silent_row naming which vs named)
unfolding row
row_silent naming which vs named = refl

-- arguments that are not as the call wants them
pub refused : {A : Type 0} (p : Action ℕ Value) (f : A → Action ℕ Value) (e : Failure) (s : Store ℕ) → p ≡ chosen (Err e) f → Gives (p s) (Err (stop.Failure e)) s
refused p f e s h = ap (λ q. q s) h

-- and those that are
pub given_to : {A : Type 0} (p : Action ℕ Value) (f : A → Action ℕ Value) (a : A) (s t : Store ℕ) (r : Result Value Stop) → p ≡ chosen (Ok a) f → Gives (f a s) r t → Gives (p s) r t
given_to p f a s t r h g = subst (λ q. Gives (q s) r t) (sym h) g

pub ruleset tables = (silent_gives, written_as)
