-- What a call that writes a value at the end of a text leaves.
use Rattle.std.specs.Prelude.{◌≡◌, ℕ, List, ◌++◌, Result, Ok, Err}
use Rattle.star_value.specs.declared.failure.Failure.{Failure}
use Rattle.star_value.specs.declared.stop.Stop.{Stop}
use Rattle.star_value.specs.declared.stop.Stop.TheVariants as stop
use Rattle.star_meaning.specs.Steps.{Outcome, Went, Failed, Action, pure, ◌>>=◌}

-- a text that begins with another one
pub record Begins (front whole : List ℕ) : Type 0 where
  pub rest : List ℕ
  pub is : whole ≡ front ++ rest

-- the text that an action makes, put after another one
unfoldable pub onto : {C : Type 0} → List ℕ → Action C (List ℕ) → Action C (List ℕ)
onto before p = p >>= (λ text. pure (before ++ text))

-- what a call that writes answers, and what the text holds after it: the outcome, unless memory is wanting
abbrev pub Shows : {W : Type 0} → Outcome W Failure (List ℕ) → Result (Unit {0}) Stop → W → List ℕ → Type 0
Shows outcome (Ok done) new after = outcome ≡ Went after new
Shows outcome (Err (stop.Failure e)) new after = outcome ≡ Failed e new
Shows outcome (Err stop.NoMemory) new after = Unit {0}
