-- What a call is given, and what it answers.
use Rattle.std.specs.Prelude.{◌≡◌, ℕ, List, ◌++◌, Option, Some, None, Result, Ok, Err}
use Rattle.star_value.specs.declared.failure.Failure.{Failure}
use Rattle.star_value.specs.declared.stop.Stop.{Stop}
use Rattle.star_value.specs.declared.stop.Stop.TheVariants as stop
use Rattle.star_value.specs.declared.value.Value.{Value}
use Rattle.star_meaning.specs.Steps.{Outcome, Went, Failed, Store, Action, fail}

-- arguments that are as a call wants them go on, and others are a failure
abbrev pub chosen : {C A : Type 0} → Result A Failure → (A → Action C Value) → Action C Value
chosen (Ok a) f = f a
chosen (Err e) f = fail e

-- what is there is answered, and nothing is this failure
abbrev pub AnswersOr : {A : Type 0} → Failure → Option A → Result A Failure → Type 0
AnswersOr e found (Ok a) = found ≡ Some a
AnswersOr e found (Err other) = (found ≡ None) × (other ≡ e)

-- what a call answers that may write, over what a text held: the result, and what is written behind it; a failed call writes
-- nothing
abbrev pub GivesWritten : {C : Type 0} → List ℕ → Outcome (Store C) Failure (Value × List ℕ) → Result Value Stop → Store C → List ℕ → Type 0
GivesWritten before outcome (Ok v) new after = (text : List ℕ) × (outcome ≡ Went (v, text) new) × (after ≡ before ++ text)
GivesWritten before outcome (Err (stop.Failure e)) new after = (outcome ≡ Failed e new) × (after ≡ before)
GivesWritten before outcome (Err stop.NoMemory) new after = Unit {0}
