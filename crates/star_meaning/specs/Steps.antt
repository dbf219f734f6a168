-- Steps: what takes a state with steps left to another one, and gives a result or fails.
use Rattle.std.specs.Prelude.{◌≡◌, ℕ, Option, Some, None, Result, Ok, Err}
use Rattle.star_value.specs.declared.failure.Failure.{Failure}
use Rattle.star_value.specs.declared.stop.Stop.{Stop}
use Rattle.star_value.specs.declared.stop.Stop.TheVariants as stop
use Rattle.star_value.specs.Charge.{charged}
use Rattle.star_meaning.specs.State.{State}

-- ---- outcomes

-- a result, or a failure, with what is reached by then
pub data Outcome (W E A : Type 0) : Type 0 where
  Went : A → W → Outcome W E A
  Failed : E → W → Outcome W E A

abbrev pub Steps : Type 0 → Type 0 → Type 0 → Type 0
Steps W E A = W → Outcome W E A

abbrev pub and_then : {W E A B : Type 0} → Outcome W E A → (A → Steps W E B) → Outcome W E B
and_then (Went a w) f = f a w
and_then (Failed e w) f = Failed e w

infixl 10 ◌>>=◌
abbrev pub ◌>>=◌ : {W E A B : Type 0} → Steps W E A → (A → Steps W E B) → Steps W E B
p >>= f = λ w. and_then (p w) f

infixl 10 ◌>>◌
abbrev pub ◌>>◌ : {W E A B : Type 0} → Steps W E A → Steps W E B → Steps W E B
p >> q = p >>= (λ _. q)

abbrev pub pure : {W E A : Type 0} → A → Steps W E A
pure a = λ w. Went a w

abbrev pub fail : {W E A : Type 0} → E → Steps W E A
fail e = λ w. Failed e w

-- what is there, or a failure where nothing is
abbrev pub given_or : {W E A : Type 0} → E → Option A → Steps W E A
given_or e None = fail e
given_or e (Some a) = pure a

-- what a function of the program answers: the outcome, unless memory is wanting
abbrev pub Gives : {W A : Type 0} → Outcome W Failure A → Result A Stop → W → Type 0
Gives outcome (Ok a) new = outcome ≡ Went a new
Gives outcome (Err (stop.Failure e)) new = outcome ≡ Failed e new
Gives outcome (Err stop.NoMemory) new = Unit {0}

-- ---- operations: what they meet is the state and the steps that are left

pub record Store (C : Type 0) : Type 0 where
  pub state : State C
  pub left : ℕ

abbrev pub Action : Type 0 → Type 0 → Type 0
Action C A = Steps (Store C) Failure A

abbrev pub paid : {C : Type 0} → State C → Result (Unit {0}) Failure × ℕ → Outcome (Store C) Failure (Unit {0})
paid s (Ok done, left) = Went tt (record { state = s; left = left })
paid s (Err e, left) = Failed e (record { state = s; left = left })

-- a charge that passes what is left fails with StepLimit, and nothing is left then
unfoldable pub charge : {C : Type 0} → ℕ → Action C (Unit {0})
charge count = λ s. paid s.state (charged s.left count)

-- what is read from the state
abbrev pub read : {C A : Type 0} → (State C → A) → Action C A
read of = λ s. Went (of s.state) s

-- a change of the state
abbrev pub change : {C : Type 0} → (State C → State C) → Action C (Unit {0})
change by = λ s. Went tt (record s { state = by s.state })
