-- The rest of an operation, once its own steps are taken.
use Rattle.std.specs.Prelude.{◌≤◌, ℕ, Bool, true, false, ◌-◌, List, Result, Ok, Err}
use Rattle.star_value.specs.declared.failure.Failure.{Failure}
use Rattle.star_value.specs.declared.stop.Stop.{Stop}
use Rattle.star_value.specs.declared.stop.Stop.TheVariants as stop
use Rattle.star_value.specs.declared.value.Value.{Value}
use Rattle.star_value.specs.declared.value.Value.TheOpen.{Value-F}
use Rattle.star_value.specs.Weight.{weight}
use Rattle.star_meaning.specs.Steps.{Outcome, Went, Failed, Store, and_then, charge, pure, ◌>>◌}
use Rattle.star_meaning.specs.World.{Frame, World, acting}

-- the outcome of an operation, in a world of this frame and this output
abbrev pub placed : {A : Type 0} → Frame → List ℕ → Outcome (Store ℕ) Failure A → Outcome (World ℕ) Failure A
placed frame out (Went a s) = Went a (record { store = s; frame = frame; out = out })
placed frame out (Failed e s) = Failed e (record { store = s; frame = frame; out = out })

-- the same with the charge of the result's weight, of which 1 is paid already
abbrev pub settled : Frame → List ℕ → Outcome (Store ℕ) Failure Value → Outcome (World ℕ) Failure Value
settled frame out o = and_then (placed frame out o) (λ v. acting (charge (weight v - 1)) >> pure v)

-- a call that does not want memory spends steps only
abbrev pub Spends : {A : Type 0} → Result A Stop → ℕ → ℕ → Type 0
Spends (Ok a) left before = left ≤ before
Spends (Err (stop.Failure e)) left before = left ≤ before
Spends (Err stop.NoMemory) left before = Unit {0}

-- the steps that are left after a call: what it leaves, or those before where memory was wanting
abbrev pub left_after : {A : Type 0} → Result A Stop → ℕ → ℕ → ℕ
left_after (Ok a) left before = left
left_after (Err (stop.Failure e)) left before = left
left_after (Err stop.NoMemory) left before = before

abbrev pub is_none_at : Value-F Value → Bool
is_none_at Value-F.None = true
is_none_at _ = false

-- a text, where a call that writes it went
abbrev pub made_of : {A : Type 0} → Result (Unit {0}) Stop → A → Result A Stop
made_of (Ok done) text = Ok text
made_of (Err e) text = Err e
