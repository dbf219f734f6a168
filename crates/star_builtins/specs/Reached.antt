-- What a call over a machine meets, and what it leaves. The results, failures and charges are those of `star_meaning`.
use Rattle.std.specs.Prelude.{◌≡◌, ◌≤◌, ◌<◌, ◌+◌, ◌-◌, ◌*◌, ℕ, List, length, IsTrue, Result, Ok, Err}
use Rattle.std.specs.List.{list_all}
use Rattle.star_syntax.specs.declared.cell.Program.{Program}
use Rattle.star_value.specs.declared.value.Value.{Value}
use Rattle.star_value.specs.declared.failure.Failure.{Failure}
use Rattle.star_value.specs.declared.stop.Stop.{Stop}
use Rattle.star_value.specs.declared.stop.Stop.TheVariants as stop
use Rattle.star_value.specs.Weight.{weight}
use Rattle.star_meaning.specs.Steps.{Outcome, Went, Failed, Store, and_then, pure, charge, ◌>>◌}
use Rattle.star_meaning.specs.Showing.{Naming}
use Rattle.star_meaning.specs.Expressions.{name_of}
use Rattle.star_meaning.specs.Validity.{MachineState, IsValid, all_in, fits, is_proper, function_at}

-- what an operation meets of a machine and a meter: the state, and the steps that are left
abbrev pub store : MachineState → ℕ → Store ℕ
store m left = record { state = m.state; left = left }

-- the names of the functions of a program's cells
abbrev pub names : Program → Naming ℕ
names program cell number = name_of (function_at program cell number)

-- a value that may stand in a machine: each reference names an object of its kind, integers have 128 bits, texts are Unicode
-- scalar values, ranges have a step other than 0, and tuples nest at most 64 deep
pub record Fits (m : MachineState) (v : Value) : Type 0 where
  pub references : IsTrue (fits m.state.objects v)
  pub proper : IsTrue (is_proper v)

-- values each of which may stand in a machine
pub record AllFit (m : MachineState) (values : List Value) : Type 0 where
  pub references : IsTrue (list_all (fits m.state.objects) values)
  pub proper : IsTrue (list_all is_proper values)

-- one more object may be made
abbrev pub HasRoom : MachineState → Type 0
HasRoom m = length m.state.objects < 1000000 * length m.ran

-- what each call leaves, also where memory was wanting: the nodes that ran are the same, every value that fitted still
-- fits, at most one object was made, values that were proper are, and every program over which the machine was valid still is
-- one
pub record Follows (before after : MachineState) : Type 0 where
  pub ran : after.ran ≡ before.ran
  pub fit : (v : Value) → Fits before v → Fits after v
  pub few : length after.state.objects ≤ length before.state.objects + 1
  pub proper : IsTrue (all_in is_proper before.state) → IsTrue (all_in is_proper after.state)
  pub valid : (program : Program) → IsValid program before → IsValid program after

-- what a call that takes no memory answers: the outcome. A call that may want memory answers by `Gives` of `star_meaning`.
abbrev pub Answers : {W A : Type 0} → Outcome W Failure A → Result A Failure → W → Type 0
Answers outcome (Ok a) new = outcome ≡ Went a new
Answers outcome (Err e) new = outcome ≡ Failed e new

-- an outcome with the charge of the result's weight, of which 1 is paid already
abbrev pub weighed : {C : Type 0} → Outcome (Store C) Failure Value → Outcome (Store C) Failure Value
weighed outcome = and_then outcome (λ v. charge (weight v - 1) >> pure v)

-- what a call answers that makes no result whose weight passes what is left: the outcome, or else the failure of the outcome
-- with its result's charge, which is the same where the outcome itself has failed
abbrev pub GivesWeighed : {C : Type 0} → Outcome (Store C) Failure Value → Result Value Stop → Store C → Type 0
GivesWeighed outcome (Ok v) new = outcome ≡ Went v new
GivesWeighed outcome (Err (stop.Failure e)) new = weighed outcome ≡ Failed e new
GivesWeighed outcome (Err stop.NoMemory) new = Unit {0}
