-- What a statement answers.
use Rattle.std.specs.Prelude.{◌≡◌, ℕ, List, length, Option, Some, None, option_map, Result, Ok, Err}
use Rattle.star_value.specs.declared.failure.Failure.TheVariants as failure
use Rattle.star_value.specs.declared.stop.Stop.{Stop}
use Rattle.star_value.specs.declared.stop.Stop.TheVariants as stop
use Rattle.star_value.specs.declared.value.Value.{Value}
use Rattle.star_meaning.specs.declared.flow.Flow.{Flow}
use Rattle.star_meaning.specs.declared.flow.Flow.TheVariants as flow
use Rattle.star_meaning.specs.Steps.{Outcome, Went, Failed}
use Rattle.star_meaning.specs.Validity.{MachineState}
use Rattle.star_meaning.specs.World.{Fault}
use Rattle.star_builtins.specs.Reached.{Fits}
use Rattle.star_run.specs.declared.halt.Halt.{Halt}
use Rattle.star_run.specs.declared.halt.Halt.TheVariants as halt

abbrev pub at_line : ℕ → Stop → Halt
at_line line (stop.Failure e) = halt.Failed e line
at_line line stop.NoMemory = halt.NoMemory

-- the outcome, unless memory was wanting
abbrev pub Halts : {W A : Type 0} → Outcome W Fault A → Result A Halt → W → Type 0
Halts outcome (Ok a) new = outcome ≡ Went a new
Halts outcome (Err (halt.Failed e line)) new = outcome ≡ Failed (e, line) new
Halts outcome (Err halt.NoMemory) new = Unit {0}

-- the value that a statement returns, where it returns one, may stand in the machine
abbrev pub FlowFits : MachineState → Flow → Type 0
FlowFits m flow.On = Unit {0}
FlowFits m flow.Break = Unit {0}
FlowFits m flow.Continue = Unit {0}
FlowFits m (flow.Return v) = Fits m v

-- how many items there are to iterate over; what cannot be iterated fails with this line
abbrev pub Counted : Option (List Value) → ℕ → Result ℕ Halt → Type 0
Counted o at (Ok count) = option_map length o ≡ Some count
Counted o at (Err e) = (o ≡ None) × (e ≡ halt.Failed failure.WrongType at)
