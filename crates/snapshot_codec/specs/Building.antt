-- A machine while it is made from the parts of a state.
use Rattle.std.specs.Prelude.{ℕ, List, [], length, map, replicate}
use Rattle.star_value.specs.declared.value.Value.{Value}
use Rattle.star_value.specs.declared.value.Value.TheVariants as value
use Rattle.star_meaning.specs.State.{Object, AList, ADict, AFunction}
use Rattle.star_meaning.specs.Validity.{MachineState}

-- other nodes, other objects, other globals
abbrev pub with_ran : MachineState → List ℕ → MachineState
with_ran m ran = record m { ran = ran }

abbrev pub with_objects : MachineState → List (Object ℕ) → MachineState
with_objects m objects = record m { state = record m.state { objects = objects } }

abbrev pub with_globals : MachineState → List (List ℕ × Value) → MachineState
with_globals m globals = record m { state = record m.state { globals = globals } }

-- so many values that are None
abbrev pub nones : ℕ → List Value
nones n = replicate n value.None

-- an object of the same kind that holds nothing yet; a function has as many defaults
abbrev pub bare : Object ℕ → Object ℕ
bare (AList items) = AList []
bare (ADict pairs) = ADict []
bare (AFunction cell number defaults) = AFunction cell number (nones (length defaults))

-- the nodes, and objects that hold nothing yet
abbrev pub bare_state : List ℕ → List (Object ℕ) → MachineState
bare_state ran objects = record { state = record { globals = []; objects = map bare objects }; ran = ran }

abbrev pub state_with : List ℕ → List (List ℕ × Value) → List (Object ℕ) → MachineState
state_with ran globals objects = record { state = record { globals = globals; objects = objects }; ran = ran }
