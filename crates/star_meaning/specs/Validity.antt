-- Machine states, which of them are valid over a program, and the shown states that they stand for.
use Rattle.std.specs.Prelude.{◌≤◌, ℕ, ◌*◌, ◌==◌, ◌^◌, nat_le, nat_lt, Bool, true, false, not, ◌&&◌, List, [], ◌∷◌, ◌++◌, map, length, Option, Some, None, option_and_then, is_some, IsTrue, slice_get}
use Rattle.std.specs.List.{list_all, list_any}
use Rattle.std.specs.List.Sorted.{IsStrictlySortedBy}
use Rattle.std.specs.Map.{keys_of}
use Rattle.std.specs.Str.{all_scalars}
use Rattle.chex_base.specs.declared.input.Input.{Input}
use Rattle.chex_base.specs.TextOrder.{text_cmp}
use Rattle.star_syntax.specs.declared.cell.Program.{Program}
use Rattle.star_syntax.specs.declared.statement.Definition.{Definition}
use Rattle.star_syntax.specs.declared.statement.Statement.{Statement}
use Rattle.star_syntax.specs.CellParts.{CellParts}
use Rattle.star_syntax.specs.Cells.{numbered}
use Rattle.star_value.specs.declared.key.Key.{Key}
use Rattle.star_value.specs.declared.range.Range.{Range}
use Rattle.star_value.specs.declared.value.Value.{Value, fold-Value}
use Rattle.star_value.specs.declared.value.Value.TheOpen.{Value-F}
use Rattle.star_value.specs.KeyOrder.{same_key}
use Rattle.star_value.specs.Keys as keys
use Rattle.star_value.specs.Weight.{depth}
use Rattle.star_meaning.specs.declared.ran.Ran.{Ran}
use Rattle.star_meaning.specs.State.{Object, AList, ADict, AFunction, State}
use Rattle.star_meaning.specs.Values.{has_128_bits, is_zero}
use Rattle.star_meaning.specs.Expressions.{Setting}
use Rattle.star_meaning.specs.Cells.{Shown, function_in, ran, run}

-- a state in which functions have the numbers of their cells, and the nodes that have run, in order
pub record MachineState : Type 0 where
  pub state : State ℕ
  pub ran : List ℕ

abbrev pub nothing_ran : MachineState
nothing_ran = record { state = record { globals = []; objects = [] }; ran = [] }

-- ---- references: each names an object of its kind

abbrev pub is_list : {C : Type 0} → Option (Object C) → Bool
is_list (Some (AList items)) = true
is_list (Some (ADict pairs)) = false
is_list (Some (AFunction cell number defaults)) = false
is_list None = false

abbrev pub is_dict : {C : Type 0} → Option (Object C) → Bool
is_dict (Some (AList items)) = false
is_dict (Some (ADict pairs)) = true
is_dict (Some (AFunction cell number defaults)) = false
is_dict None = false

abbrev pub is_function : {C : Type 0} → Option (Object C) → Bool
is_function (Some (AList items)) = false
is_function (Some (ADict pairs)) = false
is_function (Some (AFunction cell number defaults)) = true
is_function None = false

abbrev pub fits_step : {C : Type 0} → List (Object C) → Value-F Bool → Bool
fits_step objects (Value-F.List id) = is_list (slice_get objects id)
fits_step objects (Value-F.Dict id) = is_dict (slice_get objects id)
fits_step objects (Value-F.Function id) = is_function (slice_get objects id)
fits_step objects (Value-F.Tuple all) = list_all (λ b. b) all
fits_step objects _ = true

-- each reference in a value names an object of its kind
unfoldable pub fits : {C : Type 0} → List (Object C) → Value → Bool
fits objects = fold-Value Bool (fits_step objects)

-- a property of each value in an object, and of each value in a state; a key counts as the value that it is
abbrev pub all_in_pair : (Value → Bool) → Key × Value → Bool
all_in_pair test pair = test (keys.value_of pair.0) && test pair.1

abbrev pub all_in_object : {C : Type 0} → (Value → Bool) → Object C → Bool
all_in_object test (AList items) = list_all test items
all_in_object test (ADict pairs) = list_all (all_in_pair test) pairs
all_in_object test (AFunction cell number defaults) = list_all test defaults

abbrev pub all_in : {C : Type 0} → (Value → Bool) → State C → Bool
all_in test s = list_all (λ global. test global.1) s.globals && list_all (all_in_object test) s.objects

-- no key of a dict stands twice
abbrev pub are_distinct : List (Key × Value) → Bool
are_distinct [] = true
are_distinct (pair ∷ pairs) = not (list_any (λ other. same_key pair.0 other.0) pairs) && are_distinct pairs

abbrev pub has_distinct_keys : {C : Type 0} → Object C → Bool
has_distinct_keys (AList items) = true
has_distinct_keys (ADict pairs) = are_distinct pairs
has_distinct_keys (AFunction cell number defaults) = true

-- the numbers of nodes, and of functions in their cells, have 32 bits
abbrev pub has_32_bits : ℕ → Bool
has_32_bits n = nat_lt n (2 ^ 32)

abbrev pub has_small_numbers : Object ℕ → Bool
has_small_numbers (AList items) = true
has_small_numbers (ADict pairs) = true
has_small_numbers (AFunction cell number defaults) = has_32_bits cell && has_32_bits number

-- What each machine keeps, over whatever program. The numbers of objects are below their count.
pub record IsMachine (m : MachineState) : Type 0 where
  pub names : IsStrictlySortedBy text_cmp (keys_of m.state.globals)
  pub characters : IsTrue (list_all all_scalars (keys_of m.state.globals))
  pub nodes : IsTrue (list_all has_32_bits m.ran)
  pub numbers : IsTrue (list_all has_small_numbers m.state.objects)
  pub keys : IsTrue (list_all has_distinct_keys m.state.objects)
  pub references : IsTrue (all_in (fits m.state.objects) m.state)
  pub few : length m.ran ≤ 64
  pub room : length m.state.objects ≤ 1000000 * length m.ran

-- ---- values: integers have 128 bits, texts are Unicode scalar values, ranges have a step other than 0, and tuples nest at
-- most 64 deep

abbrev pub proper_range : Range → Bool
proper_range r = has_128_bits r.start && has_128_bits r.stop && has_128_bits r.step && not (is_zero r.step)

abbrev pub proper_step : Value-F Bool → Bool
proper_step (Value-F.Int z) = has_128_bits z
proper_step (Value-F.Text points) = all_scalars points
proper_step (Value-F.Range r) = proper_range r
proper_step (Value-F.Tuple all) = list_all (λ b. b) all
proper_step _ = true

unfoldable pub is_proper : Value → Bool
is_proper v = nat_le (depth v) 64 && fold-Value Bool proper_step v

-- ---- programs

-- the function of a node's cell, by number
unfoldable pub function_at : Program → ℕ → ℕ → Option (Definition Statement)
function_at program node number = option_and_then (λ cell. function_in cell number) (numbered program.cells node)

-- whether a function's cell has run, and has that function with that number of defaults
abbrev pub has_defaults : List Value → Option (Definition Statement) → Bool
has_defaults defaults None = false
has_defaults defaults (Some def) = length defaults == length def.defaults

abbrev pub is_defined : Program → List ℕ → Object ℕ → Bool
is_defined program ran (AList items) = true
is_defined program ran (ADict pairs) = true
is_defined program ran (AFunction cell number defaults) =
    list_any (λ node. node == cell) ran && has_defaults defaults (function_at program cell number)

-- A valid machine state over a program.
pub record IsValid (program : Program) (m : MachineState) : Type 0 where
  pub kept : IsMachine m
  pub values : IsTrue (all_in is_proper m.state)
  pub nodes : IsTrue (list_all (λ node. is_some (numbered program.cells node)) m.ran)
  pub functions : IsTrue (list_all (is_defined program m.ran) m.state.objects)

-- ---- what a machine state shows: the cell itself in place of each function's cell number

abbrev pub no_cell : CellParts
no_cell = record { source = []; «module» = record { statements = [] }; inputs = [] }

abbrev pub cell_or_none : Option CellParts → CellParts
cell_or_none None = no_cell
cell_or_none (Some cell) = cell

-- the cell of a node; every node that has run is in the program
unfoldable pub cell_of : Program → ℕ → CellParts
cell_of program node = cell_or_none (numbered program.cells node)

-- an object with another name for its cell
abbrev pub renamed : {C D : Type 0} → (C → D) → Object C → Object D
renamed name (AList items) = AList items
renamed name (ADict pairs) = ADict pairs
renamed name (AFunction cell number defaults) = AFunction (name cell) number defaults

unfoldable pub shown : Program → MachineState → Shown
shown program m = record { globals = m.state.globals; objects = map (renamed (cell_of program)) m.state.objects }

-- ---- the machine state after a cell

-- the cell number that an object of the state before has, or else the node's
abbrev pub number_or : ℕ → Option (Object ℕ) → ℕ
number_or node (Some (AFunction cell number defaults)) = cell
number_or node (Some (AList items)) = node
number_or node (Some (ADict pairs)) = node
number_or node None = node

-- shown objects with numbers of cells again: functions of the state before keep theirs, and new ones have the node's
abbrev pub numbered_from : ℕ → List (Object ℕ) → List (Object CellParts) → List (Object ℕ)
numbered_from node before [] = []
numbered_from node [] (o ∷ os) = renamed (λ cell. node) o ∷ numbered_from node [] os
numbered_from node (b ∷ bs) (o ∷ os) = renamed (λ cell. number_or node (Some b)) o ∷ numbered_from node bs os

-- The machine state after a node's cell: what it shows is the meaning's state, and the node has run.
unfoldable pub after : Program → MachineState → ℕ → List (List ℕ × Input) → ℕ → MachineState
after program m node inputs allowance =
    let end = ran (shown program m) (cell_of program node) inputs allowance in
    record {
      state = record { globals = end.1.globals; objects = numbered_from node m.state.objects end.1.objects };
      ran = m.ran ++ node ∷ [];
    }

-- how the cell ends, what it writes, and its steps
unfoldable pub ran_at : Program → MachineState → ℕ → List (List ℕ × Input) → ℕ → Ran
ran_at program m node inputs allowance = (ran (shown program m) (cell_of program node) inputs allowance).0

-- ---- the same by numbers alone, which is what a machine does

abbrev pub numbered_setting : Program → ℕ → List (List ℕ × Input) → Setting ℕ
numbered_setting program node inputs = record { define = function_at program; cell = node; inputs = inputs }

-- a node's cell in a machine's state: how it ends, and the state after it
unfoldable pub run_at : Program → MachineState → ℕ → List (List ℕ × Input) → ℕ → Ran × State ℕ
run_at program m node inputs allowance = run (numbered_setting program node inputs) (cell_of program node).«module» allowance m.state
