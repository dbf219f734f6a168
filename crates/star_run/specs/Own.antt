-- What the statements that stand directly in a cell do.
use Rattle.std.specs.Prelude.{◌≡◌, ◌≤◌, ◌+◌, ◌==◌, ℕ, List, length, map, slice_get, IsTrue, Option, Some, None, Result, Ok, Err}
use Rattle.std.specs.List.{list_any}
use Rattle.star_syntax.specs.declared.cell.Program.{Program}
use Rattle.star_syntax.specs.declared.statement.Definition.{Definition}
use Rattle.star_syntax.specs.declared.statement.Statement.{Statement}
use Rattle.star_syntax.specs.Cells.{def_of, functions_of}
use Rattle.star_value.specs.declared.value.Value.{Value}
use Rattle.star_meaning.specs.declared.flow.Flow.{Flow}
use Rattle.star_meaning.specs.declared.ran.End.{End}
use Rattle.star_meaning.specs.declared.ran.End.TheVariants as end
use Rattle.star_meaning.specs.declared.ran.Ran.{Ran}
use Rattle.star_meaning.specs.Expressions.{values}
use Rattle.star_meaning.specs.State.{AFunction}
use Rattle.star_meaning.specs.Steps.{charge, ◌>>=◌, ◌>>◌}
use Rattle.star_meaning.specs.Validity.{IsValid, function_at, is_defined}
use Rattle.star_meaning.specs.Values.{new_function}
use Rattle.star_meaning.specs.World.{Work, acting, bind}
use Rattle.star_builtins.specs.Reached.{Fits}
use Rattle.star_run.specs.declared.halt.Halt.{Halt}
use Rattle.star_run.specs.declared.halt.Halt.TheVariants as halt
use Rattle.star_run.specs.Fixed.{Fixed, meaning}
use Rattle.star_run.specs.Running.{Running}

-- ---- what is left

-- what each of them leaves: as other steps, but that new functions are those of the program
pub record OwnGoes (program : Program) (before after : Running) : Type 0 where
  pub ran : after.machine.ran ≡ before.machine.ran
  pub fit : (v : Value) → Fits before.machine v → Fits after.machine v
  pub valid : IsValid program before.machine → IsValid program after.machine
  pub few : length after.machine.state.objects + after.left ≤ length before.machine.state.objects + before.left

-- what the making of a function leaves that was paid before: a program over which the machine was valid, and which has that
-- function in a cell that ran, still is one
pub record MakesFunction (cell number : ℕ) (defaults : List Value) (before after : Running) : Type 0 where
  pub ran : after.machine.ran ≡ before.machine.ran
  pub fit : (v : Value) → Fits before.machine v → Fits after.machine v
  pub valid : (program : Program) → IsTrue (is_defined program before.machine.ran (AFunction cell number defaults)) → IsValid program before.machine → IsValid program after.machine
  pub few : length after.machine.state.objects + after.left ≤ length before.machine.state.objects + before.left + 1

-- ---- the functions of a cell

-- whether the cell of a node has been entered
abbrev pub Entered : ℕ → List ℕ → Type 0
Entered node ran = IsTrue (list_any (λ n. n == node) ran)

-- the functions of these statements have the numbers from this one on
pub record NumbersFrom (program : Program) (node number : ℕ) (all : List Statement) : Type 0 where
  pub each : (n : ℕ) → function_at program node (number + n) ≡ slice_get (functions_of all) n

-- where a statement is a `def`, the function of this number is its
abbrev pub DefinesAt : Program → ℕ → ℕ → Option (Definition Statement) → Type 0
DefinesAt program node number None = Unit {0}
DefinesAt program node number (Some def) = function_at program node number ≡ Some def

abbrev pub Defines : Program → ℕ → ℕ → Statement → Type 0
Defines program node number s = DefinesAt program node number (def_of s)

-- a `def`: its charge, its defaults, the new function and its name
abbrev pub defined_here : Fixed → ℕ → Definition Statement → ℕ → Work ℕ (Unit {0})
defined_here g depth def number = do
  acting (charge 1)
  defaults ← values (map (λ named. meaning g depth named.value) def.defaults)
  v ← acting (new_function g.node number defaults)
  bind def.name v

-- ---- the end of a cell

-- how a cell ends, by what its statements answer; where memory was wanting it has no end
abbrev pub end_of : Result Flow Halt → Option End
end_of (Ok flow) = Some end.Done
end_of (Err (halt.Failed e line)) = Some (end.Failed e line)
end_of (Err halt.NoMemory) = None

-- what a cell did, by what its statements answer, what is written, and its steps
pub record Tells (outcome : Result Flow Halt) (text : List ℕ) (count : ℕ) (ran : Ran) : Type 0 where
  pub end : end_of outcome ≡ Some ran.end
  pub out : ran.out ≡ text
  pub steps : ran.steps ≡ count
