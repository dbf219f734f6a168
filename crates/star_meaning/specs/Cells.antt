-- The meaning of cells and versions.
use Rattle.std.specs.Prelude.{ℕ, ◌+◌, ◌-◌, if◌then◌else◌, List, [], ◌∷◌, ◌++◌, map, Option, Some, is_some, slice_get, codes, sum}
use Rattle.std.specs.Fmt.{decimal}
use Rattle.chex_base.specs.declared.input.Input.{Input}
use Rattle.star_syntax.specs.declared.statement.Definition.{Definition}
use Rattle.star_syntax.specs.declared.statement.Module.{Module}
use Rattle.star_syntax.specs.declared.statement.Statement.{Statement}
use Rattle.star_syntax.specs.CellParts.{CellParts}
use Rattle.star_syntax.specs.Cells.{def_of, functions_of}
use Rattle.star_value.specs.declared.failure.Failure.{Failure}
use Rattle.star_value.specs.declared.failure.Failure.TheVariants as failure
use Rattle.star_meaning.specs.declared.flow.Flow.{Flow}
use Rattle.star_meaning.specs.declared.flow.Flow.TheVariants as flow
use Rattle.star_meaning.specs.declared.ran.End.{End}
use Rattle.star_meaning.specs.declared.ran.End.TheVariants as end
use Rattle.star_meaning.specs.declared.ran.Ran.{Ran}
use Rattle.star_meaning.specs.State.{State, empty}
use Rattle.star_meaning.specs.Steps.{Outcome, Went, Failed, pure, ◌>>=◌}
use Rattle.star_meaning.specs.Values.{is_empty}
use Rattle.star_meaning.specs.World.{World, Fault, Course, start}
use Rattle.star_meaning.specs.Expressions.{Setting, Callee}
use Rattle.star_meaning.specs.Statements.{go_on, statement_of, call_to}

-- ---- a cell over any names of cells

abbrev pub is_def : Statement → ℕ
is_def s = if is_some (def_of s) then 1 else 0

-- the statements of a cell, of which so many functions are defined before these
abbrev pub statements_from : {C : Type 0} → Setting C → Callee C → ℕ → List Statement → Course C Flow
statements_from setting call number [] = pure flow.On
statements_from setting call number (s ∷ more) =
    statement_of setting call s (is_empty more) (Some number) >>= go_on (statements_from setting call (number + is_def s) more)

abbrev pub ran_of : {C : Type 0} → ℕ → Outcome (World C) Fault Flow → Ran × State C
ran_of allowance (Went f w) = (record { end = end.Done; out = w.out; steps = allowance - w.store.left }, w.store.state)
ran_of allowance (Failed e w) = (record { end = end.Failed e.0 e.1; out = w.out; steps = allowance - w.store.left }, w.store.state)

-- How a cell ends, what it writes, its steps, and the state after it. Entering it costs 1; at most 32 functions are active.
unfoldable pub run : {C : Type 0} → Setting C → Module → ℕ → State C → Ran × State C
run setting tree allowance s =
    ran_of allowance (statements_from setting (call_to setting 32) 0 tree.statements (start s (allowance - 1)))

-- ---- shown states: a function has its cell itself, so that no meaning depends on how cells are numbered

abbrev pub Shown : Type 0
Shown = State CellParts

-- the functions of a cell, by number
abbrev pub function_in : CellParts → ℕ → Option (Definition Statement)
function_in cell number = slice_get (functions_of cell.«module».statements) number

abbrev pub shown_setting : CellParts → List (List ℕ × Input) → Setting CellParts
shown_setting cell inputs = record { define = function_in; cell = cell; inputs = inputs }

-- the meaning of a cell in a shown state, under inputs, with so many steps allowed
unfoldable pub ran : Shown → CellParts → List (List ℕ × Input) → ℕ → Ran × Shown
ran s cell inputs allowance = run (shown_setting cell inputs) cell.«module» allowance s

-- ---- versions, each by itself from the empty state

abbrev pub if_done : End → (Shown → List Ran) → Shown → List Ran
if_done end.Done rest s = rest s
if_done (end.Failed kind line) rest s = []

abbrev pub runs_after : Ran × Shown → (Shown → List Ran) → List Ran
runs_after r rest = r.0 ∷ if_done r.0.end rest r.1

-- the cells in order, up to and with the first that fails
abbrev pub runs_from : Shown → List CellParts → List (List ℕ × Input) → ℕ → List Ran
runs_from s [] inputs allowance = []
runs_from s (cell ∷ cells) inputs allowance = runs_after (ran s cell inputs allowance) (λ after. runs_from after cells inputs allowance)

unfoldable pub runs : List CellParts → List (List ℕ × Input) → ℕ → List Ran
runs cells inputs allowance = runs_from empty cells inputs allowance

-- the name of a failure, as it is printed
unfoldable pub failure_name : Failure → List ℕ
failure_name failure.NoMethod = codes "NoMethod"
failure_name failure.WrongArguments = codes "WrongArguments"
failure_name failure.WrongType = codes "WrongType"
failure_name failure.Unhashable = codes "Unhashable"
failure_name failure.ChangedWhileIterated = codes "ChangedWhileIterated"
failure_name failure.Unbound = codes "Unbound"
failure_name failure.NoInput = codes "NoInput"
failure_name failure.Recursion = codes "Recursion"
failure_name failure.TooManyCalls = codes "TooManyCalls"
failure_name failure.BadUnpack = codes "BadUnpack"
failure_name failure.BadIndex = codes "BadIndex"
failure_name failure.NoKey = codes "NoKey"
failure_name failure.NoElement = codes "NoElement"
failure_name failure.RepeatedKey = codes "RepeatedKey"
failure_name failure.ZeroDivisor = codes "ZeroDivisor"
failure_name failure.IntegerTooLarge = codes "IntegerTooLarge"
failure_name failure.BadText = codes "BadText"
failure_name failure.TooDeep = codes "TooDeep"
failure_name failure.StepLimit = codes "StepLimit"

-- `error: KIND at cell C line L` and a newline, after a failure in the cell of this number
abbrev pub end_text : ℕ → End → List ℕ
end_text number end.Done = []
end_text number (end.Failed kind line) =
    codes "error: " ++ failure_name kind ++ codes " at cell " ++ decimal number ++ codes " line " ++ decimal line ++ 10 ∷ []

-- what a cell writes, and after a failure its line
unfoldable pub cell_text : ℕ → Ran → List ℕ
cell_text number r = r.out ++ end_text number r.end

abbrev pub texts_from : ℕ → List Ran → List ℕ
texts_from number [] = []
texts_from number (r ∷ more) = cell_text number r ++ texts_from (number + 1) more

-- the text and the steps of a version
unfoldable pub text : List CellParts → List (List ℕ × Input) → ℕ → List ℕ
text cells inputs allowance = texts_from 1 (runs cells inputs allowance)

unfoldable pub steps : List CellParts → List (List ℕ × Input) → ℕ → ℕ
steps cells inputs allowance = sum (map (λ r. r.steps) (runs cells inputs allowance))
